-- Laws of the definitions on plans.
use Rattle.std.proofs.Common.{◌≡◌, refl, arith, suc, true, List, [], ◌∷◌, ◌++◌}
use Rattle.std.specs.Prelude.{IsTrue}
use Rattle.std.specs.List.{list_all, All}
use Rattle.std.specs.Cmp.Derive.{both_true}
use Rattle.sym_base.specs.declared.values.record.Record.{Record}
use Rattle.sym_base.specs.declared.values.state.Fault.{Fault}
use Rattle.sym_base.specs.declared.values.state.Outcome.{Outcome}
use Rattle.sym_base.specs.declared.values.state.Outcome.TheVariants.{Ended}
use Rattle.sym_check.specs.Plan.LinePlans as line
use Rattle.sym_check.specs.Plan.CondPlans.{CondPlan, Compared, Words, CellIs, LabelIs, Test, Not, And, Or}
use Rattle.sym_check.specs.Plan.ScriptPlans.{ScriptPlan, TestOf}
use Rattle.sym_check.specs.Plan.LinePlans.{LinePlan}
use Rattle.sym_check.specs.Meaning.Conditions.{is_fixed, has_fixed_body}
use Rattle.sym_check.specs.Meaning.Updates.{step, after}
use Rattle.sym_check.specs.Plan.WellFormed.{Kinds, IsLine, IsCond, IsTest, IsWellFormed}

pub after_more : (p : ScriptPlan) (records : List Record) (rec : Record) (o : Outcome) → after p (records ++ rec ∷ []) o ≡ step p (after p records o) rec
after_more p [] rec o = refl
after_more p (first ∷ records) rec o = after_more p records rec (step p o first)

abbrev without_cells : ScriptPlan → ScriptPlan
without_cells p = record p { cells = []; tests = [] }

-- Without cells there is no line.
no_line : (k : Kinds) (l : LinePlan) → IsLine [] k l → ⊥
no_line k (line.Cell c) t = let is = t.is in cc
no_line k (line.Neg l) t = no_line k l t
no_line k (line.Add l n) t = no_line k l t.0
no_line k (line.Scale n l) t = no_line k l t.1

fixed_cond : (p : ScriptPlan) (k : Kinds) (c : CondPlan) → IsCond (without_cells p) k c → is_fixed c ≡ true
fixed_cond p k (Compared compare (line.OfNum m) n) t = refl
fixed_cond p k (Compared compare (line.OfLine l) n) t = absurd (no_line k l t.0)
fixed_cond p k (Words v w) t = refl
fixed_cond p k (CellIs c l) t = let is = t.of_cell.is in cc
fixed_cond p k (LabelIs l m) t = refl
fixed_cond p k (Test test c args) t = let is = t.is_test in cc
fixed_cond p k (Not c) t = fixed_cond p k c t
fixed_cond p k (And c d) t = both_true (fixed_cond p k c t.0) (fixed_cond p k d t.1)
fixed_cond p k (Or c d) t = both_true (fixed_cond p k c t.0) (fixed_cond p k d t.1)

all_fixed : (p : ScriptPlan) (tests : List TestOf) → All (IsTest p) tests → list_all has_fixed_body tests ≡ true
all_fixed p [] h = refl
all_fixed p (t ∷ tests) h =
    let first : IsTest p t = h 0 t (omega arith) in
    both_true (fixed_cond p (record { fields = []; locals = []; params = t.params }) t.body first.body) (all_fixed p tests (λ i d lt. h (suc i) d (omega arith)))

pub bodies_are_fixed : (p : ScriptPlan) → IsWellFormed p → IsTrue (list_all has_fixed_body p.tests)
bodies_are_fixed p w = all_fixed p p.tests w.tests

-- More records go on from where the first ones ended.
pub after_append : (p : ScriptPlan) (first rest : List Record) (o : Outcome) → after p (first ++ rest) o ≡ after p rest (after p first o)
after_append p [] rest o = refl
after_append p (rec ∷ first) rest o = after_append p first rest (step p o rec)

-- A group that has ended stays as it is.
pub ended_stays : (p : ScriptPlan) (records : List Record) (fault : Fault) → after p records (Ended fault) ≡ Ended fault
ended_stays p [] fault = refl
ended_stays p (rec ∷ records) fault = ended_stays p records fault
