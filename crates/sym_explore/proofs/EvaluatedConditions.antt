-- Conditions whose expressions without cells were evaluated.
use Rattle.std.proofs.Common.{◌≡◌, ◌≤◌, ℕ, ℤ, Bool, List, Result, Ok, Err, refl, sym, ap, ◌∙◌, subst, arith}
use Rattle.std.specs.Prelude.{IsTrue}
use Rattle.sym_base.specs.Comparing.{compares}
use Rattle.sym_base.specs.Limits.{IsNumber}
use Rattle.sym_base.specs.States.{parts_at}
use Rattle.sym_base.specs.declared.tree.compare.Compare.{Compare}
use Rattle.sym_base.specs.declared.values.state.Outcome.{Outcome}
use Rattle.sym_base.specs.declared.values.state.Outcome.TheVariants.{Going, Ended}
use Rattle.sym_base.specs.declared.values.value.Value.{Value}
use Rattle.sym_check.proofs.ValidSteps.{number_is}
use Rattle.sym_check.specs.Meaning.Arithmetic.{◌>>=◌}
use Rattle.sym_check.specs.Meaning.Conditions.{is_fixed_term, test_truth}
use Rattle.sym_check.specs.Plan.CondPlans.{CondPlan, Compared, Test}
use Rattle.sym_check.specs.Plan.FixedPlans.{FixedPlan, NumPlan}
use Rattle.sym_check.specs.Meaning.FixedValues.{Environment, fixed_values, number}
use Rattle.sym_check.specs.Plan.LinePlans.{OfLine, OfNum, TermPlan}
use Rattle.sym_check.specs.Plan.ScriptPlans.{ScriptPlan}
use Rattle.sym_check.specs.declared.evaluate.arithmetic.Arith.{Arith}
use Rattle.sym_check.specs.declared.evaluate.pairs.Pair.{Pair}
use Rattle.sym_int.specs.Cuts.{most_with}
use Rattle.sym_explore.specs.Evaluating.{IsEvaluated, evaluated_truth}
use Rattle.sym_explore.specs.Branches.{answered, tried, with_answer}
use Rattle.sym_explore.specs.Counting.{term_branches}
use Rattle.sym_explore.specs.Knowing.{CondIsKnown}
use Rattle.sym_explore.specs.Terms.{is_fixed_ready, ready_number, ready_of}
use Rattle.sym_explore.specs.declared.parted_lists.Evaluated.{Evaluated}
use Rattle.sym_explore.specs.declared.parted_lists.Evaluated.TheVariants.{Open}
use Rattle.sym_explore.specs.declared.parted_lists.CellCondition.TheVariants.{Call}
use Rattle.sym_explore.specs.declared.parted_lists.CellCondition.TheVariants as cell_condition
use Rattle.sym_explore.specs.declared.terms.Ready.{Ready}
use Rattle.sym_explore.specs.declared.terms.Ready.TheVariants as ready
use Rattle.sym_explore.proofs.TermForms.{ready_fits, ready_gives, ready_is_fixed}
use Rattle.sym_explore.proofs.TestsHeld.{called_suits}

-- It means what the condition does.
pub evaluated_alike : (p : ScriptPlan) (k : Environment) (n : ℕ) (c : CondPlan) (args : List Value) (evaluated : Evaluated) → IsEvaluated p k c args evaluated → (o : Outcome) → answered n (evaluated_truth p args evaluated) o ≡ tried p k n c o
evaluated_alike p k n c args evaluated h (Going s) = ap (with_answer n s) (sym (h.same s))
evaluated_alike p k n c args evaluated h (Ended fault) = refl

-- ---- comparisons

line_few : (k : Environment) (compare : Compare) (t : TermPlan) (q : Pair) → ready_of k t ≡ Ok (ready.Line q) → (x : Bool) → most_with compare x ≤ term_branches compare t x
line_few k compare (OfNum n) q e x = go (number k n) e
  where
    go : (r : Result ℤ Arith) → (r >>= λ y. Ok (ready.Number y)) ≡ Ok (ready.Line q) → most_with compare x ≤ 1
    go (Ok y) g = absurd (cc)
    go (Err f) g = absurd (cc)
line_few k compare (OfLine l) q e x = omega arith

not_fixed_line : (k : Environment) (t : TermPlan) (q : Pair) → ready_of k t ≡ Ok (ready.Line q) → IsTrue (is_fixed_term t) → ⊥
not_fixed_line k t q e fixed = let h : IsTrue (is_fixed_ready (ready.Line q)) = ready_is_fixed k t (ready.Line q) e fixed in cc

pub line_evaluated : (p : ScriptPlan) (k : Environment) (compare : Compare) (t : TermPlan) (n : NumPlan) (args : List Value) (r : Ready) (q : Pair) (y stored : ℤ) → CondIsKnown p k (Compared compare t n) → ready_of k t ≡ Ok r → r ≡ ready.Line q → number k n ≡ Ok y → (IsNumber y → stored ≡ y) → IsEvaluated p k (Compared compare t n) args (Open (cell_condition.Compare r (record { compare = compare; number = stored })))
line_evaluated p k compare t n args r q y stored known e is f same =
    let fits : IsNumber y = number_is p.enums known.kinds k known.known n y known.well.1 f in
    let line : ready_of k t ≡ Ok (ready.Line q) = e ∙ ap (λ (x : Ready). Ok x) is in
    record {
      same = λ s.
          (λ i. ready_gives k t r e s i >>= (λ x. f i >>= (λ z. Ok (compares compare x z))))
          ∙ ap (λ (z : ℤ). Ok (compares compare (ready_number r s) z)) (sym (same fits));
      fits = (ready_fits p k t r (record { kinds = known.kinds; known = known.known; well = known.well.0 }) e, subst IsNumber (sym (same fits)) fits);
      few = line_few k compare t q line;
      fixed = λ g. absurd (not_fixed_line k t q line g);
    }

-- ---- tests

pub call_evaluated : (p : ScriptPlan) (k : Environment) (test c : ℕ) (es : List FixedPlan) (args : List Value) → CondIsKnown p k (Test test c es) → fixed_values k es ≡ Ok args → IsEvaluated p k (Test test c es) args (Open (Call test c))
call_evaluated p k test c es args known made = record {
  same = λ s. ap (λ (r : Result (List Value) Arith). r >>= (λ values. Ok (test_truth p.tests test values (parts_at s c)))) made;
  fits = called_suits p k test c es args known made;
  few = λ x. omega arith;
  fixed = λ g. absurd (cc);
}
