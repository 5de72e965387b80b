-- Two plans are equal in at most one way, so that a checked script may keep an equation of plans.
-- A copy of each type has this by its form, and the type has it by its copy.
use Rattle.std.specs.Prelude.{◌≡◌, ℕ, ℤ, List, [], ◌∷◌, Result, Ok, Err, refl}
use Rattle.std.proofs.Common.{sym, ap, ◌∙◌}
use Rattle.std.specs.Coded.{Coded-set}
use mathlib.Core.HLevel.{collapsible→set}
use mathlib.Core.List.{is_set as List-set}
use native.Mathlib.Nat.{ℕ_set}
use lib.IntN.{ℤ_set}
use Rattle.sym_base.specs.contracts.tree.compare.Compare as compare_row
use Rattle.sym_base.specs.declared.tree.compare.Compare.{Compare}
use Rattle.sym_check.specs.contracts.plan.expression.ArithOp as arith_row
use Rattle.sym_check.specs.contracts.plan.expression.WordOf as word_row
use Rattle.sym_check.specs.contracts.plan.expression.LabelOf as label_row
use Rattle.sym_check.specs.contracts.plan.show.ShowFn as show_fn_row
use Rattle.sym_check.specs.contracts.plan.script.KindPlan as kind_row
use Rattle.sym_check.specs.contracts.plan.script.EnumPlan as enum_row
use Rattle.sym_check.specs.contracts.plan.script.FieldPlan as field_row
use Rattle.sym_check.specs.contracts.plan.script.CellPlan as cell_row
use Rattle.sym_check.specs.contracts.elaborate.error.CheckErr as error_row
use Rattle.sym_check.specs.declared.plan.expression.ArithOp.{ArithOp}
use Rattle.sym_check.specs.declared.plan.expression.WordOf.{WordOf}
use Rattle.sym_check.specs.declared.plan.expression.LabelOf.{LabelOf}
use Rattle.sym_check.specs.declared.plan.show.ShowFn.{ShowFn}
use Rattle.sym_check.specs.declared.plan.script.KindPlan.{KindPlan}
use Rattle.sym_check.specs.declared.plan.script.EnumPlan.{EnumPlan}
use Rattle.sym_check.specs.declared.plan.script.FieldPlan.{FieldPlan}
use Rattle.sym_check.specs.declared.plan.script.CellPlan.{CellPlan}
use Rattle.sym_check.specs.declared.elaborate.error.CheckErr.{CheckErr}
use Rattle.sym_check.specs.Plan.FixedPlans.{NumPlan, FixedPlan}
use Rattle.sym_check.specs.Plan.FixedPlans as fixed
use Rattle.sym_check.specs.Plan.LinePlans.{LinePlan, TermPlan}
use Rattle.sym_check.specs.Plan.LinePlans as line
use Rattle.sym_check.specs.Plan.CondPlans.{CondPlan}
use Rattle.sym_check.specs.Plan.CondPlans as cond
use Rattle.sym_check.specs.Plan.ShowPlans.{ShowPlan}
use Rattle.sym_check.specs.Plan.ShowPlans as show
use Rattle.sym_check.specs.Plan.DoPlans.{DoPlan, DosPlan}
use Rattle.sym_check.specs.Plan.DoPlans as one
use Rattle.sym_check.specs.Plan.ScriptPlans.{TestOf, ColumnOf, ScriptPlan, script_plan}
use Rattle.sym_base.specs.declared.tree.script.Script.{Script}
use Rattle.sym_base.specs.Trees.{script_tree}
use Rattle.sym_check.specs.declared.plan.script.Plan.{Plan}
use Rattle.sym_check.specs.Rules.Scripts.{plan_of}

-- A type that maps into a set and back has equations that hold in one way, as the set's do.
retract_set : {A B : Type 0} (to : A → B) (from : B → A)
    → ((x : A) → from (to x) ≡ x) → IsSet B → IsSet A
retract_set to from back set =
    collapsible→set (λ x y p. sym (back x) ∙ ap from (ap to p) ∙ back y)
    (λ x y p q. ap (λ z. sym (back x) ∙ ap from z ∙ back y)
    (set (to x) (to y) (ap to p) (ap to q)))

-- Two equations of records agree at a field that is a set.
agree : {R A : Type 0} → IsSet A → (get : R → A) (a b : R) (p q : a ≡ b) → ap get p ≡ ap get q
agree set get a b p q = set (get a) (get b) (ap get p) (ap get q)

ArithOp-set : IsSet ArithOp
ArithOp-set = Coded-set arith_row.the_row.coded

Compare-set : IsSet Compare
Compare-set = Coded-set compare_row.the_row.coded

WordOf-set : IsSet WordOf
WordOf-set = Coded-set word_row.the_row.coded

LabelOf-set : IsSet LabelOf
LabelOf-set = Coded-set label_row.the_row.coded

ShowFn-set : IsSet ShowFn
ShowFn-set = Coded-set show_fn_row.the_row.coded

KindPlan-set : IsSet KindPlan
KindPlan-set = Coded-set kind_row.the_row.coded

EnumPlan-set : IsSet EnumPlan
EnumPlan-set = Coded-set enum_row.the_row.coded

FieldPlan-set : IsSet FieldPlan
FieldPlan-set = Coded-set field_row.the_row.coded

CellPlan-set : IsSet CellPlan
CellPlan-set = Coded-set cell_row.the_row.coded

CheckErr-set : IsSet CheckErr
CheckErr-set = Coded-set error_row.the_row.coded

data NumCopy : Type 0 where
  num_lit : ℤ → NumCopy
  num_field : ℕ → NumCopy
  num_local : ℕ → NumCopy
  num_param : ℕ → NumCopy
  num_neg : NumCopy → NumCopy
  num_bin : ArithOp → NumCopy → NumCopy → NumCopy
  deriving IsSet as NumCopy-set

abbrev to_num : NumPlan → NumCopy
to_num (fixed.Lit a) = num_lit a
to_num (fixed.Field a) = num_field a
to_num (fixed.Local a) = num_local a
to_num (fixed.Param a) = num_param a
to_num (fixed.Neg a) = num_neg (to_num a)
to_num (fixed.Bin a b c) = num_bin a (to_num b) (to_num c)

abbrev of_num : NumCopy → NumPlan
of_num (num_lit a) = fixed.Lit a
of_num (num_field a) = fixed.Field a
of_num (num_local a) = fixed.Local a
of_num (num_param a) = fixed.Param a
of_num (num_neg a) = fixed.Neg (of_num a)
of_num (num_bin a b c) = fixed.Bin a (of_num b) (of_num c)

same_num : (x : NumPlan) → of_num (to_num x) ≡ x
same_num (fixed.Lit a) = refl
same_num (fixed.Field a) = refl
same_num (fixed.Local a) = refl
same_num (fixed.Param a) = refl
same_num (fixed.Neg a) = ap (λ (x : NumPlan). fixed.Neg x) (same_num a)
same_num (fixed.Bin a b c) =
    ap (λ (x : NumPlan). fixed.Bin a x (of_num (to_num c))) (same_num b)
    ∙ ap (λ (x : NumPlan). fixed.Bin a b x) (same_num c)

pub NumPlan-set : IsSet NumPlan
NumPlan-set = retract_set to_num of_num same_num (NumCopy-set ℤ_set ℕ_set ArithOp-set)

data FixedCopy : Type 0 where
  fixed_ofnum : NumPlan → FixedCopy
  fixed_ofword : WordOf → FixedCopy
  fixed_oflabel : LabelOf → FixedCopy
  deriving IsSet as FixedCopy-set

abbrev to_fixed : FixedPlan → FixedCopy
to_fixed (fixed.OfNum a) = fixed_ofnum a
to_fixed (fixed.OfWord a) = fixed_ofword a
to_fixed (fixed.OfLabel a) = fixed_oflabel a

abbrev of_fixed : FixedCopy → FixedPlan
of_fixed (fixed_ofnum a) = fixed.OfNum a
of_fixed (fixed_ofword a) = fixed.OfWord a
of_fixed (fixed_oflabel a) = fixed.OfLabel a

same_fixed : (x : FixedPlan) → of_fixed (to_fixed x) ≡ x
same_fixed (fixed.OfNum a) = refl
same_fixed (fixed.OfWord a) = refl
same_fixed (fixed.OfLabel a) = refl

pub FixedPlan-set : IsSet FixedPlan
FixedPlan-set =
    retract_set to_fixed of_fixed same_fixed
    (FixedCopy-set NumPlan-set WordOf-set LabelOf-set)

data LineCopy : Type 0 where
  line_cell : ℕ → LineCopy
  line_neg : LineCopy → LineCopy
  line_add : LineCopy → NumPlan → LineCopy
  line_scale : NumPlan → LineCopy → LineCopy
  deriving IsSet as LineCopy-set

abbrev to_line : LinePlan → LineCopy
to_line (line.Cell a) = line_cell a
to_line (line.Neg a) = line_neg (to_line a)
to_line (line.Add a b) = line_add (to_line a) b
to_line (line.Scale a b) = line_scale a (to_line b)

abbrev of_line : LineCopy → LinePlan
of_line (line_cell a) = line.Cell a
of_line (line_neg a) = line.Neg (of_line a)
of_line (line_add a b) = line.Add (of_line a) b
of_line (line_scale a b) = line.Scale a (of_line b)

same_line : (x : LinePlan) → of_line (to_line x) ≡ x
same_line (line.Cell a) = refl
same_line (line.Neg a) = ap (λ (x : LinePlan). line.Neg x) (same_line a)
same_line (line.Add a b) = ap (λ (x : LinePlan). line.Add x b) (same_line a)
same_line (line.Scale a b) = ap (λ (x : LinePlan). line.Scale a x) (same_line b)

pub LinePlan-set : IsSet LinePlan
LinePlan-set = retract_set to_line of_line same_line (LineCopy-set ℕ_set NumPlan-set)

data TermCopy : Type 0 where
  term_ofnum : NumPlan → TermCopy
  term_ofline : LinePlan → TermCopy
  deriving IsSet as TermCopy-set

abbrev to_term : TermPlan → TermCopy
to_term (line.OfNum a) = term_ofnum a
to_term (line.OfLine a) = term_ofline a

abbrev of_term : TermCopy → TermPlan
of_term (term_ofnum a) = line.OfNum a
of_term (term_ofline a) = line.OfLine a

same_term : (x : TermPlan) → of_term (to_term x) ≡ x
same_term (line.OfNum a) = refl
same_term (line.OfLine a) = refl

pub TermPlan-set : IsSet TermPlan
TermPlan-set = retract_set to_term of_term same_term (TermCopy-set NumPlan-set LinePlan-set)

data CondCopy : Type 0 where
  cond_compared : Compare → TermPlan → NumPlan → CondCopy
  cond_words : WordOf → WordOf → CondCopy
  cond_cellis : ℕ → LabelOf → CondCopy
  cond_labelis : LabelOf → LabelOf → CondCopy
  cond_test : ℕ → ℕ → List FixedPlan → CondCopy
  cond_not : CondCopy → CondCopy
  cond_and : CondCopy → CondCopy → CondCopy
  cond_or : CondCopy → CondCopy → CondCopy
  deriving IsSet as CondCopy-set

abbrev to_cond : CondPlan → CondCopy
to_cond (cond.Compared a b c) = cond_compared a b c
to_cond (cond.Words a b) = cond_words a b
to_cond (cond.CellIs a b) = cond_cellis a b
to_cond (cond.LabelIs a b) = cond_labelis a b
to_cond (cond.Test a b c) = cond_test a b c
to_cond (cond.Not a) = cond_not (to_cond a)
to_cond (cond.And a b) = cond_and (to_cond a) (to_cond b)
to_cond (cond.Or a b) = cond_or (to_cond a) (to_cond b)

abbrev of_cond : CondCopy → CondPlan
of_cond (cond_compared a b c) = cond.Compared a b c
of_cond (cond_words a b) = cond.Words a b
of_cond (cond_cellis a b) = cond.CellIs a b
of_cond (cond_labelis a b) = cond.LabelIs a b
of_cond (cond_test a b c) = cond.Test a b c
of_cond (cond_not a) = cond.Not (of_cond a)
of_cond (cond_and a b) = cond.And (of_cond a) (of_cond b)
of_cond (cond_or a b) = cond.Or (of_cond a) (of_cond b)

same_cond : (x : CondPlan) → of_cond (to_cond x) ≡ x
same_cond (cond.Compared a b c) = refl
same_cond (cond.Words a b) = refl
same_cond (cond.CellIs a b) = refl
same_cond (cond.LabelIs a b) = refl
same_cond (cond.Test a b c) = refl
same_cond (cond.Not a) = ap (λ (x : CondPlan). cond.Not x) (same_cond a)
same_cond (cond.And a b) =
    ap (λ (x : CondPlan). cond.And x (of_cond (to_cond b))) (same_cond a)
    ∙ ap (λ (x : CondPlan). cond.And a x) (same_cond b)
same_cond (cond.Or a b) =
    ap (λ (x : CondPlan). cond.Or x (of_cond (to_cond b))) (same_cond a)
    ∙ ap (λ (x : CondPlan). cond.Or a x) (same_cond b)

pub CondPlan-set : IsSet CondPlan
CondPlan-set =
    retract_set to_cond of_cond same_cond
    (CondCopy-set Compare-set TermPlan-set NumPlan-set WordOf-set ℕ_set
    LabelOf-set (List-set FixedPlan-set))

data ShowCopy : Type 0 where
  show_num : ℤ → ShowCopy
  show_text : List ℕ → ShowCopy
  show_cell : ℕ → ShowCopy
  show_part : ℕ → ℕ → ShowCopy
  show_call : ShowFn → ℕ → ShowCopy
  show_neg : ShowCopy → ShowCopy
  show_bin : ArithOp → ShowCopy → ShowCopy → ShowCopy
  deriving IsSet as ShowCopy-set

abbrev to_show : ShowPlan → ShowCopy
to_show (show.Num a) = show_num a
to_show (show.Text a) = show_text a
to_show (show.Cell a) = show_cell a
to_show (show.Part a b) = show_part a b
to_show (show.Call a b) = show_call a b
to_show (show.Neg a) = show_neg (to_show a)
to_show (show.Bin a b c) = show_bin a (to_show b) (to_show c)

abbrev of_show : ShowCopy → ShowPlan
of_show (show_num a) = show.Num a
of_show (show_text a) = show.Text a
of_show (show_cell a) = show.Cell a
of_show (show_part a b) = show.Part a b
of_show (show_call a b) = show.Call a b
of_show (show_neg a) = show.Neg (of_show a)
of_show (show_bin a b c) = show.Bin a (of_show b) (of_show c)

same_show : (x : ShowPlan) → of_show (to_show x) ≡ x
same_show (show.Num a) = refl
same_show (show.Text a) = refl
same_show (show.Cell a) = refl
same_show (show.Part a b) = refl
same_show (show.Call a b) = refl
same_show (show.Neg a) = ap (λ (x : ShowPlan). show.Neg x) (same_show a)
same_show (show.Bin a b c) =
    ap (λ (x : ShowPlan). show.Bin a x (of_show (to_show c))) (same_show b)
    ∙ ap (λ (x : ShowPlan). show.Bin a b x) (same_show c)

pub ShowPlan-set : IsSet ShowPlan
ShowPlan-set =
    retract_set to_show of_show same_show
    (ShowCopy-set ℤ_set (List-set ℕ_set) ℕ_set ShowFn-set ArithOp-set)

-- One copy for a statement and a list of them.
data DoCopy : Type 0 where
  do_let : ℕ → FixedPlan → DoCopy
  do_setint : ℕ → TermPlan → DoCopy
  do_setenum : ℕ → LabelOf → DoCopy
  do_copyenum : ℕ → ℕ → DoCopy
  do_keep : ℕ → List FixedPlan → DoCopy
  do_keepfrom : ℕ → ℕ → DoCopy
  do_pushnum : ℕ → TermPlan → DoCopy
  do_pushword : ℕ → WordOf → DoCopy
  do_if : CondPlan → DoCopy → DoCopy → DoCopy
  dos_end : DoCopy
  dos_then : DoCopy → DoCopy → DoCopy
  deriving IsSet as DoCopy-set

abbrev mutual
  to_do : DoPlan → DoCopy
  to_do (one.Let n e) = do_let n e
  to_do (one.SetInt c t) = do_setint c t
  to_do (one.SetEnum c l) = do_setenum c l
  to_do (one.CopyEnum c d) = do_copyenum c d
  to_do (one.Keep c es) = do_keep c es
  to_do (one.KeepFrom c d) = do_keepfrom c d
  to_do (one.PushNum c t) = do_pushnum c t
  to_do (one.PushWord c w) = do_pushword c w
  to_do (one.If c a b) = do_if c (to_dos a) (to_dos b)

  to_dos : DosPlan → DoCopy
  to_dos one.End = dos_end
  to_dos (one.Then d ds) = dos_then (to_do d) (to_dos ds)

-- The statement and the list that this is a copy of; any others where it is none.
abbrev back_do : DoCopy → DoPlan × DosPlan
back_do (do_let n e) = (one.Let n e, one.End)
back_do (do_setint c t) = (one.SetInt c t, one.End)
back_do (do_setenum c l) = (one.SetEnum c l, one.End)
back_do (do_copyenum c d) = (one.CopyEnum c d, one.End)
back_do (do_keep c es) = (one.Keep c es, one.End)
back_do (do_keepfrom c d) = (one.KeepFrom c d, one.End)
back_do (do_pushnum c t) = (one.PushNum c t, one.End)
back_do (do_pushword c w) = (one.PushWord c w, one.End)
back_do (do_if c a b) = (one.If c (back_do a).1 (back_do b).1, one.End)
back_do dos_end = (one.CopyEnum 0 0, one.End)
back_do (dos_then d ds) = (one.CopyEnum 0 0, one.Then (back_do d).0 (back_do ds).1)

abbrev of_dos : DoCopy → DosPlan
of_dos x = (back_do x).1

abbrev mutual
  same_do : (x : DoPlan) → (back_do (to_do x)).0 ≡ x
  same_do (one.Let n e) = refl
  same_do (one.SetInt c t) = refl
  same_do (one.SetEnum c l) = refl
  same_do (one.CopyEnum c d) = refl
  same_do (one.Keep c es) = refl
  same_do (one.KeepFrom c d) = refl
  same_do (one.PushNum c t) = refl
  same_do (one.PushWord c w) = refl
  same_do (one.If c a b) =
      ap (λ (x : DosPlan). one.If c x (of_dos (to_dos b))) (same_dos a)
      ∙ ap (λ (x : DosPlan). one.If c a x) (same_dos b)

  same_dos : (x : DosPlan) → of_dos (to_dos x) ≡ x
  same_dos one.End = refl
  same_dos (one.Then d ds) =
      ap (λ (x : DoPlan). one.Then x (of_dos (to_dos ds))) (same_do d)
      ∙ ap (λ (x : DosPlan). one.Then d x) (same_dos ds)

pub DosPlan-set : IsSet DosPlan
DosPlan-set =
    retract_set to_dos of_dos same_dos
    (DoCopy-set ℕ_set FixedPlan-set TermPlan-set
    LabelOf-set (List-set FixedPlan-set) WordOf-set CondPlan-set)

pub TestOf-set : IsSet TestOf
TestOf-set a b p q = λ i j. record {
  params = agree (List-set KindPlan-set) (λ (t : TestOf). t.params) a b p q i j;
  body = agree CondPlan-set (λ (t : TestOf). t.body) a b p q i j;
}

pub ColumnOf-set : IsSet ColumnOf
ColumnOf-set a b p q = λ i j. record {
  name = agree (List-set ℕ_set) (λ (c : ColumnOf). c.name) a b p q i j;
  value = agree ShowPlan-set (λ (c : ColumnOf). c.value) a b p q i j;
}

pub ScriptPlan-set : IsSet ScriptPlan
ScriptPlan-set a b p q = λ i j. record {
  enums = agree (List-set EnumPlan-set) (λ (s : ScriptPlan). s.enums) a b p q i j;
  fields = agree (List-set FieldPlan-set) (λ (s : ScriptPlan). s.fields) a b p q i j;
  group = agree (List-set ℕ_set) (λ (s : ScriptPlan). s.group) a b p q i j;
  cells = agree (List-set CellPlan-set) (λ (s : ScriptPlan). s.cells) a b p q i j;
  tests = agree (List-set TestOf-set) (λ (s : ScriptPlan). s.tests) a b p q i j;
  update = agree DosPlan-set (λ (s : ScriptPlan). s.update) a b p q i j;
  columns = agree (List-set ColumnOf-set) (λ (s : ScriptPlan). s.columns) a b p q i j;
}

data OutcomeCopy : Type 0 where
  outcome_ok : ScriptPlan → OutcomeCopy
  outcome_err : CheckErr → OutcomeCopy
  deriving IsSet as OutcomeCopy-set

abbrev to_outcome : Result ScriptPlan CheckErr → OutcomeCopy
to_outcome (Ok p) = outcome_ok p
to_outcome (Err e) = outcome_err e

abbrev of_outcome : OutcomeCopy → Result ScriptPlan CheckErr
of_outcome (outcome_ok p) = Ok p
of_outcome (outcome_err e) = Err e

same_outcome : (x : Result ScriptPlan CheckErr) → of_outcome (to_outcome x) ≡ x
same_outcome (Ok p) = refl
same_outcome (Err e) = refl

Outcome-set : IsSet (Result ScriptPlan CheckErr)
Outcome-set =
    retract_set to_outcome of_outcome same_outcome
    (OutcomeCopy-set ScriptPlan-set CheckErr-set)

-- The script has this plan, which it has in at most one way.
abbrev pub IsPlanned : Script → Plan → Type 0
IsPlanned script plan = plan_of (script_tree script) ≡ Ok (script_plan plan)

pub IsPlanned-prop : (script : Script) (plan : Plan) → IsProp (IsPlanned script plan)
IsPlanned-prop script plan = Outcome-set (plan_of (script_tree script)) (Ok (script_plan plan))
