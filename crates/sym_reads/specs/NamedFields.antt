-- The numbers of the fields that an update names, in the order of the text, as often as they stand
-- there.
use Rattle.std.specs.Prelude.{ℕ, Bool, true, List, [], ◌∷◌, ◌++◌, slice_set}
use Rattle.sym_check.specs.declared.plan.expression.WordOf.{WordOf}
use Rattle.sym_check.specs.declared.plan.expression.WordOf.TheVariants as word
use Rattle.sym_check.specs.declared.plan.expression.LabelOf.{LabelOf}
use Rattle.sym_check.specs.declared.plan.expression.LabelOf.TheVariants as label
use Rattle.sym_check.specs.Plan.FixedPlans.{NumPlan, FixedPlan}
use Rattle.sym_check.specs.Plan.FixedPlans as fixed
use Rattle.sym_check.specs.Plan.LinePlans.{LinePlan, TermPlan}
use Rattle.sym_check.specs.Plan.LinePlans as line
use Rattle.sym_check.specs.Plan.CondPlans.{CondPlan}
use Rattle.sym_check.specs.Plan.CondPlans as cond
use Rattle.sym_check.specs.Plan.DoPlans.{DoPlan, DosPlan}
use Rattle.sym_check.specs.Plan.DoPlans as one
use Rattle.sym_check.specs.Plan.ScriptPlans.{ScriptPlan}

abbrev pub num_fields : NumPlan → List ℕ
num_fields (fixed.Lit n) = []
num_fields (fixed.Field i) = i ∷ []
num_fields (fixed.Local i) = []
num_fields (fixed.Param i) = []
num_fields (fixed.Neg n) = num_fields n
num_fields (fixed.Bin op l r) = num_fields l ++ num_fields r

abbrev pub word_fields : WordOf → List ℕ
word_fields (word.Lit t) = []
word_fields (word.Field i) = i ∷ []
word_fields (word.Local i) = []
word_fields (word.Param i) = []

abbrev pub label_fields : LabelOf → List ℕ
label_fields (label.Lit l) = []
label_fields (label.Field i) = i ∷ []
label_fields (label.Local i) = []
label_fields (label.Param i) = []

abbrev pub fixed_fields : FixedPlan → List ℕ
fixed_fields (fixed.OfNum n) = num_fields n
fixed_fields (fixed.OfWord w) = word_fields w
fixed_fields (fixed.OfLabel l) = label_fields l

abbrev pub fields_of_all : List FixedPlan → List ℕ
fields_of_all [] = []
fields_of_all (e ∷ rest) = fixed_fields e ++ fields_of_all rest

abbrev pub line_fields : LinePlan → List ℕ
line_fields (line.Cell c) = []
line_fields (line.Neg l) = line_fields l
line_fields (line.Add l n) = line_fields l ++ num_fields n
line_fields (line.Scale n l) = num_fields n ++ line_fields l

abbrev pub term_fields : TermPlan → List ℕ
term_fields (line.OfNum n) = num_fields n
term_fields (line.OfLine l) = line_fields l

abbrev pub cond_fields : CondPlan → List ℕ
cond_fields (cond.Compared compare t n) = term_fields t ++ num_fields n
cond_fields (cond.Words v w) = word_fields v ++ word_fields w
cond_fields (cond.CellIs c l) = label_fields l
cond_fields (cond.LabelIs l m) = label_fields l ++ label_fields m
cond_fields (cond.Test test c args) = fields_of_all args
cond_fields (cond.Not c) = cond_fields c
cond_fields (cond.And c d) = cond_fields c ++ cond_fields d
cond_fields (cond.Or c d) = cond_fields c ++ cond_fields d

abbrev mutual
  pub do_fields : DoPlan → List ℕ
  do_fields (one.Let n e) = fixed_fields e
  do_fields (one.SetInt c t) = term_fields t
  do_fields (one.SetEnum c l) = label_fields l
  do_fields (one.CopyEnum c d) = []
  do_fields (one.Keep c values) = fields_of_all values
  do_fields (one.KeepFrom c d) = []
  do_fields (one.PushNum c t) = term_fields t
  do_fields (one.PushWord c w) = word_fields w
  do_fields (one.If c a b) = cond_fields c ++ (dos_fields a ++ dos_fields b)

  pub dos_fields : DosPlan → List ℕ
  dos_fields one.End = []
  dos_fields (one.Then d rest) = do_fields d ++ dos_fields rest

abbrev pub named_fields : ScriptPlan → List ℕ
named_fields p = dos_fields p.update

-- The marks with one more at each of these numbers. A number without a mark has none.
abbrev pub with_marks : List ℕ → List Bool → List Bool
with_marks [] marks = marks
with_marks (i ∷ rest) marks = with_marks rest (slice_set marks i true)
