-- Lines and terms as plain data.
use Rattle.std.specs.Prelude.{ℕ}
use Rattle.sym_check.specs.declared.plan.expression.Line.{Line}
use Rattle.sym_check.specs.declared.plan.expression.Line.TheVariants as line
use Rattle.sym_check.specs.declared.plan.expression.Term.{Term}
use Rattle.sym_check.specs.declared.plan.expression.Term.TheVariants as term
use Rattle.sym_check.specs.Plan.FixedPlans.{NumPlan, num_plan}

-- A number that is linear in one integer cell.
pub data LinePlan : Type 0 where
  Cell : ℕ → LinePlan
  Neg : LinePlan → LinePlan
  Add : LinePlan → NumPlan → LinePlan
  Scale : NumPlan → LinePlan → LinePlan

abbrev pub line_plan : Line → LinePlan
line_plan (line.Cell c) = Cell c
line_plan (line.Neg' p l) = Neg (line_plan l)
line_plan (line.Add' p l n) = Add (line_plan l) (num_plan n)
line_plan (line.Scale' n p l) = Scale (num_plan n) (line_plan l)

-- A number that may be linear in one integer cell.
pub data TermPlan : Type 0 where
  OfNum : NumPlan → TermPlan
  OfLine : LinePlan → TermPlan

abbrev pub term_plan : Term → TermPlan
term_plan (term.Fixed n) = OfNum (num_plan n)
term_plan (term.Line l) = OfLine (line_plan l)
