-- Expressions of the report as plain data.
use Rattle.std.specs.Prelude.{ℕ, ℤ, List}
use Rattle.sym_check.specs.declared.plan.expression.ArithOp.{ArithOp}
use Rattle.sym_check.specs.declared.plan.show.ShowFn.{ShowFn}
use Rattle.sym_check.specs.declared.plan.show.Show.{Show}
use Rattle.sym_check.specs.declared.plan.show.Show.TheVariants as show

pub data ShowPlan : Type 0 where
  Num : ℤ → ShowPlan
  Text : List ℕ → ShowPlan
  Cell : ℕ → ShowPlan
  Part : ℕ → ℕ → ShowPlan
  Call : ShowFn → ℕ → ShowPlan
  Neg : ShowPlan → ShowPlan
  Bin : ArithOp → ShowPlan → ShowPlan → ShowPlan

abbrev pub show_plan : Show → ShowPlan
show_plan (show.Num n) = Num n
show_plan (show.Text t) = Text t
show_plan (show.Cell c) = Cell c
show_plan (show.Part c k) = Part c k
show_plan (show.Call f c) = Call f c
show_plan (show.Neg' p e) = Neg (show_plan e)
show_plan (show.Bin' op p l q r) = Bin op (show_plan l) (show_plan r)
