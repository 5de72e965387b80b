-- Fixed expressions as plain data: what a contract sees of a plan whose parts are boxed.
use Rattle.std.specs.Prelude.{ℕ, ℤ}
use Rattle.sym_check.specs.declared.plan.expression.ArithOp.{ArithOp}
use Rattle.sym_check.specs.declared.plan.expression.WordOf.{WordOf}
use Rattle.sym_check.specs.declared.plan.expression.LabelOf.{LabelOf}
use Rattle.sym_check.specs.declared.plan.expression.Num.{Num}
use Rattle.sym_check.specs.declared.plan.expression.Num.TheVariants as num
use Rattle.sym_check.specs.declared.plan.expression.Fixed.{Fixed}
use Rattle.sym_check.specs.declared.plan.expression.Fixed.TheVariants as fixed

-- A number that no cell takes part in.
pub data NumPlan : Type 0 where
  Lit : ℤ → NumPlan
  Field : ℕ → NumPlan
  Local : ℕ → NumPlan
  Param : ℕ → NumPlan
  Neg : NumPlan → NumPlan
  Bin : ArithOp → NumPlan → NumPlan → NumPlan

abbrev pub num_plan : Num → NumPlan
num_plan (num.Lit n) = Lit n
num_plan (num.Field i) = Field i
num_plan (num.Local i) = Local i
num_plan (num.Param i) = Param i
num_plan (num.Neg' p n) = Neg (num_plan n)
num_plan (num.Bin' op p l q r) = Bin op (num_plan l) (num_plan r)

-- A value that no cell takes part in.
pub data FixedPlan : Type 0 where
  OfNum : NumPlan → FixedPlan
  OfWord : WordOf → FixedPlan
  OfLabel : LabelOf → FixedPlan

abbrev pub fixed_plan : Fixed → FixedPlan
fixed_plan (fixed.Num n) = OfNum (num_plan n)
fixed_plan (fixed.Word w) = OfWord w
fixed_plan (fixed.Label l) = OfLabel l
