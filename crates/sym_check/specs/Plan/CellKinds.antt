-- What the cells of a plan are, by their numbers.
use Rattle.std.specs.Prelude.{◌≡◌, ℕ, ℤ, Bool, List, Some, slice_get}
use Rattle.sym_base.specs.declared.values.value.Value.{Value}
use Rattle.sym_check.specs.declared.plan.script.KindPlan.{KindPlan}
use Rattle.sym_check.specs.declared.plan.script.CellPlan.{CellPlan}
use Rattle.sym_check.specs.declared.plan.script.CellPlan.TheVariants as plan

-- An integer cell; the others in the same way.
pub record IsIntCell (cells : List CellPlan) (c : ℕ) : Type 0 where
  pub lo : ℤ
  pub hi : ℤ
  pub first : ℤ
  pub clamp : Bool
  pub is : slice_get cells c ≡ Some (plan.Int lo hi first clamp)

pub record IsNumsCell (cells : List CellPlan) (c : ℕ) : Type 0 where
  pub lo : ℤ
  pub hi : ℤ
  pub clamp : Bool
  pub is : slice_get cells c ≡ Some (plan.Nums lo hi clamp)

pub record IsWordsCell (cells : List CellPlan) (c : ℕ) : Type 0 where
  pub is : slice_get cells c ≡ Some plan.Words

-- A hold cell with these part kinds.
pub record IsHoldCell (cells : List CellPlan) (c : ℕ) (parts : List KindPlan) : Type 0 where
  pub first : List Value
  pub is : slice_get cells c ≡ Some (plan.Hold parts first)

-- A cell of this enum.
pub record IsEnumCell (cells : List CellPlan) (c enum : ℕ) : Type 0 where
  pub first : ℕ
  pub is : slice_get cells c ≡ Some (plan.Enum enum first)
