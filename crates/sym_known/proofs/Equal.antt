-- What the derived equality of outcomes decides.
use Rattle.std.proofs.Common.{◌≡◌, ℕ, ℤ, List, rules}
use Rattle.std.specs.Bool.{Decides}
use Rattle.std.specs.Ordering.{int_eq}
use Rattle.std.specs.Cmp.{signed_Decides}
use Rattle.std.specs.Cmp.Lexicographic.{pointwise, pointwise_decides, bytes_decides}
use Rattle.sym_base.specs.contracts.values.state.CellPartialEq.TheImpl as cell_equality
use Rattle.sym_base.specs.contracts.values.state.StatePartialEq.TheImpl as state_equality
use Rattle.sym_base.specs.contracts.values.state.OutcomePartialEq.TheImpl as outcome_equality
use Rattle.sym_base.specs.declared.values.state.Cell.{Cell}
use Rattle.sym_base.specs.declared.values.state.State.{State}
use Rattle.sym_base.specs.declared.values.state.Outcome.{Outcome}
use Rattle.sym_base.proofs.ValueLemmas.{values_eq-Decides}

nums_eq-Decides : (xs ys : List ℤ) → Decides (pointwise int_eq xs ys) (xs ≡ ys)
nums_eq-Decides = pointwise_decides signed_Decides

cell_eq-Decides : (x y : Cell) → Decides ((cell_equality.ghosts).eq x y) (x ≡ y)
cell_eq-Decides x y = search (rules, values_eq-Decides, nums_eq-Decides, pointwise_decides, bytes_decides)

cells_eq-Decides : (xs ys : List Cell) → Decides (pointwise (cell_equality.ghosts).eq xs ys) (xs ≡ ys)
cells_eq-Decides = pointwise_decides cell_eq-Decides

state_eq-Decides : (x y : State) → Decides ((state_equality.ghosts).eq x y) (x ≡ y)
state_eq-Decides x y = search (rules, cells_eq-Decides)

pub outcome_eq-Decides : (x y : Outcome) → Decides ((outcome_equality.ghosts).eq x y) (x ≡ y)
outcome_eq-Decides x y = search (rules, state_eq-Decides)
