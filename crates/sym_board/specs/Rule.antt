-- The rule of a board's table, which reads the input, the number of leaves and the number of passes
-- from the table's key.
use Rattle.std.specs.Prelude.{ℕ, Option, Some, None}
use Rattle.atomic_table.specs.Table.{State}
use Rattle.sym_board.specs.Core.{Orderly}
use Rattle.sym_board.specs.declared.view.View.{View}
use Rattle.sym_board.specs.declared.view.About.{About}

abbrev pub Keeps : {P I : Type 0} → (I → ℕ → ℕ → P → Type 0) →
    About I → State (Option P) (View I) → Type 0
Keeps stands about = Orderly stands about.input.value about.leaves about.seats

abbrev pub first_view : {I : Type 0} → About I → View I
first_view about = record {
  input = Some about.input.value;
  leaves = about.leaves;
  seats = about.seats;
  hand = None;
  claim_found = 0;
  delivered = None;
  arrival_found = 0;
  claimed = 0;
  ended = 0;
  passes = about.seats;
}
