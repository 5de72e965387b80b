-- What opening a file leaves.
use Rattle.std.proofs.Common.{◌≡◌, ◌≤◌, ◌+◌, ℕ, arith, List, [], ◌∷◌, length, Option, Some, Ok, IfSome}
use Rattle.sym_check.specs.declared.plan.script.FieldPlan.{FieldPlan}
use Rattle.sym_table.specs.declared.header.Header.{Header}
use Rattle.sym_table.specs.Cutting.{HeadsBy}
use Rattle.sym_table.specs.Reading.{Row}

room_left : (new : Option (List Row)) (rest : List Row) (n m most : ℕ) → new ≡ Some rest → length rest ≤ m → n + m ≤ most
    → IfSome new (λ rows. n + length rows ≤ most)
room_left new rest n m most e few h = rw e (omega arith)

-- There are numbers for all rows that are left.
pub room : (fields : List FieldPlan) (rows : List Row) (new : Option (List Row)) (h : Header) (n m most : ℕ)
    → HeadsBy fields rows new (Ok h) → length rows ≤ m → n + m ≤ most → IfSome new (λ left. n + length left ≤ most)
room fields [] new h n m most e few fits = room_left new [] n m most e few fits
room fields (header ∷ rest) new h n m most e few fits =
    let shorter : length rest ≤ m = omega arith in room_left new rest n m most e.2 shorter fits
