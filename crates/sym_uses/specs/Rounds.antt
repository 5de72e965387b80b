-- What a row of chunk numbers stands for.
use Rattle.std.specs.Prelude.{◌≡◌, ℕ, ◌+◌, ◌<◌, ◌≤◌, true, None, List, length, slice_index}
use Rattle.sym_board.specs.Passes.{hand, has_ended}
use Rattle.sym_board.specs.declared.pass.Pass.{Pass}
use Rattle.sym_uses.specs.declared.rounds.Work.{Work}
use Rattle.sym_uses.specs.declared.rounds.Row.{Row}

-- the numbers from lo up to but without hi, in order
pub record Counts (lo hi : ℕ) (items : List ℕ) : Type 0 where
  pub long : lo + length items ≡ hi
  pub each : (k : ℕ) → k < length items → slice_index items k ≡ lo + k

-- a row stands for the chunks that it counts
abbrev pub Stands : Work → ℕ → ℕ → Row → Type 0
Stands work lo hi row = Counts lo hi row.numbers.items × (hi ≤ work.chunks)

module _ {P I : Type 0} {g : _} where
  -- a worker got to the end: its hand is empty, and a claim found no leaf
  abbrev pub IsDone : Pass P I g → Type 0
  IsDone p = (hand p ≡ None) × (has_ended p ≡ true)
