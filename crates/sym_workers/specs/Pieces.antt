-- Runs as pieces that meet on a board, and the board of a round.
use Rattle.std.specs.Prelude.{◌≡◌, ◌≤◌, ◌<◌, ◌*◌, ℕ, true, None, length, min}
use Rattle.sym_base.specs.declared.limits.TheConstants as limit
use Rattle.sym_board.specs.Passes.{board_input, board_leaves, hand, has_ended}
use Rattle.sym_board.specs.declared.board.Board.{Board}
use Rattle.sym_board.specs.declared.pass.Pass.{Pass}
use Rattle.sym_check.specs.Checking.CheckedScripts.{checked_plan}
use Rattle.sym_run.specs.declared.runs.Run.{Run}
use Rattle.sym_run.specs.Runs.{IsFromTo, StandsForChunks}
use Rattle.sym_files.specs.declared.rounds.Work.{Work}
use Rattle.sym_files.specs.Rounds.{IsRound}

-- A run stands for the chunks of a round from lo up to but without hi.
pub record StandsFrom (work : Work) (lo hi : ℕ) (run : Run) : Type 0 where
  pub ends : IsFromTo lo hi run
  pub stands : StandsForChunks (checked_plan work.checked) work.limit work.chunks run

-- The first chunk of the stretch with this number, where stretches have so many chunks each; after
-- the last stretch, the number of chunks.
abbrev pub start_of : ℕ → ℕ → ℕ → ℕ
start_of chunks each number = min (number * each) chunks

-- A run stands for the stretches of a round from lo up to but without hi.
abbrev pub StandsBetween : Work → ℕ → ℕ → ℕ → Run → Type 0
StandsBetween work each lo hi run =
    StandsFrom work (start_of (length work.chunks) each lo) (start_of (length work.chunks) each hi)
    run

-- So many stretches have all of the chunks, and each of them has one or more.
pub record AreStretches (chunks each count : ℕ) : Type 0 where
  pub some : 1 ≤ each
  pub filled : (number : ℕ) → number < count → number * each < chunks
  pub all : chunks ≤ count * each

module _ {P I : Type 0} where
  -- A board over what the workers share, with a leaf for each stretch of so many chunks of a round.
  pub record IsBoardOf (shared : I) (work : Work) (each : ℕ) (board : Board P I) : Type 0 where
    pub input : shared ≡ board_input board
    pub stretches : AreStretches (length work.chunks) each (board_leaves board)
    pub few : each ≤ limit.CHUNKS_MAX
    pub round : IsRound (checked_plan work.checked).fields work.chunks

module _ {P I : Type 0} {g : _} where
  -- A worker got to the end: its hand is empty, and a claim found no leaf.
  abbrev pub IsDone : Pass P I g → Type 0
  IsDone p = (hand p ≡ None) × (has_ended p ≡ true)
