-- Segments that are taken a record further where a limit of paths allows it.
use Rattle.std.specs.Prelude.{◌≡◌, ◌≤◌, ◌<◌, ◌++◌, ℕ, Bool, true, false, not, List, length}
use Rattle.std.specs.List.{All, filter}
use Rattle.sym_base.specs.declared.values.record.Record.{Record}
use Rattle.sym_check.specs.Plan.ScriptPlans.{ScriptPlan}
use Rattle.sym_path.specs.declared.path.Path.{Path}
use Rattle.sym_path.specs.declared.path.PathEnd.{PathEnd}
use Rattle.sym_path.specs.declared.path.PathEnd.TheVariants.{Next, Ended}
use Rattle.sym_path.specs.Joining.{IsSettled}
use Rattle.sym_path.specs.Pairs.{has_ended}
use Rattle.sym_path.specs.Settling.{IsSettling}
use Rattle.sym_explore.specs.Growing.{IsLonger}
use Rattle.sym_explore.specs.declared.path_limits.Extension.{Extension}
use Rattle.sym_explore.specs.declared.path_limits.Turn.{Turn}
use Rattle.sym_explore.specs.declared.path_limits.Extension.TheVariants.{Fits, Over}

-- The paths that have ended, or those that go on, in order.
abbrev pub is_chosen : Bool → Path → Bool
is_chosen true path = has_ended path
is_chosen false path = not (has_ended path)

-- Those of the paths that have ended, or those that go on, in order.
abbrev pub chosen : Bool → List Path → List Path
chosen ended paths = filter (is_chosen ended) paths

-- A path has ended at no later record than the turn's, or goes on where one does.
abbrev pub EndsBy : Turn → Path → Type 0
EndsBy turn path = EndBy path.end
  where
    EndBy : PathEnd → Type 0
    EndBy (Next forms) = turn.going ≡ true
    EndBy (Ended fault) = fault.no ≤ turn.last

-- Paths end in turn: each at a later record than those before it, and at most one goes on. So no two
-- of them can be joined.
pub record AreInTurn (turn : Turn) (paths : List Path) : Type 0 where
  pub settled : IsSettled paths
  pub by : All (EndsBy turn) paths

-- There is a longer segment, and it has more paths than the limit says.
pub record IsTooLong (p : ScriptPlan) (rec : Record) (old : List Path) (limit : ℕ) : Type 0 where
  pub new : List Path
  pub longer : IsLonger p rec old new
  pub over : limit < length new

-- The longer segment is within the limit, or the old one is as it was, since the longer one isn't.
abbrev pub IsExtended : ScriptPlan → Record → List Path → ℕ → Extension → Type 0
IsExtended p rec old limit (Fits new) = IsLonger p rec old new × (length new ≤ limit)
IsExtended p rec old limit (Over same) = (same ≡ old) × IsTooLong p rec old limit

-- What the old paths that have ended and others are settled to is within the limit, or the old
-- segment is as it was, since that isn't.
pub record IsOver (old others : List Path) (limit : ℕ) : Type 0 where
  pub new : List Path
  pub settling : IsSettling (chosen true old ++ others) new
  pub over : limit < length new

-- What the old paths that have ended and others are settled to is the segment, within the limit, or
-- the old segment is as it was, since the settled one is over the limit.
abbrev pub IsExtendedBy : List Path → List Path → ℕ → Extension → Type 0
IsExtendedBy old others limit (Fits new) =
    IsSettling (chosen true old ++ others) new × (length new ≤ limit)
IsExtendedBy old others limit (Over same) = (same ≡ old) × IsOver old others limit
