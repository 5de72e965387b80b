-- Segments that are taken a record further.
use Rattle.std.specs.Prelude.{◌≡◌, ◌≤◌, ◌<◌, ◌*◌, ◌++◌, ◌∷◌, [], ℕ, List, length, map}
use Rattle.sym_base.specs.declared.values.record.Record.{Record}
use Rattle.sym_base.specs.declared.values.state.State.{State}
use Rattle.sym_check.specs.Meaning.Conditions.{test_truth}
use Rattle.sym_check.specs.Meaning.PathBounds.{path_bound}
use Rattle.sym_check.specs.Plan.ScriptPlans.{ScriptPlan}
use Rattle.sym_path.specs.Composing.{HaveFaultsAmong}
use Rattle.sym_path.specs.declared.path.Path.{Path}
use Rattle.sym_path.specs.Fitting.{SegmentFits}
use Rattle.sym_path.specs.Giving.{outcomes}
use Rattle.sym_path.specs.Joining.{IsSettled}
use Rattle.sym_path.specs.Standing.{StandsFor}
use Rattle.sym_explore.specs.Counting.{made_paths}
use Rattle.sym_explore.specs.Faulting.{HasNumber}
use Rattle.sym_explore.specs.Stepping.{step_by}
use Rattle.sym_explore.specs.declared.extensions.Grown.{Grown}
use Rattle.sym_explore.specs.declared.extensions.Grown.TheVariants.{Fits, Over}

-- The paths of a grown segment, within the limit or over it.
abbrev pub grown_paths : Grown → List Path
grown_paths (Fits segment) = segment
grown_paths (Over segment) = segment

-- The segment is within the limit of paths exactly where it is said to be.
abbrev pub IsToldBy : ℕ → Grown → Type 0
IsToldBy limit (Fits segment) = length segment ≤ limit
IsToldBy limit (Over segment) = limit < length segment

-- At each state that at most one of the old paths admits, the new ones give what the record makes
-- of what the old ones gave: what has ended stays so, also where the old ones stand for no records.
abbrev pub GivesAfter : ScriptPlan → Record → List Path → List Path → Type 0
GivesAfter p rec old new = (s : State) → length (outcomes (test_truth p.tests) old s) ≤ 1 →
    outcomes (test_truth p.tests) new s
    ≡ map (step_by p rec) (outcomes (test_truth p.tests) old s)

-- The paths after a record, by those before it.
pub record IsExplored (p : ScriptPlan) (rec : Record) (old new : List Path) : Type 0 where
  pub exact : GivesAfter p rec old new
  pub fits : SegmentFits p new
  pub few : length new ≤ length old * made_paths p
  pub faults : (records : List Record) → HasNumber rec.no records → HaveFaultsAmong records old →
      HaveFaultsAmong records new

-- The segment of one record.
pub record IsSegmentOf (p : ScriptPlan) (rec : Record) (segment : List Path) : Type 0 where
  pub settled : IsSettled segment
  pub fits : SegmentFits p segment
  pub few : length segment ≤ path_bound p
  pub stands : StandsFor p (rec ∷ []) segment

-- A segment that was taken through the update of one more record.
pub record IsLonger (p : ScriptPlan) (rec : Record) (old new : List Path) : Type 0 where
  pub settled : IsSettled new
  pub fits : SegmentFits p new
  pub few : length new ≤ length old * path_bound p
  pub stands : (records : List Record) → StandsFor p records old →
      StandsFor p (records ++ rec ∷ []) new
  pub gives : GivesAfter p rec old new
