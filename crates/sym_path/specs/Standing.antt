-- Segments that stand for records. Summaries of many records as lists of paths are those of the
-- SYMPLE paper (SOSP 2015).
use Rattle.std.specs.Prelude.{◌≡◌, List, [], ◌∷◌}
use Rattle.std.specs.List.{All, Any}
use Rattle.sym_base.specs.declared.values.record.Record.{Record}
use Rattle.sym_base.specs.declared.values.state.State.{State}
use Rattle.sym_base.specs.declared.values.state.Outcome.TheVariants.{Going}
use Rattle.sym_check.specs.Meaning.Conditions.{test_truth}
use Rattle.sym_check.specs.Plan.ScriptPlans.{ScriptPlan}
use Rattle.sym_check.specs.Meaning.Updates.{after}
use Rattle.sym_check.specs.Meaning.Validity.{IsValid}
use Rattle.sym_path.specs.declared.path.PathEnd.{PathEnd}
use Rattle.sym_path.specs.declared.path.PathEnd.TheVariants.{Next, Ended}
use Rattle.sym_path.specs.declared.path.Path.{Path}
use Rattle.sym_path.specs.Fitting.{SegmentFits}
use Rattle.sym_path.specs.Giving.{IsOnlyOutcome, outcomes}

-- A fault carries the number of one of the records.
abbrev pub EndsAmong : List Record → PathEnd → Type 0
EndsAmong records (Next forms) = Unit {0}
EndsAmong records (Ended fault) = Any (λ rec. rec.no ≡ fault.no) records

-- The paths stand for the records: they fit the script, their faults came at these records, and
-- for every valid state, whether or not a run can reach it, exactly one path admits it and gives
-- the sequential outcome of the records from it.
pub record StandsFor (p : ScriptPlan) (records : List Record) (paths : List Path) : Type 0 where
  pub fits : SegmentFits p paths
  pub faults : All (λ (path : Path). EndsAmong records path.end) paths
  pub exact : (s : State) → IsValid p s →
      IsOnlyOutcome (test_truth p.tests) paths s (after p records (Going s))

-- The last fact as an equation: what the paths that admit the state give is this one outcome. The
-- law that the two are the same is `only_outcomes_are_equations`.
abbrev pub GivesExactly : ScriptPlan → List Record → List Path → Type 0
GivesExactly p records paths =
    (s : State) → IsValid p s →
    outcomes (test_truth p.tests) paths s ≡ after p records (Going s) ∷ []
