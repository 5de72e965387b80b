-- A segment of records that were kept.
use Rattle.std.specs.Prelude.{ℕ, List}
use Rattle.sym_base.specs.declared.values.record.Record.{Record}
use Rattle.sym_check.specs.Plan.ScriptPlans.{ScriptPlan}
use Rattle.sym_path.specs.declared.path.Path.{Path}
use Rattle.sym_path.specs.Fitting.{SegmentFits}
use Rattle.sym_path.specs.Standing.{StandsFor}
use Rattle.sym_run.specs.Chains.{HasFewPaths}

-- The segment has few paths and stands for the records.
pub record Covers (p : ScriptPlan) (limit : ℕ) (records : List Record) (segment : List Path)
    : Type 0 where
  pub fits : SegmentFits p segment
  pub few : HasFewPaths p limit segment
  pub stands : StandsFor p records segment
