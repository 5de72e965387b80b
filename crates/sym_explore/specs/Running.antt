-- Statements that are run on lists of paths.
use Rattle.std.specs.Prelude.{◌≡◌, ℕ, List, [], map, Ok, ◌⊎◌}
use Rattle.sym_base.specs.declared.values.record.Record.{Record}
use Rattle.sym_base.specs.declared.values.state.Fault.{Fault}
use Rattle.sym_base.specs.declared.values.state.Outcome.{Outcome}
use Rattle.sym_base.specs.declared.values.value.Value.{Value}
use Rattle.sym_check.specs.Plan.DoPlans.{DoPlan, DosPlan, Let, SetInt, SetEnum, CopyEnum, Keep, KeepFrom, PushNum, PushWord, If}
use Rattle.sym_check.specs.Meaning.FixedValues.{Environment, fixed_value}
use Rattle.sym_check.specs.Meaning.Updates.{environment, environment_after}
use Rattle.sym_check.specs.Plan.ScriptPlans.{ScriptPlan}
use Rattle.sym_path.specs.Composing.{HaveFaultsAmong}
use Rattle.sym_path.specs.declared.path.Path.{Path}
use Rattle.sym_path.specs.Changing.{with_fault}
use Rattle.sym_path.specs.Fitting.{SegmentFits}
use Rattle.sym_explore.specs.Counting.{do_ended, do_going, dos_ended, dos_going}
use Rattle.sym_explore.specs.Faulting.{HasNumber}
use Rattle.sym_explore.specs.Parting.{AllGoOn, AreFewRun, AreRun}
use Rattle.sym_explore.specs.Stepping.{after_do, after_dos}

-- The local that a statement names, if any, has a value.
abbrev pub HasValue : Environment → DoPlan → Type 0
HasValue k (Let n e) = (v : Value) × (fixed_value k e ≡ Ok v)
HasValue k (SetInt c t) = Unit {0}
HasValue k (SetEnum c l) = Unit {0}
HasValue k (CopyEnum c d) = Unit {0}
HasValue k (Keep c es) = Unit {0}
HasValue k (KeepFrom c d) = Unit {0}
HasValue k (PushNum c t) = Unit {0}
HasValue k (PushWord c w) = Unit {0}
HasValue k (If c a b) = Unit {0}

-- No path goes on after the statement, or its local has a value and the locals are those after it.
abbrev pub IsNamed : Record → Environment → DoPlan → List Value → List Path → Type 0
IsNamed rec k d locals paths =
    (paths ≡ []) ⊎ (HasValue k d × (environment rec locals ≡ environment_after k d))

-- The paths, ended by a fault.
abbrev pub failed_paths : Fault → List Path → List Path
failed_paths fault paths = map (λ (path : Path). with_fault path fault) paths

-- A step can be run on the paths: they fit the script and go on, and those that have ended fit it.
pub record CanRun (p : ScriptPlan) (paths ended : List Path) : Type 0 where
  pub fits : SegmentFits p paths
  pub going : AllGoOn paths
  pub ended_fit : SegmentFits p ended

-- A step was run on the old paths at the record with this number: the first list has those that go
-- on, and those that ended were put after the others. So the next step can be run.
pub record WereRun (p : ScriptPlan) (step : Outcome → Outcome) (n most_going most_ended : ℕ)
    (old new before after : List Path) : Type 0 where
  pub exact : AreRun p step old new before after
  pub next : CanRun p new after
  pub few : AreFewRun most_going most_ended old new before after
  pub faults : (records : List Record) → HasNumber n records → HaveFaultsAmong records before →
      HaveFaultsAmong records after

-- A statement was run on the old paths at the record with this number.
abbrev pub DoWasRun :
    ScriptPlan → Environment → ℕ → DoPlan → List Path → List Path → List Path → List Path → Type 0
DoWasRun p k n d old new before after =
    WereRun p (after_do p k n d) n (do_going p.cells d) (do_ended p.cells d) old new before after

-- Statements were run on the old paths, in order, at the record with this number.
abbrev pub DosWereRun :
    ScriptPlan → Environment → ℕ → DosPlan → List Path → List Path → List Path → List Path → Type 0
DosWereRun p k n ds old new before after =
    WereRun p (after_dos p k n ds) n (dos_going p.cells ds) (dos_ended p.cells ds)
    old new before after
