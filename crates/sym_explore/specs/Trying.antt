-- Conditions that are tried on lists of paths.
use Rattle.std.specs.Prelude.{ℕ, Bool, Option, List}
use Rattle.sym_base.specs.declared.values.record.Record.{Record}
use Rattle.sym_base.specs.declared.values.state.Outcome.{Outcome}
use Rattle.sym_base.specs.declared.values.value.Value.{Value}
use Rattle.sym_check.specs.Plan.CondPlans.{CondPlan}
use Rattle.sym_check.specs.Meaning.FixedValues.{Environment}
use Rattle.sym_check.specs.Plan.ScriptPlans.{ScriptPlan}
use Rattle.sym_path.specs.Composing.{HaveFaultsAmong}
use Rattle.sym_path.specs.declared.path.Path.{Path}
use Rattle.sym_explore.specs.Branches.{answered, tried}
use Rattle.sym_explore.specs.Counting.{branches_of}
use Rattle.sym_explore.specs.Evaluating.{evaluated_branches, evaluated_truth}
use Rattle.sym_explore.specs.Faulting.{HasNumber}
use Rattle.sym_explore.specs.Parting.{AreFewParts, AreParts}
use Rattle.sym_explore.specs.Running.{CanRun}
use Rattle.sym_explore.specs.declared.parted_lists.Evaluated.{Evaluated}

-- A condition was tried on the old paths at the record with this number: the first list has those
-- on which it is true, those on which it is false were put into the second, and those that its
-- arithmetic ends into the third. So the next step can be run on the first and on the second.
pub record WereTried (p : ScriptPlan) (meaning : Outcome → Outcome × Option Bool) (n : ℕ)
    (most : Bool → ℕ)
    (old new falses_before falses_after ended_before ended_after : List Path) : Type 0 where
  pub exact : AreParts p meaning old new falses_before falses_after ended_before ended_after
  pub trues : CanRun p new ended_after
  pub falses : CanRun p falses_after ended_after
  pub few : AreFewParts most old new falses_before falses_after ended_before ended_after
  pub faults : (records : List Record) → HasNumber n records → HaveFaultsAmong records ended_before →
      HaveFaultsAmong records ended_after

-- A condition of the script was tried on the old paths.
abbrev pub CondWasTried :
    ScriptPlan → Environment → ℕ → CondPlan → List Path → List Path → List Path → List Path →
    List Path → List Path → Type 0
CondWasTried p k n c old new falses_before falses_after ended_before ended_after =
    WereTried p (tried p k n c) n (branches_of c)
    old new falses_before falses_after ended_before ended_after

-- One that isn't connected, with its expressions evaluated.
abbrev pub EvaluatedWasTried :
    ScriptPlan → List Value → ℕ → Evaluated → List Path → List Path → List Path → List Path →
    List Path → List Path → Type 0
EvaluatedWasTried p args n evaluated old new falses_before falses_after ended_before ended_after =
    WereTried p (answered n (evaluated_truth p args evaluated)) n (evaluated_branches evaluated)
    old new falses_before falses_after ended_before ended_after
