-- Several segments in one.
use Rattle.std.specs.Prelude.{List}
use Rattle.std.specs.List.{AllZip, flat_map}
use Rattle.sym_base.specs.declared.values.record.Record.{Record}
use Rattle.sym_base.specs.declared.values.state.State.{State}
use Rattle.sym_check.specs.Meaning.Conditions.{test_truth}
use Rattle.sym_check.specs.Plan.ScriptPlans.{ScriptPlan}
use Rattle.sym_path.specs.declared.path.Path.{Path}
use Rattle.sym_path.specs.Composing.{IsComposition}
use Rattle.sym_path.specs.Giving.{AgreeAt}
use Rattle.sym_path.specs.Standing.{StandsFor}

-- Whatever is composed of the three segments from the left gives at each state what this one gives.
abbrev pub IsAlsoFromLeft : ScriptPlan → List Path → List Path → List Path → List Path → Type 0
IsAlsoFromLeft p first second third whole =
    (left other : List Path) (s : State) →
    IsComposition p first second left → IsComposition p left third other →
    AgreeAt (test_truth p.tests) other whole s

-- The segment stands for the records of all of the segments in order, whatever these are.
abbrev pub StandsInOrder : ScriptPlan → List (List Path) → List Path → Type 0
StandsInOrder p segments whole =
    (records : List (List Record)) → AllZip (StandsFor p) records segments →
    StandsFor p (flat_map (λ (part : List Record). part) records) whole
