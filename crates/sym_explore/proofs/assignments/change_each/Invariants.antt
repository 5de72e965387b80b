-- The first paths have changed, and the others are as they were.
use Rattle.std.proofs.Common.{ℕ}
use Rattle.sym_check.specs.Plan.DoPlans.{do_plan}
use Rattle.sym_check.specs.Checking.KnownValues.{known_values}
use Rattle.sym_check.specs.Plan.ScriptPlans.{script_plan}
use Rattle.sym_vector.proofs.Changes.{Changed}
use Rattle.sym_explore.specs.Ending.{IsChanged}
use Rattle.sym_explore.specs.Stepping.{after_do}
use Rattle.sym_explore.proofs.assignments.change_each.Given as goal

abbrev pub invariant-paths : goal.invariant-paths
invariant-paths l = (n : ℕ) → Changed (IsChanged (script_plan l.plan) (after_do (script_plan l.plan) (known_values l.known) n (do_plan l.statement))) l.initial.paths l.paths l.path-index
