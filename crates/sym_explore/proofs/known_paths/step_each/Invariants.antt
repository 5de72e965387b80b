-- The first paths made the step, and the others are as they were.
use Rattle.sym_check.specs.Plan.ScriptPlans.{script_plan}
use Rattle.sym_vector.proofs.Changes.{Changed}
use Rattle.sym_explore.specs.Sure.{IsSteppedOn}
use Rattle.sym_explore.proofs.known_paths.step_each.Given as goal

abbrev pub invariant-paths : goal.invariant-paths
invariant-paths l = Changed (IsSteppedOn (script_plan l.plan) l.rec) l.initial.paths l.paths l.path-index
