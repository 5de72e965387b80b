-- The first outcomes made the step, and the others are as they were.
use Rattle.sym_check.specs.Checking.CheckedScripts.{checked_plan}
use Rattle.sym_vector.proofs.Changes.{Changed}
use Rattle.sym_known.proofs.KnownSteps.{IsStep}
use Rattle.sym_known.proofs.known.step_each.Given as goal

abbrev pub invariant-outcomes : goal.invariant-outcomes
invariant-outcomes l = Changed (IsStep (checked_plan l.checked) l.rec) l.initial.outcomes l.outcomes l.outcome-index
