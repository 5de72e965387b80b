-- A group that goes on does so with a valid state.
use Rattle.sym_check.specs.Checking.CheckedScripts.{checked_plan}
use Rattle.sym_check.specs.Meaning.Validity.{IsValidOutcome}
use Rattle.sym_path_tests.proofs.comparing.given_by_all.Given as goal

abbrev pub invariant-segments : goal.invariant-segments
invariant-segments l = IsValidOutcome (checked_plan l.checked) l.outcome
