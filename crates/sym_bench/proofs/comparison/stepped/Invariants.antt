use Rattle.std.proofs.Common.{◌≡◌, drop}
use Rattle.sym_check.specs.Checking.CheckedScripts.{checked_plan}
use Rattle.sym_check.specs.Meaning.Updates.{after}
use Rattle.sym_bench.proofs.comparison.stepped.Given as goal

abbrev pub invariant-records : goal.invariant-records
invariant-records l = after (checked_plan l.checked) (drop l.rec-index l.records) l.outcome ≡ after (checked_plan l.checked) l.records l.fn.outcome
