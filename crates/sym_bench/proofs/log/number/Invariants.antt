use Rattle.std.proofs.Common.{All}
use Rattle.sym_check.specs.Plan.ScriptPlans.{ScriptPlan}
use Rattle.sym_check.specs.Meaning.Validity.{IsRecord}
use Rattle.sym_bench.proofs.log.number.Given as goal

abbrev pub invariant-records : goal.invariant-records
invariant-records l = (p : ScriptPlan) → All (IsRecord p) l.fn.records → All (IsRecord p) l.records
