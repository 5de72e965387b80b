use Rattle.std.proofs.Common.{◌≡◌, ◌*◌, All, length}
use Rattle.sym_check.specs.Checking.CheckedScripts.{checked_plan}
use Rattle.sym_check.specs.Meaning.Validity.{IsRecord}
use Rattle.sym_bench.proofs.ComparingLemmas.{AreTaken}
use Rattle.sym_bench.proofs.comparison.compare.Given as goal

abbrev pub invariant-rounds : goal.invariant-rounds
invariant-rounds g l = record {
  fit : All (IsRecord (checked_plan l.checked)) l.records;
  long : length l.records ≡ length l.fn.records;
  taken : AreTaken (checked_plan l.checked) (l.round * length l.fn.records) l.outcome l.chain;
}
