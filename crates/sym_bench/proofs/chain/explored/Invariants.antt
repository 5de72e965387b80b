use Rattle.std.proofs.Common.{List, ◌++◌, take}
use Rattle.sym_base.specs.declared.values.record.Record.{Record}
use Rattle.sym_check.specs.Checking.CheckedScripts.{checked_plan}
use Rattle.sym_bench.specs.Chains.{IsChainOf}
use Rattle.sym_bench.proofs.chain.explored.Given as goal

abbrev pub invariant-records : goal.invariant-records
invariant-records l = (before : List Record) → IsChainOf (checked_plan l.checked) before l.fn.chain → IsChainOf (checked_plan l.checked) (before ++ take l.rec-index l.records) l.chain
