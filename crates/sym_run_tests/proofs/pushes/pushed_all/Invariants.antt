use Rattle.std.proofs.Common.{IfSome}
use Rattle.sym_check.specs.Checking.CheckedScripts.{checked_plan}
use Rattle.sym_run.specs.Chains.{ChainFits, IsTight}
use Rattle.sym_run_tests.proofs.pushes.pushed_all.Given as goal

abbrev pub invariant-chunks : goal.invariant-chunks
invariant-chunks l = record {
  fits : IfSome l.chain (ChainFits (checked_plan l.fn.checked));
  tight : IfSome l.chain (IsTight (checked_plan l.fn.checked) l.fn.limit);
}
