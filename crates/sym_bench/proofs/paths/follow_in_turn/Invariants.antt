use Rattle.sym_check.specs.Checking.CheckedScripts.{checked_plan}
use Rattle.sym_path.specs.Fitting.{SegmentFits}
use Rattle.sym_bench.proofs.paths.follow_in_turn.Given as goal

abbrev pub invariant-turns : goal.invariant-turns
invariant-turns g l = SegmentFits (checked_plan l.checked) l.paths.items
