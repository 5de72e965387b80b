use Rattle.sym_check.specs.Checking.CheckedScripts.{checked_plan}
use Rattle.sym_path.specs.Fitting.{SegmentFits}
use Rattle.sym_bench.proofs.paths.follow_all.Given as goal

abbrev pub invariant-paths : goal.invariant-paths
invariant-paths l = SegmentFits (checked_plan l.checked) l.both.items
