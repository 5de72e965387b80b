-- The number is stored in the first paths, and the others are as they were. The flag tells whether
-- the first ones go on.
use Rattle.std.proofs.Common.{true}
use Rattle.sym_check.specs.Plan.ScriptPlans.{script_plan}
use Rattle.sym_path.specs.Fitting.{SegmentFits}
use Rattle.sym_explore.specs.Storing.{after_store}
use Rattle.sym_explore.proofs.InPlace.{Threaded}
use Rattle.sym_explore.proofs.StoredPaths.{IsStored, TellsGoing}
use Rattle.sym_explore.proofs.stores.store_each.Given as goal

abbrev pub invariant-paths : goal.invariant-paths
invariant-paths l = record {
  stored : Threaded (IsStored (script_plan l.plan) l.target.fault.no l.target.clamps (after_store (script_plan l.plan) l.target.fault.no l.target.place l.ready)) l.initial.paths l.initial.out.items l.paths l.out.items l.path-index;
  others : SegmentFits (script_plan l.plan) l.out.items;
  going : Threaded TellsGoing l.initial.paths true l.paths l.all_go_on l.path-index;
}
