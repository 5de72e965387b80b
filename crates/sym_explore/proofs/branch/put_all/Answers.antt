use Rattle.sym_explore.specs.Branches.{paths_false, paths_true}
use Rattle.sym_explore.proofs.PartedLists.{paths_false_push, paths_true_push, put_more}
use Rattle.sym_explore.proofs.branch.put_all.Goals as goal

pub branches-preserved : goal.branches-preserved
branches-preserved c =
    let done = c.branches.yielded in
    let one = c.in-Some.branch in
    record {
      trues = put_more paths_true done one c.args.trues.now.items c.branches.trues.items c.put.new.trues.items (paths_true_push done one) c.branches.invariant.trues c.in_ok-put.ensures.trues;
      falses = put_more paths_false done one c.args.falses.now.items c.branches.falses.items c.put.new.falses.items (paths_false_push done one) c.branches.invariant.falses c.in_ok-put.ensures.falses;
    }
