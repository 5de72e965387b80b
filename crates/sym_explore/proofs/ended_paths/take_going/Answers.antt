use Rattle.sym_explore.proofs.EndedFirst.{going_taken}
use Rattle.sym_explore.proofs.ended_paths.take_going.Goals as goal

pub returns-clause-moved : goal.returns-clause-moved
returns-clause-moved c =
    going_taken c.args.paths.now.items c.put_ended_first-ended.new.paths.items c.put_ended_first-ended.result c.put_ended_first-ended.ensures.same c.put_ended_first-ended.ensures.ended c.args.going.now.items c.move_from.new.to.items c.move_from.new.paths.items c.requires c.in_ok-move_from.ensures.to c.in_ok-move_from.ensures.paths
