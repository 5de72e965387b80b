use Rattle.std.proofs.Common.{rules}
use Rattle.sym_watch.proofs.Rules.{adds}
use Rattle.sym_watch.proofs.publisher.show.Goals as goal

pub publish_as-requires : goal.publish_as-requires
publish_as-requires g c next is =
    let p = c.requires.pending in
    adds _ _ c.args.board.desk.shown.value next p.0 (search rules) p.2 p.3 p.4
