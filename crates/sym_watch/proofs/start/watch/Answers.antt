use Rattle.std.proofs.Common.{◌∙◌, ap, fold}
use Rattle.sym_watch.specs.Newests.{put}
use Rattle.sym_watch.proofs.Rules.{begins}
use Rattle.sym_watch.proofs.start.watch.Goals as goal

pub publish_as-board-requires : goal.publish_as-board-requires
publish_as-board-requires g c next is =
    let first = c.in_ok-board.board.desk.shown.value in
    begins _ _ first next (is ∙ ap (fold put first) c.in_ok-board.ensures.pending)
