use Rattle.sym_watch.proofs.Rules.{looks}
use Rattle.sym_watch.proofs.watcher.find.Goals as goal

pub enter_as-requires : goal.enter_as-requires
enter_as-requires c x = looks _ _ x
