use Rattle.std.proofs.Common.{rules}
use Rattle.sym_watch.proofs.LookedLemmas.{shows_nothing}
use Rattle.sym_watch.proofs.watcher.Watcher.look.Goals as goal

pub returns-clause-nothing : goal.returns-clause-nothing
returns-clause-nothing c =
    shows_nothing c.in_ok-looked.looked c.in_ok-found.found.seen.log (search rules)
