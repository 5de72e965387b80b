use Rattle.std.proofs.Common.{◌∙◌, sym}
use Rattle.sym_watched.proofs.Logs.{grew_untold}
use Rattle.sym_watched.proofs.news.News.tell_rest.Goals as goal

pub returns-in-None-clause-ok : goal.returns-in-None-clause-ok
returns-in-None-clause-ok g c = grew_untold _ _ (sym c.take.ensures.value ∙ c.in-None.is)
