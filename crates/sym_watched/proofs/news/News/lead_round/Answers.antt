use Rattle.std.proofs.Common.{◌∙◌, sym}
use Rattle.sym_watched.proofs.Logs.{grew_copy, grew_untold, of_ok, on_err, on_ok, part_none, part_whole}
use Rattle.sym_watched.proofs.news.News.lead_round.Goals as goal

pub returns-in-None-clause-ok : goal.returns-in-None-clause-ok
returns-in-None-clause-ok g c = on_ok _ (grew_untold _ _ (sym c.take.ensures.value ∙ c.in-None.is))

pub returns-in-None-clause-err : goal.returns-in-None-clause-err
returns-in-None-clause-err g c = on_err _ (part_none _ _)

pub returns-in_ok-told-in-Some-clause-err : goal.returns-in_ok-told-in-Some-clause-err
returns-in_ok-told-in-Some-clause-err g c =
    on_err _
    (part_whole _ _ _
    (grew_copy _ c.in-Some.copy _ _ (sym c.take.ensures.value ∙ c.in-Some.is) (of_ok _ _ c.in_ok-told-in-Some.was c.lead_and_tell-told.ensures.ok)))
