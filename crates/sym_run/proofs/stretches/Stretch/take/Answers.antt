use Rattle.std.proofs.Common.{◌≡◌, ◌∙◌, None, subst, sym}
use Rattle.sym_check.specs.Checking.CheckedScripts.{checked_plan}
use Rattle.sym_table.specs.Reading.{HasNext}
use Rattle.sym_run.specs.OpenRuns.{OpenedRun}
use Rattle.sym_run.specs.Opened.{OpenGroupsAreTight, OpenGroupsFit}
use Rattle.sym_run.proofs.stretches.Stretch.take.Goals as goal

pub take-requires-clause-fits : goal.take-requires-clause-fits
take-requires-clause-fits c =
    subst (λ (run : OpenedRun). OpenGroupsFit (checked_plan c.args.checked.now) run.groups) (sym (c.replace-run.ensures.value ∙ c.self.view_is)) c.requires.fits

pub take-requires-clause-tight : goal.take-requires-clause-tight
take-requires-clause-tight c =
    subst (λ (run : OpenedRun). run.bad ≡ None → OpenGroupsAreTight (checked_plan c.args.checked.now) c.args.limit run.groups) (sym (c.replace-run.ensures.value ∙ c.self.view_is)) c.requires.tight

pub take-requires-clause-rows : goal.take-requires-clause-rows
take-requires-clause-rows c =
    subst (λ (run : OpenedRun). run.bad ≡ None → HasNext c.args.chunk.now.rows c.args.cursor.now) (sym (c.replace-run.ensures.value ∙ c.self.view_is)) c.requires.rows

pub returns-clause-passes : goal.returns-clause-passes
returns-clause-passes c = λ none.
    let now = c.in_ok-self-inside.ensures.passes none in
    (subst (λ (run : OpenedRun). run.bad ≡ None) (c.replace-run.ensures.value ∙ c.self.view_is) now.0, now.1)
