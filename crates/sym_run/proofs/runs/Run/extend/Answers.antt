use Rattle.std.proofs.Common.{◌≡◌, ◌<◌, ◌∙◌, ◌+◌, ◌++◌, List, None, Some, ap, map, refl, sym, subst}
use Rattle.std.proofs.lemmas.Result.{IfOk-weaker}
use Rattle.std.specs.Prelude.{slice_get}
use Rattle.sym_base.specs.declared.values.value.Key.{Key}
use Rattle.sym_check.specs.Checking.CheckedScripts.{checked_plan}
use Rattle.sym_table.proofs.Stepping.{one_chunk}
use Rattle.sym_run.specs.OpenRuns.{OpenStandsForChunks, OpenedRun}
use Rattle.sym_run.specs.Opened.{OpenGroupsAreExtended, OpenGroupsAreTight, OpenGroupsFit, OpenGroupsKeepNone, open_kind, opened_group}
use Rattle.sym_run.specs.Runs.{chain_kind}
use Rattle.sym_run.specs.declared.opened.Open.{Open}
use Rattle.sym_run.proofs.FoundRecords.{stand_as}
use Rattle.sym_run.proofs.OpenGroups.{opened_extended, opened_fit, opened_keep_none, opened_stand, opened_tight}
use Rattle.sym_run.proofs.runs.Run.extend.Goals as goal

pub take-requires-clause-rows : goal.take-requires-clause-rows
take-requires-clause-rows c = λ none.
    one_chunk c.in_ok-cursor.cursor c.from_ref.result.now c.args.chunk.now c.in_ok-cursor.ensures c.from_ref.ensures.value

pub take-requires-clause-number : goal.take-requires-clause-number
take-requires-clause-number c = subst (λ (run : OpenedRun). run.hi < 64) (sym c.in_ok-of.ensures) c.requires.number

pub take-requires-clause-fits : goal.take-requires-clause-fits
take-requires-clause-fits c =
    let p = checked_plan c.args.checked.now in
    subst (λ (run : OpenedRun). OpenGroupsFit p run.groups) (sym c.in_ok-of.ensures) (opened_fit p c.args.self.groups c.requires.fits)

pub take-requires-clause-tight : goal.take-requires-clause-tight
take-requires-clause-tight c =
    let p = checked_plan c.args.checked.now in
    subst (λ (run : OpenedRun). run.bad ≡ None → OpenGroupsAreTight p c.args.limit run.groups) (sym c.in_ok-of.ensures)
    (λ none. opened_tight p c.args.limit c.args.self.groups (c.requires.tight none))

pub returns-clause-chunks : goal.returns-clause-chunks
returns-clause-chunks c =
    let from = c.in_ok-take.ensures.chunks.from ∙ ap (λ (run : OpenedRun). run.lo) c.in_ok-of.ensures in
    let to = c.in_ok-take.ensures.chunks.to ∙ ap (λ (run : OpenedRun). run.hi + 1) c.in_ok-of.ensures in
    IfOk-weaker c.close.result _ _ (λ run ends. record { from = ends.from ∙ from; to = ends.to ∙ to }) c.close.ensures.chunks

pub returns-clause-stands : goal.returns-clause-stands
returns-clause-stands c = λ chunks h at.
    let p = checked_plan c.args.checked.now in
    let run = c.args.self in
    let groups : List (Key × Open) = map opened_group run.groups in
    c.close.ensures.stands chunks
    (c.in_ok-take.ensures.stands chunks
    (subst (OpenStandsForChunks p c.args.limit chunks) (sym c.in_ok-of.ensures)
    (stand_as chain_kind open_kind p c.args.limit chunks run.lo run.hi run.groups groups run.bad h
    (opened_fit p run.groups c.requires.fits) (λ none. opened_tight p c.args.limit run.groups) (λ none records. opened_stand p records run.groups)))
    (subst (λ (run : OpenedRun). slice_get chunks run.hi ≡ Some c.args.chunk.now) (sym c.in_ok-of.ensures) at))

pub returns-clause-closed : goal.returns-clause-closed
returns-clause-closed c = λ before.
    c.close.ensures.closed (c.in_ok-take.ensures.closed refl (subst (λ (run : OpenedRun). OpenGroupsKeepNone run.groups) (sym c.in_ok-of.ensures) (opened_keep_none c.args.self.groups before)))

pub returns-clause-extends : goal.returns-clause-extends
returns-clause-extends c = λ before records good all extended.
    let p = checked_plan c.args.checked.now in
    let limit = c.args.limit in
    let groups = c.args.self.groups in
    let start : OpenGroupsAreExtended p limit before c.in_ok-of.field-0.groups =
    subst (λ (run : OpenedRun). OpenGroupsAreExtended p limit before run.groups) (sym c.in_ok-of.ensures) (opened_extended p limit before groups extended) in
    let taken = c.in_ok-take.ensures.extends before records refl (subst (λ (run : OpenedRun). run.bad ≡ None) (sym c.in_ok-of.ensures) good) all start in
    c.close.ensures.extends (before ++ records) taken.0 taken.1
