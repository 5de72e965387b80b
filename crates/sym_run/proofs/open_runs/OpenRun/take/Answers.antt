use Rattle.std.proofs.Common.{◌≡◌, ◌∙◌, ◌+◌, true, false, List, Option, None, Some, Result, Ok, ap, sym, refl, subst, is_some}
use Rattle.std.specs.Prelude.{IfNone, slice_get}
use Rattle.sym_base.specs.declared.values.value.Key.{Key}
use Rattle.sym_base.specs.declared.values.record.Record.{Record}
use Rattle.sym_check.specs.Checking.CheckedScripts.{checked_plan}
use Rattle.sym_table.specs.ChunkRecords.{chunk_records}
use Rattle.sym_table.specs.declared.bad.Bad.{Bad}
use Rattle.sym_table.specs.Reading.{HasNext}
use Rattle.sym_run.specs.Growing.{TakesOn}
use Rattle.sym_run.specs.declared.opened.Open.{Open}
use Rattle.sym_run.specs.OpenRuns.{OpenStandsForChunks, OpenedRun}
use Rattle.sym_run.specs.Opened.{OpenGroupsAreExtended, OpenGroupsAreTight, OpenGroupsFit, OpenGroupsKeepNone}
use Rattle.sym_run.proofs.FoundRecords.{found_extended, taken_tight}
use Rattle.sym_run.proofs.open_runs.OpenRun.take.Goals as goal

no_bad : (bad : Option Bad) → is_some bad ≡ false → bad ≡ None
no_bad None e = refl
no_bad (Some b) e = cc

none_here : (bad : Option Bad) → is_some bad ≡ true → bad ≡ None → ⊥
none_here bad e none = let other : false ≡ true = ap is_some (sym none) ∙ e in cc

some_here : (bad : Option Bad) (b : Bad) → is_some bad ≡ false → bad ≡ Some b → ⊥
some_here bad b e some = let other : true ≡ false = ap is_some (sym some) ∙ e in cc

passed : {P : Type 0} (bad : Option Bad) → bad ≡ None → IfNone bad P → P
passed None none h = h
passed (Some b) none h = cc

pub returns-then-is_some-clause-chunks : goal.returns-then-is_some-clause-chunks
returns-then-is_some-clause-chunks c = record {
  from = ap (λ (run : OpenedRun). run.lo) c.self.view_is;
  to = ap (λ (run : OpenedRun). run.hi + 1) c.self.view_is;
}

pub returns-then-is_some-clause-fits : goal.returns-then-is_some-clause-fits
returns-then-is_some-clause-fits c = subst (λ (run : OpenedRun). OpenGroupsFit (checked_plan c.args.settings.now.checked.now) run.groups) (sym c.self.view_is) c.requires.fits

pub returns-then-is_some-clause-tight : goal.returns-then-is_some-clause-tight
returns-then-is_some-clause-tight c = λ none. absurd (none_here c.self.inside.bad (sym c.is_some.ensures ∙ c.if-is_some.true) none)

pub returns-then-is_some-clause-stands : goal.returns-then-is_some-clause-stands
returns-then-is_some-clause-stands c = λ chunks h at.
    let p = checked_plan c.args.settings.now.checked.now in
    let run = c.self.inside in
    found_extended p c.args.settings.now.limit chunks c.args.chunk.now run.lo run.hi run.groups.entries run.groups.entries run.bad run.bad
    (subst (OpenStandsForChunks p c.args.settings.now.limit chunks) (sym c.self.view_is) h)
    (subst (λ (run : OpenedRun). slice_get chunks run.hi ≡ Some c.args.chunk.now) (sym c.self.view_is) at)
    (subst (λ (run : OpenedRun). OpenGroupsFit p run.groups) (sym c.self.view_is) c.requires.fits)
    (λ none. absurd (none_here run.bad (sym c.is_some.ensures ∙ c.if-is_some.true) none))
    (λ b some. some)

pub returns-then-is_some-clause-closed : goal.returns-then-is_some-clause-closed
returns-then-is_some-clause-closed c = λ none before. subst (λ (run : OpenedRun). OpenGroupsKeepNone run.groups) (sym c.self.view_is) before

pub returns-then-is_some-clause-passes : goal.returns-then-is_some-clause-passes
returns-then-is_some-clause-passes c = λ none. absurd (none_here c.self.inside.bad (sym c.is_some.ensures ∙ c.if-is_some.true) none)

pub take_rows-requires-clause-fits : goal.take_rows-requires-clause-fits
take_rows-requires-clause-fits c = subst (λ (run : OpenedRun). OpenGroupsFit (checked_plan c.args.settings.now.checked.now) run.groups) (sym c.self.view_is) c.requires.fits

pub take_rows-requires-clause-tight : goal.take_rows-requires-clause-tight
take_rows-requires-clause-tight c =
    subst (λ (run : OpenedRun). run.bad ≡ None → OpenGroupsAreTight (checked_plan c.args.settings.now.checked.now) c.args.settings.now.limit run.groups) (sym c.self.view_is) c.requires.tight
    (no_bad c.self.inside.bad (sym c.is_some.ensures ∙ c.if-is_some.false))

pub take_rows-requires-clause-rows : goal.take_rows-requires-clause-rows
take_rows-requires-clause-rows c =
    subst (λ (run : OpenedRun). run.bad ≡ None → HasNext c.args.chunk.now.rows c.args.cursor.now) (sym c.self.view_is) c.requires.rows
    (no_bad c.self.inside.bad (sym c.is_some.ensures ∙ c.if-is_some.false))

pub returns-clause-chunks : goal.returns-clause-chunks
returns-clause-chunks c = record {
  from = ap (λ (run : OpenedRun). run.lo) c.self.view_is;
  to = ap (λ (run : OpenedRun). run.hi + 1) c.self.view_is;
}

pub returns-clause-tight : goal.returns-clause-tight
returns-clause-tight c =
    let p = checked_plan c.args.settings.now.checked.now in
    taken_tight p c.args.settings.now.limit (chunk_records p c.args.chunk.now) c.in_ok-bad.bad c.self.inside.groups.entries c.take_rows.new.map.entries c.in_ok-bad.ensures.found

pub returns-clause-stands : goal.returns-clause-stands
returns-clause-stands c = λ chunks h at.
    let p = checked_plan c.args.settings.now.checked.now in
    let run = c.self.inside in
    found_extended p c.args.settings.now.limit chunks c.args.chunk.now run.lo run.hi run.groups.entries c.take_rows.new.map.entries run.bad c.in_ok-bad.bad
    (subst (OpenStandsForChunks p c.args.settings.now.limit chunks) (sym c.self.view_is) h)
    (subst (λ (run : OpenedRun). slice_get chunks run.hi ≡ Some c.args.chunk.now) (sym c.self.view_is) at)
    c.in_ok-bad.ensures.fits
    (λ none. c.in_ok-bad.ensures.found)
    (λ b some. absurd (some_here run.bad b (sym c.is_some.ensures ∙ c.if-is_some.false) some))

pub returns-clause-closed : goal.returns-clause-closed
returns-clause-closed c = λ none before. c.in_ok-bad.ensures.closed none (subst (λ (run : OpenedRun). OpenGroupsKeepNone run.groups) (sym c.self.view_is) before)

pub returns-clause-passes : goal.returns-clause-passes
returns-clause-passes c = λ none. (
  subst (λ (run : OpenedRun). run.bad ≡ None) c.self.view_is (no_bad c.self.inside.bad (sym c.is_some.ensures ∙ c.if-is_some.false)),
  passed c.in_ok-bad.bad none c.in_ok-bad.ensures.passes,
)

pub returns-then-is_some-clause-extends : goal.returns-then-is_some-clause-extends
returns-then-is_some-clause-extends c = λ before records none good all extended.
    absurd (none_here c.self.inside.bad (sym c.is_some.ensures ∙ c.if-is_some.true) (subst (λ (run : OpenedRun). run.bad ≡ None) (sym c.self.view_is) good))

pub returns-clause-extends : goal.returns-clause-extends
returns-clause-extends c = λ before records none good all extended.
    let p = checked_plan c.args.settings.now.checked.now in
    let limit = c.args.settings.now.limit in
    let old : List (Key × Open) = c.self.inside.groups.entries in
    let new : List (Key × Open) = c.take_rows.new.map.entries in
    let found : TakesOn p limit (Ok records) old c.in_ok-bad.bad new = subst (λ (rows : Result (List Record) Bad). TakesOn p limit rows old c.in_ok-bad.bad new) all c.in_ok-bad.ensures.found in
    (found.0, c.in_ok-bad.ensures.extends before records none all (subst (λ (run : OpenedRun). OpenGroupsAreExtended p limit before run.groups) (sym c.self.view_is) extended))
