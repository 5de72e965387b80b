use Rattle.std.proofs.Common.{◌≡◌, ◌∙◌, true, false, Option, None, Some, List, [], ap, sym, refl, subst, is_some}
use Rattle.std.proofs.lemmas.List.Elements.{All-nil}
use Rattle.sym_base.specs.declared.values.value.Key.{Key}
use Rattle.sym_check.specs.Checking.CheckedScripts.{checked_plan}
use Rattle.sym_table.specs.declared.bad.Bad.{Bad}
use Rattle.sym_run.specs.OpenRuns.{OpenStandsForChunks, OpenedRun}
use Rattle.sym_run.specs.Opened.{OpenGroupsAreExtended, OpenGroupsAreTight, OpenGroupsFit, OpenGroupsKeepNone, open_kind}
use Rattle.sym_run.specs.Chained.{Chained}
use Rattle.sym_run.specs.Chains.{ChainFits}
use Rattle.sym_run.specs.Runs.{StandForChunks, chain_kind}
use Rattle.sym_run.proofs.FoundRecords.{stand_as}
use Rattle.sym_run.proofs.open_runs.OpenRun.close.Goals as goal

no_bad : (bad : Option Bad) → is_some bad ≡ false → bad ≡ None
no_bad None e = refl
no_bad (Some b) e = cc

none_here : (bad : Option Bad) → is_some bad ≡ true → bad ≡ None → ⊥
none_here bad e none = let other : false ≡ true = ap is_some (sym none) ∙ e in cc

pub returns-then-is_some-clause-chunks : goal.returns-then-is_some-clause-chunks
returns-then-is_some-clause-chunks c = record {
  from = ap (λ (run : OpenedRun). run.lo) c.self.view_is;
  to = ap (λ (run : OpenedRun). run.hi) c.self.view_is;
}

pub returns-then-is_some-clause-stands : goal.returns-then-is_some-clause-stands
returns-then-is_some-clause-stands c = λ chunks h.
    let p = checked_plan c.args.checked.now in
    let run = c.self.inside in
    let here = none_here run.bad (sym c.is_some.ensures ∙ c.if-is_some.true) in
    subst (λ (groups : List (Key × Chained)). StandForChunks chain_kind p c.args.limit chunks run.lo run.hi groups run.bad) (sym c.new.ensures)
    (stand_as open_kind chain_kind p c.args.limit chunks run.lo run.hi run.groups.entries [] run.bad
    (subst (OpenStandsForChunks p c.args.limit chunks) (sym c.self.view_is) h) (All-nil (λ (group : Key × Chained). ChainFits p group.1)) (λ none. absurd (here none)) (λ none. absurd (here none)))

pub close_all-requires-clause-fits : goal.close_all-requires-clause-fits
close_all-requires-clause-fits c = subst (λ (run : OpenedRun). OpenGroupsFit (checked_plan c.args.checked.now) run.groups) (sym c.self.view_is) c.requires.fits

pub close_all-requires-clause-tight : goal.close_all-requires-clause-tight
close_all-requires-clause-tight c =
    subst (λ (run : OpenedRun). run.bad ≡ None → OpenGroupsAreTight (checked_plan c.args.checked.now) c.args.limit run.groups) (sym c.self.view_is) c.requires.tight
    (no_bad c.self.inside.bad (sym c.is_some.ensures ∙ c.if-is_some.false))

pub returns-clause-chunks : goal.returns-clause-chunks
returns-clause-chunks c = record {
  from = ap (λ (run : OpenedRun). run.lo) c.self.view_is;
  to = ap (λ (run : OpenedRun). run.hi) c.self.view_is;
}

pub returns-clause-stands : goal.returns-clause-stands
returns-clause-stands c = λ chunks h.
    let p = checked_plan c.args.checked.now in
    let run = c.self.inside in
    let closed = c.in_ok-close_all in
    stand_as open_kind chain_kind p c.args.limit chunks run.lo run.hi run.groups.entries closed.field-0 run.bad
    (subst (OpenStandsForChunks p c.args.limit chunks) (sym c.self.view_is) h) closed.ensures.fits (λ none tight. closed.ensures.tight) (λ none. closed.ensures.stands)

pub returns-clause-closed : goal.returns-clause-closed
returns-clause-closed c = λ before. c.in_ok-close_all.ensures.closed (subst (λ (run : OpenedRun). OpenGroupsKeepNone run.groups) (sym c.self.view_is) before)

pub returns-then-is_some-clause-extends : goal.returns-then-is_some-clause-extends
returns-then-is_some-clause-extends c = λ records good extended.
    absurd (none_here c.self.inside.bad (sym c.is_some.ensures ∙ c.if-is_some.true) (subst (λ (run : OpenedRun). run.bad ≡ None) (sym c.self.view_is) good))

pub returns-clause-extends : goal.returns-clause-extends
returns-clause-extends c = λ records good extended.
    c.in_ok-close_all.ensures.extends records (subst (λ (run : OpenedRun). OpenGroupsAreExtended (checked_plan c.args.checked.now) c.args.limit records run.groups) (sym c.self.view_is) extended)
