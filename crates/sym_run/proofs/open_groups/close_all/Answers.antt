use Rattle.std.proofs.Common.{refl, subst, sym}
use Rattle.std.specs.List.{AllZip}
use Rattle.sym_base.specs.declared.values.value.Key.{Key}
use Rattle.sym_check.specs.Checking.CheckedScripts.{checked_plan}
use Rattle.sym_path.proofs.Lists.{zip_weak}
use Rattle.sym_run.specs.Opened.{IsClosingOpen, OpenFits, OpenIsTight, open_kind}
use Rattle.sym_run.specs.Runs.{AreClosed, AreTight, GroupsAreExtended, GroupsFit, GroupsStandFor}
use Rattle.sym_run.specs.declared.opened.Open.{Open}
use Rattle.sym_run.proofs.ClosedGroups.{IsClosedTo, closed_close, closed_distinct, closed_extended, closed_fit, closed_stand, closed_tight, closing_all, closing_on, left_has}
use Rattle.sym_run.proofs.open_groups.close_all.Goals as goal

pub close-requires-clause-fits : goal.close-requires-clause-fits
close-requires-clause-fits c =
    let p = checked_plan c.args.checked.now in
    left_has open_kind p c.args.limit (λ (group : Key × Open). OpenFits p group.1) c.args.map.entries c.groups.key-iterator c.next.new.self c.groups.closed.entries (c.in-Some.key, c.in-Some.chain)
    c.groups.invariant c.in-Some.ensures.steps c.requires.fits

pub close-requires-clause-tight : goal.close-requires-clause-tight
close-requires-clause-tight c =
    let p = checked_plan c.args.checked.now in
    left_has open_kind p c.args.limit (λ (group : Key × Open). OpenIsTight p c.args.limit group.1) c.args.map.entries c.groups.key-iterator c.next.new.self c.groups.closed.entries (c.in-Some.key, c.in-Some.chain)
    c.groups.invariant c.in-Some.ensures.steps c.requires.tight

pub groups-preserved : goal.groups-preserved
groups-preserved c =
    let made = c.in_ok-close.ensures in
    closing_on open_kind (checked_plan c.args.checked.now) c.args.limit c.args.map.entries c.groups.key-iterator c.next.new.self c.groups.closed.entries c.insert.new.self.entries c.in-Some.key c.in-Some.chain c.in_ok-close.field-0
    c.groups.invariant c.in-Some.ensures.steps c.requires.distinct c.in_ok-insert.ensures.entries
    (record { key = refl; fits = made.fits; tight = made.tight; closed = made.closed; stands = made.stands; extends = made.extends })

pub of_map-requires : goal.of_map-requires
of_map-requires c =
    let p = checked_plan c.args.checked.now in
    closed_distinct open_kind p c.args.limit c.args.map.entries c.groups.closed.entries
    (closing_all open_kind p c.args.limit c.args.map.entries c.groups.key-iterator c.groups.closed.entries c.groups.invariant c.in-None.ensures.steps.0) c.requires.distinct

pub returns-clause-fits : goal.returns-clause-fits
returns-clause-fits c =
    let p = checked_plan c.args.checked.now in
    subst (GroupsFit p) (sym c.of_map.ensures)
    (closed_fit open_kind p c.args.limit c.args.map.entries c.groups.closed.entries
    (closing_all open_kind p c.args.limit c.args.map.entries c.groups.key-iterator c.groups.closed.entries c.groups.invariant c.in-None.ensures.steps.0))

pub returns-clause-tight : goal.returns-clause-tight
returns-clause-tight c =
    let p = checked_plan c.args.checked.now in
    subst (AreTight p c.args.limit) (sym c.of_map.ensures)
    (closed_tight open_kind p c.args.limit c.args.map.entries c.groups.closed.entries
    (closing_all open_kind p c.args.limit c.args.map.entries c.groups.key-iterator c.groups.closed.entries c.groups.invariant c.in-None.ensures.steps.0))

pub returns-clause-each : goal.returns-clause-each
returns-clause-each c =
    let p = checked_plan c.args.checked.now in
    subst (AllZip (IsClosingOpen p) c.args.map.entries) (sym c.of_map.ensures)
    (zip_weak (IsClosedTo open_kind p c.args.limit) (IsClosingOpen p) c.args.map.entries c.groups.closed.entries
    (λ old new to. record { key = to.key; closed = to.closed; stands = to.stands })
    (closing_all open_kind p c.args.limit c.args.map.entries c.groups.key-iterator c.groups.closed.entries c.groups.invariant c.in-None.ensures.steps.0))

pub returns-clause-closed : goal.returns-clause-closed
returns-clause-closed c = λ none.
    let p = checked_plan c.args.checked.now in
    subst AreClosed (sym c.of_map.ensures)
    (closed_close open_kind p c.args.limit c.args.map.entries c.groups.closed.entries
    (closing_all open_kind p c.args.limit c.args.map.entries c.groups.key-iterator c.groups.closed.entries c.groups.invariant c.in-None.ensures.steps.0) none)

pub returns-clause-stands : goal.returns-clause-stands
returns-clause-stands c = λ records stand.
    let p = checked_plan c.args.checked.now in
    subst (GroupsStandFor p records) (sym c.of_map.ensures)
    (closed_stand open_kind p c.args.limit records c.args.map.entries c.groups.closed.entries
    (closing_all open_kind p c.args.limit c.args.map.entries c.groups.key-iterator c.groups.closed.entries c.groups.invariant c.in-None.ensures.steps.0) stand)

pub returns-clause-extends : goal.returns-clause-extends
returns-clause-extends c = λ records extended.
    let p = checked_plan c.args.checked.now in
    subst (GroupsAreExtended p c.args.limit records) (sym c.of_map.ensures)
    (closed_extended open_kind p c.args.limit records c.args.map.entries c.groups.closed.entries
    (closing_all open_kind p c.args.limit c.args.map.entries c.groups.key-iterator c.groups.closed.entries c.groups.invariant c.in-None.ensures.steps.0) extended)
