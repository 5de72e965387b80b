use Rattle.std.proofs.Common.{◌∙◌, refl, subst, sym}
use Rattle.std.specs.List.{AllZip}
use Rattle.sym_base.specs.declared.values.value.Key.{Key}
use Rattle.sym_check.specs.Checking.CheckedScripts.{checked_plan}
use Rattle.sym_path.proofs.Lists.{zip_weak}
use Rattle.sym_plain.specs.Pairs.{HaveDistinctKeys}
use Rattle.sym_run.specs.Chained.{Chained}
use Rattle.sym_run.specs.Chains.{ChainFits, IsTight}
use Rattle.sym_run.specs.Extended.{ChainIsExtended}
use Rattle.sym_run.specs.Runs.{AreClosed, AreTight, GroupsFit, GroupsStandFor, IsClosing}
use Rattle.sym_run.proofs.ClosedGroups.{IsClosedTo, all_units, closed_close, closed_distinct, closed_fit, closed_stand, closed_tight, closing_all, closing_none, closing_on, kept_kind, left_has}
use Rattle.sym_run.proofs.run_groups.RunGroups.closed.Goals as goal

pub groups-init : goal.groups-init
groups-init c =
    closing_none kept_kind (checked_plan c.args.checked.now) c.args.limit c.args.self c.into_iter-key-iterator.result c.in_ok-closed.closed.entries
    (c.into_iter-key-iterator.ensures.into_iter_gives.0 ∙ c.into_map-map.ensures.same) c.in_ok-closed.ensures.empty

pub closed-requires-clause-fits : goal.closed-requires-clause-fits
closed-requires-clause-fits c =
    let p = checked_plan c.args.checked.now in
    left_has kept_kind p c.args.limit (λ (group : Key × Chained). ChainFits p group.1) c.args.self c.groups.key-iterator c.next.new.self c.groups.closed.entries (c.in-Some.key, c.in-Some.chain)
    c.groups.invariant c.in-Some.ensures.steps c.requires.fits

pub closed-requires-clause-tight : goal.closed-requires-clause-tight
closed-requires-clause-tight c =
    let p = checked_plan c.args.checked.now in
    left_has kept_kind p c.args.limit (λ (group : Key × Chained). IsTight p c.args.limit group.1) c.args.self c.groups.key-iterator c.next.new.self c.groups.closed.entries (c.in-Some.key, c.in-Some.chain)
    c.groups.invariant c.in-Some.ensures.steps c.requires.tight

pub groups-preserved : goal.groups-preserved
groups-preserved c =
    let p = checked_plan c.args.checked.now in
    let made = c.in_ok-closed-2.ensures in
    closing_on kept_kind p c.args.limit c.args.self c.groups.key-iterator c.next.new.self c.groups.closed.entries c.insert.new.self.entries c.in-Some.key c.in-Some.chain c.in_ok-closed-2.field-0
    c.groups.invariant c.in-Some.ensures.steps (subst HaveDistinctKeys c.into_map-map.ensures.same c.into_map-map.ensures.distinct) c.in_ok-insert.ensures.entries
    (record {
      key = refl;
      fits = made.fits;
      tight = made.tight;
      closed = λ u. made.closed;
      stands = made.stands;
      extends = λ records h. subst (ChainIsExtended p c.args.limit records) (sym (made.same h.closed)) h;
    })

pub of_map-requires : goal.of_map-requires
of_map-requires c =
    let p = checked_plan c.args.checked.now in
    closed_distinct kept_kind p c.args.limit c.args.self c.groups.closed.entries
    (closing_all kept_kind p c.args.limit c.args.self c.groups.key-iterator c.groups.closed.entries c.groups.invariant c.in-None.ensures.steps.0)
    (subst HaveDistinctKeys c.into_map-map.ensures.same c.into_map-map.ensures.distinct)

pub returns-clause-closed : goal.returns-clause-closed
returns-clause-closed c =
    let p = checked_plan c.args.checked.now in
    subst AreClosed (sym c.of_map.ensures)
    (closed_close kept_kind p c.args.limit c.args.self c.groups.closed.entries
    (closing_all kept_kind p c.args.limit c.args.self c.groups.key-iterator c.groups.closed.entries c.groups.invariant c.in-None.ensures.steps.0) (all_units c.args.self))

pub returns-clause-fits : goal.returns-clause-fits
returns-clause-fits c =
    let p = checked_plan c.args.checked.now in
    subst (GroupsFit p) (sym c.of_map.ensures)
    (closed_fit kept_kind p c.args.limit c.args.self c.groups.closed.entries
    (closing_all kept_kind p c.args.limit c.args.self c.groups.key-iterator c.groups.closed.entries c.groups.invariant c.in-None.ensures.steps.0))

pub returns-clause-tight : goal.returns-clause-tight
returns-clause-tight c =
    let p = checked_plan c.args.checked.now in
    subst (AreTight p c.args.limit) (sym c.of_map.ensures)
    (closed_tight kept_kind p c.args.limit c.args.self c.groups.closed.entries
    (closing_all kept_kind p c.args.limit c.args.self c.groups.key-iterator c.groups.closed.entries c.groups.invariant c.in-None.ensures.steps.0))

pub returns-clause-each : goal.returns-clause-each
returns-clause-each c =
    let p = checked_plan c.args.checked.now in
    subst (AllZip (IsClosing p) c.args.self) (sym c.of_map.ensures)
    (zip_weak (IsClosedTo kept_kind p c.args.limit) (IsClosing p) c.args.self c.groups.closed.entries
    (λ old new to. record { key = to.key; closed = to.closed tt; stands = to.stands })
    (closing_all kept_kind p c.args.limit c.args.self c.groups.key-iterator c.groups.closed.entries c.groups.invariant c.in-None.ensures.steps.0))

pub returns-clause-stands : goal.returns-clause-stands
returns-clause-stands c = λ records stand.
    let p = checked_plan c.args.checked.now in
    subst (GroupsStandFor p records) (sym c.of_map.ensures)
    (closed_stand kept_kind p c.args.limit records c.args.self c.groups.closed.entries
    (closing_all kept_kind p c.args.limit c.args.self c.groups.key-iterator c.groups.closed.entries c.groups.invariant c.in-None.ensures.steps.0)
    (record { keys_are = stand.keys_are; each = stand.each }))
