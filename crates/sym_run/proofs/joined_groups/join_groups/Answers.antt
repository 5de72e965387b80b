use Rattle.std.proofs.Common.{◌∙◌, ◌++◌, sym, subst}
use Rattle.sym_base.specs.declared.values.value.Key.{Key}
use Rattle.sym_check.specs.Checking.CheckedScripts.{checked_plan}
use Rattle.sym_run.specs.Chained.{Chained}
use Rattle.sym_plain.specs.Pairs.{HaveDistinctKeys}
use Rattle.sym_run.specs.Growing.{AreBoth}
use Rattle.sym_run.specs.Runs.{AreClosed, AreTight, GroupsFit, GroupsStandFor}
use Rattle.sym_run.proofs.JoinedGroups.{Chains}
use Rattle.sym_run.proofs.Stepping.{IsJoining, joining_all, joining_both, joining_none, joining_on, next_fits, next_tight}
use Rattle.sym_run.proofs.joined_groups.join_groups.Goals as goal

pub groups-init : goal.groups-init
groups-init c =
    let p = checked_plan c.args.checked.now in
    record {
      joining =
          subst (λ (others : Chains). IsJoining p c.args.limit c.args.left c.args.right others c.into_map-map.result.entries)
          (sym (c.into_iter-key-iterator.ensures.into_iter_gives.0 ∙ c.into_map-key-items.ensures.same))
          (subst (λ (groups : Chains). IsJoining p c.args.limit c.args.left c.args.right c.args.right groups) (sym c.into_map-map.ensures.same)
          (joining_none p c.args.limit c.args.left c.args.right c.requires.left c.requires.tight_left));
      distinct = c.into_map-map.ensures.distinct;
    }

pub join_group-requires-clause-right : goal.join_group-requires-clause-right
join_group-requires-clause-right c =
    let p = checked_plan c.args.checked.now in
    let q : Key × Chained = (c.in-Some.key, c.in-Some.chain) in
    next_fits p c.args.limit c.args.left c.args.right c.next.new.self c.groups.map.entries q
    (subst (λ (others : Chains). IsJoining p c.args.limit c.args.left c.args.right others c.groups.map.entries) c.in-Some.ensures.steps c.groups.invariant.joining)
    c.requires.right

pub join_group-requires-clause-tight_right : goal.join_group-requires-clause-tight_right
join_group-requires-clause-tight_right c =
    let p = checked_plan c.args.checked.now in
    let q : Key × Chained = (c.in-Some.key, c.in-Some.chain) in
    next_tight p c.args.limit c.args.left c.args.right c.next.new.self c.groups.map.entries q
    (subst (λ (others : Chains). IsJoining p c.args.limit c.args.left c.args.right others c.groups.map.entries) c.in-Some.ensures.steps c.groups.invariant.joining)
    c.requires.tight_right

pub groups-preserved : goal.groups-preserved
groups-preserved c =
    let p = checked_plan c.args.checked.now in
    let q : Key × Chained = (c.in-Some.key, c.in-Some.chain) in
    record {
      joining =
          joining_on p c.args.limit c.args.left c.args.right c.next.new.self c.groups.map.entries c.join_group.new.map.entries q
          (subst (λ (others : Chains). IsJoining p c.args.limit c.args.left c.args.right others c.groups.map.entries) c.in-Some.ensures.steps c.groups.invariant.joining)
          (subst HaveDistinctKeys c.into_map-key-items.ensures.same c.into_map-key-items.ensures.distinct)
          c.in_ok-join_group.ensures.joins;
      distinct = c.join_group.ensures.distinct;
    }

pub returns-clause-fits : goal.returns-clause-fits
returns-clause-fits c = subst (GroupsFit (checked_plan c.args.checked.now)) (sym c.of_map.ensures) c.groups.invariant.joining.fits

pub returns-clause-tight : goal.returns-clause-tight
returns-clause-tight c = subst (AreTight (checked_plan c.args.checked.now) c.args.limit) (sym c.of_map.ensures) c.groups.invariant.joining.tight

pub returns-clause-stands : goal.returns-clause-stands
returns-clause-stands c = λ first rest a b.
    let p = checked_plan c.args.checked.now in
    subst (GroupsStandFor p (first ++ rest)) (sym c.of_map.ensures)
    (joining_all p c.args.limit c.args.left c.args.right c.groups.map.entries
    (subst (λ (others : Chains). IsJoining p c.args.limit c.args.left c.args.right others c.groups.map.entries) c.in-None.ensures.steps.0 c.groups.invariant.joining)
    first rest a b)

pub returns-clause-both : goal.returns-clause-both
returns-clause-both c =
    let p = checked_plan c.args.checked.now in
    subst (AreBoth p c.args.left c.args.right) (sym c.of_map.ensures)
    (joining_both p c.args.limit c.args.left c.args.right c.groups.map.entries
    (subst (λ (others : Chains). IsJoining p c.args.limit c.args.left c.args.right others c.groups.map.entries) c.in-None.ensures.steps.0 c.groups.invariant.joining))

pub returns-clause-closed : goal.returns-clause-closed
returns-clause-closed c = λ left right. subst AreClosed (sym c.of_map.ensures) (c.groups.invariant.joining.closed left right)
