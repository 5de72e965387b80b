use Rattle.std.proofs.Common.{◌∙◌, Ok, refl, subst, sym}
use Rattle.sym_base.specs.declared.values.value.Key.{Key}
use Rattle.sym_plain.specs.Pairs.{HaveDistinctKeys}
use Rattle.sym_run.specs.Chained.{Chained}
use Rattle.sym_run.specs.declared.closed_groups.Joining.{Joining}
use Rattle.sym_run.proofs.ClosingGroups.{IsTakingOut, out_none, out_on}
use Rattle.sym_run.proofs.JoinedGroups.{Chains}
use Rattle.sym_run.proofs.closed_groups.take_all_out.Goals as goal

pub groups-init : goal.groups-init
groups-init c =
    let left = c.args.map.now.entries in
    let right = c.args.right in
    record {
      out =
          subst (λ (others : Chains). IsTakingOut right others left left c.in_ok-joining.joining.items)
          (sym (c.into_iter-key-iterator.ensures.into_iter_gives.0 ∙ c.into_map-key-items.ensures.same))
          (subst (IsTakingOut right right left left) (sym c.in_ok-joining.ensures.items) (out_none right left));
      distinct = c.requires;
    }

pub groups-preserved : goal.groups-preserved
groups-preserved c =
    let left = c.args.map.now.entries in
    let right = c.args.right in
    let old = c.groups.map.entries in
    let new = c.take_out-before.new.map.entries in
    let items = c.groups.joining.items in
    let q : Key × Chained = (c.in-Some.key, c.in-Some.chain) in
    let one : Joining = record { key = c.in-Some.key; before = c.take_out-before.result; chain = c.in-Some.chain; joined = Ok tt } in
    record {
      out =
          subst (IsTakingOut right c.next.new.self left new) (sym c.in_ok-push.ensures.items)
          (out_on right c.next.new.self left old new items q one
          (subst (λ (others : Chains). IsTakingOut right others left old items) c.in-Some.ensures.steps c.groups.invariant.out)
          (subst HaveDistinctKeys c.into_map-key-items.ensures.same c.into_map-key-items.ensures.distinct)
          c.take_out-before.ensures.alike refl refl c.take_out-before.ensures.found);
      distinct = c.take_out-before.ensures.distinct;
    }
