use Rattle.std.proofs.Common.{◌∷◌, subst}
use Rattle.std.specs.Vec.Iter.{into_iter_items}
use Rattle.sym_base.specs.declared.values.value.Key.{Key}
use Rattle.sym_run.specs.Chained.{Chained}
use Rattle.sym_run.proofs.TakenGroups.{Chains, IsPutting, putting_on}
use Rattle.sym_run.proofs.led_groups.put_all.Goals as goal

pub groups-preserved : goal.groups-preserved
groups-preserved c =
    let chains = c.args.chains.now in
    let first = c.args.groups.now in
    let left = c.next.new.self in
    let taken = c.args.taken.items in
    let now = c.groups.groups in
    let q : Key × Chained = (c.in-Some.key.now, c.in-Some._chain.now) in
    putting_on chains left first now c.put_back.new.groups taken (into_iter_items c.next-in-groups.new.self) q c.in-Some-next.one
    (subst (IsPutting chains (q ∷ left) first now taken) c.in-Some-next.ensures.items
    (subst (λ (others : Chains). IsPutting chains others first now taken (into_iter_items c.groups.rest)) c.in-Some.ensures.steps c.groups.invariant))
    c.in_ok-put_back-in-Some-next.ensures.led c.in_ok-put_back-in-Some-next.ensures.groups
