use denote.Param.Send.{sendable}
use Rattle.std.proofs.Common.{◌∙◌, List, ap, length, subst, sym}
use Rattle.std.specs.List.{All}
use Rattle.sym_check.specs.Checking.CheckedScripts.{checked_plan}
use Rattle.sym_run.specs.Applying.{AreValid}
use Rattle.sym_run.specs.Leading.{ArePlaces, WasLed, put_each}
use Rattle.sym_run.specs.declared.led_groups.Taken.{Taken}
use Rattle.sym_run.proofs.ChainsShared.{checked_shared, groups_shared}
use Rattle.sym_run.proofs.TakenGroups.{back_all, back_valid, led_slice, places_led, written_back}
use Rattle.sym_run.proofs.led_groups.apply_beside.Goals as goal

pub lead_all-requires-sync-S : goal.lead_all-requires-sync-S
lead_all-requires-sync-S g c κs within = search (checked_shared, groups_shared, sendable) depth 60 fits 20000

pub put_all-requires : goal.put_all-requires
put_all-requires g c =
    let p = checked_plan c.args.checked.now in
    let news = c.lead_all.new.taken in
    let olds = c.in_ok-taken.taken.items in
    subst (ArePlaces c.take_all.new.groups c.args.chains.now)
    (sym (written_back c.in_ok-taken.taken.len news olds (c.lead_all.ensures.len ∙ ap length c.as_mut_slice.ensures.value) c.in_ok-taken.taken.ok.0))
    (places_led p c.args.groups.now c.take_all.new.groups c.args.chains.now news c.in_ok-taken.ensures.alike.keys_are
    (led_slice p c.args.groups.now c.args.chains.now olds c.as_mut_slice.result.now news c.as_mut_slice.ensures.value c.lead_all.ensures c.in_ok-taken.ensures.taken))

pub returns-clause-valid : goal.returns-clause-valid
returns-clause-valid g c =
    let p = checked_plan c.args.checked.now in
    let chains = c.args.chains.now in
    let now = c.take_all.new.groups in
    let news = c.lead_all.new.taken in
    let olds = c.in_ok-taken.taken.items in
    let same = written_back c.in_ok-taken.taken.len news olds (c.lead_all.ensures.len ∙ ap length c.as_mut_slice.ensures.value) c.in_ok-taken.taken.ok.0 in
    subst (AreValid p) (sym (c.in_ok-put_all.ensures.groups ∙ ap (λ (taken : List Taken). put_each chains taken now) same))
    (back_valid p c.args.groups.now chains news now
    (led_slice p c.args.groups.now chains olds c.as_mut_slice.result.now news c.as_mut_slice.ensures.value c.lead_all.ensures c.in_ok-taken.ensures.taken)
    (subst (All WasLed) same c.in_ok-put_all.ensures.led) c.in_ok-taken.ensures.valid)

pub returns-clause-groups : goal.returns-clause-groups
returns-clause-groups g c = λ records s.
    let p = checked_plan c.args.checked.now in
    let chains = c.args.chains.now in
    let now = c.take_all.new.groups in
    let news = c.lead_all.new.taken in
    let olds = c.in_ok-taken.taken.items in
    let same = written_back c.in_ok-taken.taken.len news olds (c.lead_all.ensures.len ∙ ap length c.as_mut_slice.ensures.value) c.in_ok-taken.taken.ok.0 in
    back_all p records c.args.groups.now now c.put_all.new.groups chains news c.requires.distinct c.len-count.ensures.distinct
    (led_slice p c.args.groups.now chains olds c.as_mut_slice.result.now news c.as_mut_slice.ensures.value c.lead_all.ensures c.in_ok-taken.ensures.taken)
    (subst (All WasLed) same c.in_ok-put_all.ensures.led) c.in_ok-taken.ensures.alike
    (c.in_ok-put_all.ensures.groups ∙ ap (λ (taken : List Taken). put_each chains taken now) same) s
