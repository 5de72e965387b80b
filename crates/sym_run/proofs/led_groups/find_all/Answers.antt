use Rattle.std.proofs.Common.{◌∙◌, ◌<◌, ℕ, ap, length, subst, sym}
use Rattle.sym_run.specs.Leading.{AreFound}
use Rattle.sym_run.proofs.TakenGroups.{found_each, written_back}
use Rattle.sym_run.proofs.led_groups.find_all.Goals as goal

pub returns : goal.returns
returns g c =
    let groups = c.args.groups.now in
    let chains = c.args.chains.now in
    let news = c.find_each.new.places in
    let olds = c.in_ok-places.places.items in
    let long = c.find_each.ensures.len ∙ ap length c.as_mut_slice.ensures.value in
    subst (AreFound groups chains) (sym (written_back c.in_ok-places.places.len news olds long c.in_ok-places.places.ok.0))
    (found_each groups chains news (long ∙ sym c.in_ok-places.places.ok.0 ∙ c.in_ok-places.ensures.len ∙ c.len.ensures.len)
    (λ i d lt. c.find_each.ensures.found i d (subst (λ (n : ℕ). i < n) c.find_each.ensures.len lt)))
