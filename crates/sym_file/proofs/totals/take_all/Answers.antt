use Rattle.std.proofs.Common.{◌∙◌, ◌≤◌, Bool, ap, arith, length, subst, sym}
use Rattle.std.specs.Map.{lookup}
use Rattle.std.specs.Map.Iter.{deref_pair}
use Rattle.std.specs.Option.{option_map}
use Rattle.sym_check.specs.Checking.CheckedScripts.{checked_plan}
use Rattle.sym_check.specs.Meaning.Conditions.{test_truth}
use Rattle.sym_check.specs.Meaning.Groups.{is_key}
use Rattle.sym_plain.specs.Pairs.{standing}
use Rattle.sym_file.specs.Totals.{IsTaken, led_through, taken}
use Rattle.sym_file.proofs.Appending.{nothing_at}
use Rattle.sym_file.proofs.Taking.{all_taken, chain_fits, one_gap, one_taken}
use Rattle.sym_file.proofs.totals.take_all.Goals.{in-Some+in_ok-taken+else-not-taken, in_default}
use Rattle.sym_file.proofs.totals.take_all.Goals as goal

pub take_group-requires-clause-fits : goal.take_group-requires-clause-fits
take_group-requires-clause-fits c =
    chain_fits (checked_plan c.args.checked.now) c.args.saved.now.first c.args.saved.now.next c.args.saved.now.groups c.groups.index c.in-Some.key.now c.in-Some.chain.now c.requires.lawful.each
    (sym c.at.ensures ∙ ap (λ r. option_map deref_pair r) c.in-Some.is)

pub returns-then-not-taken-clause-taken : goal.returns-then-not-taken-clause-taken
returns-then-not-taken-clause-taken c =
    let p = checked_plan c.args.checked.now in
    let led = led_through (test_truth p.tests) c.in-Some.chain.now (standing p (lookup (is_key c.in-Some.key.now) c.groups.groups)) in
    one_gap p c.args.saved.now.groups c.in-Some.key.now c.in-Some.chain.now c.groups.index c.groups.groups c.take_group.new.groups (taken p 0 c.args.saved.now.groups c.args.groups.now)
    (sym c.at.ensures ∙ ap (λ r. option_map deref_pair r) c.in-Some.is)
    (subst (λ (b : Bool). IsTaken c.in-Some.key.now c.groups.groups led b c.take_group.new.groups) c.if-not-taken.true c.in_ok-taken.ensures.taken) c.groups.invariant.taken

pub groups-preserved : goal.groups-preserved
groups-preserved c = elim c.match-at.branch [
  | in-Some+in_ok-taken+else-not-taken w ↦
      let p = checked_plan c.args.checked.now in
      let led = led_through (test_truth p.tests) w.in-Some.chain.now (standing p (lookup (is_key w.in-Some.key.now) c.groups.groups)) in
      rw w.groups-is (record {
        valid = w.in_ok-taken.ensures.valid;
        taken =
            one_taken p c.args.saved.now.groups w.in-Some.key.now w.in-Some.chain.now c.groups.index c.groups.groups w.take_group.new.groups (taken p 0 c.args.saved.now.groups c.args.groups.now)
            (sym c.at.ensures ∙ ap (λ r. option_map deref_pair r) w.in-Some.is)
            (subst (λ (b : Bool). IsTaken w.in-Some.key.now c.groups.groups led b w.take_group.new.groups) w.if-not-taken.false w.in_ok-taken.ensures.taken) c.groups.invariant.taken;
      })
  | in_default w ↦
      absurd (nothing_at c.args.saved.now.groups c.groups.index (omega (arith, c.groups-test.true, c.len-index-end.ensures.len)) (sym c.at.ensures ∙ ap (λ r. option_map deref_pair r) w.in_default.is))
]

pub returns-clause-taken : goal.returns-clause-taken
returns-clause-taken c =
    let p = checked_plan c.args.checked.now in
    let past : length c.args.saved.now.groups ≤ c.groups.index = omega (arith, c.groups-test.false, c.len-index-end.ensures.len) in
    all_taken p c.args.saved.now.groups c.groups.index c.groups.groups (taken p 0 c.args.saved.now.groups c.args.groups.now) past c.groups.invariant.taken
