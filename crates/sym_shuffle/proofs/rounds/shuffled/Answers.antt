use Rattle.std.proofs.Common.{◌≡◌, ◌∙◌, List, ap, subst, sym, refl}
use Rattle.std.specs.List.{AllZip}
use Rattle.std.specs.Map.{values_of}
use Rattle.sym_base.specs.declared.values.record.Record.{Record}
use Rattle.sym_base.specs.declared.values.value.Key.{Key}
use Rattle.sym_check.specs.Checking.CheckedScripts.{checked_plan}
use Rattle.sym_check.specs.Plan.WellFormed.{IsWellFormed}
use Rattle.sym_shuffle.specs.Settled.{AreSettled, Holds, led_all}
use Rattle.sym_shuffle.specs.declared.batch.Batch.{Batch}
use Rattle.sym_shuffle.proofs.SettledRounds.{settled_end, settled_valid}
use Rattle.sym_shuffle.proofs.rounds.shuffled.Goals as goal

-- The batches are led, as the call says of what it was lent.
led : (g : _) (c : goal.After-drop-marks-in-Ok-1 g) (keys : List Key) (records : List (List Record))
    → AllZip (Holds (checked_plan c.args.checked.now) c.as_slice-marks.result.now keys) records c.in-Ok.batches.items
    → c.lead_round.new.outcomes ≡ led_all (checked_plan c.args.checked.now) 0 c.in-Ok.batches.items records (values_of c.settle_round.new.groups)
led g c keys records hold =
    let p = checked_plan c.args.checked.now in
    let marks = c.as_slice-marks.result.now in
    let same : c.as_slice-batches.result.now ≡ c.in-Ok.batches.items = c.as_slice-batches.ensures.value in
    c.in_ok-lead_round-in-Ok.ensures keys records (subst (AllZip (Holds p marks keys) records) (sym same) hold)
    ∙ ap (λ (batches : List Batch). led_all p 0 batches records c.outcomes_mut-outcomes.result.now) same
    ∙ ap (led_all p 0 c.in-Ok.batches.items records) c.outcomes_mut-outcomes.ensures.outcomes

pub returns-in_ok-lead_round-in-Ok-clause-groups : goal.returns-in_ok-lead_round-in-Ok-clause-groups
returns-in_ok-lead_round-in-Ok-clause-groups g c =
    let p = checked_plan c.args.checked.now in
    let marks = c.as_slice-marks.result.now in
    let chunks = c.args.chunks.now in
    let now = c.settle_round.new.groups in
    let settled : AreSettled p marks chunks c.args.groups now c.in-Ok.batches.items = rw c.in-Ok.is at c.in_ok-batches.ensures in
    settled_end p marks chunks c.args.groups now _ c.in-Ok.batches.items c.lead_round.new.outcomes settled c.outcomes_mut-outcomes.ensures.distinct (led g c) refl

pub returns-in_ok-lead_round-in-Ok-clause-valid : goal.returns-in_ok-lead_round-in-Ok-clause-valid
returns-in_ok-lead_round-in-Ok-clause-valid g c =
    let p = checked_plan c.args.checked.now in
    let marks = c.as_slice-marks.result.now in
    let chunks = c.args.chunks.now in
    let now = c.settle_round.new.groups in
    let well : IsWellFormed p = subst IsWellFormed c.plan-plan.ensures.same c.plan-plan.ensures.well_formed in
    let settled : AreSettled p marks chunks c.args.groups now c.in-Ok.batches.items = rw c.in-Ok.is at c.in_ok-batches.ensures in
    settled_valid p marks chunks c.args.groups now _ c.in-Ok.batches.items c.lead_round.new.outcomes settled c.outcomes_mut-outcomes.ensures.distinct (led g c) refl
    (λ records are. c.records_keep_groups_valid.ensures.many p records c.args.groups well are c.requires.valid)
