use Rattle.std.proofs.Common.{◌≡◌, ◌∙◌, ◌∷◌, ◌+◌, ◌-◌, ◌^◌, ◌<◌, ◌≤◌, ℕ, List, ap, arith, drop, length, subst, sym, Some, slice_get}
use Rattle.sym_base.specs.declared.values.value.Value.{Value}
use Rattle.sym_check.specs.Checking.CheckedScripts.{checked_plan}
use Rattle.sym_shuffle.specs.Shuffling.{marked_of, width_of}
use Rattle.sym_shuffle.proofs.LeadingSteps.{next_left}
use Rattle.sym_shuffle.proofs.MarkedValues.{marked_first}
use Rattle.sym_shuffle.proofs.RecordsInTurn.{AreLeft, held_at, left_at, left_next, read_there}
use Rattle.sym_shuffle.proofs.led_batches.lead_batch.Goals as goal

pub records-preserved : goal.records-preserved
records-preserved c = λ keys records held blank.
    let p = checked_plan c.args.script.now.checked.now in
    let marks = c.args.script.now.marks.now in
    let batch = c.args.batch.now in
    let places : List ℕ = batch.places.items in
    let numbers : List ℕ = batch.numbers.items in
    let i = c.records.index in
    let values : List Value = batch.values in
    let rest : List Value = drop c.records.next values in
    let few : length values ≤ (2 ^ 64 - 1) = omega (arith, c.len-count.ensures, c.ranges) in
    let here = c.records.invariant keys records held blank in
    let back = next_left values c.records.next c.width_of-width.result (width_of marks) c.saturating_add-next.result (2 ^ 64 - 1) c.width_of-width.ensures.width c.saturating_add-next.ensures few in
    let within : i < length places = omega (arith, c.records-test.true, c.len-index-end.ensures) in
    let found : slice_get c.deref.result.now i ≡ Some c.in-Some.no.now = read_there c.deref.result.now i c.in-Some.no.now c.in-Some.ensures.lookup.3.0 c.in-Some.ensures.lookup.1 in
    let number : slice_get numbers i ≡ Some c.in-Some.no.now = ap (λ (ns : List ℕ). slice_get ns i) (sym c.deref.ensures.value) ∙ found in
    let one = held_at p marks keys records places numbers values i held within in
    let from : rest ≡ marked_of marks (one.one ∷ drop (i + 1) records) = here.left.values ∙ ap (marked_of marks) (left_at records i one.one one.at) in
    let first = marked_first p marks one.one (drop (i + 1) records) rest c.requires one.of_script from in
    record {
      blank = c.in_ok-step_one-in-Some.ensures.blank one.one one.of_script first.0 here.blank;
      left =
          subst (λ (values : List Value). AreLeft p marks c.args.start records places values (i + 1) c.args.outcomes.now c.step_one.new.outcomes) (sym back)
          (left_next p marks keys c.args.start records places numbers values rest i c.index-place.result.now c.in-Some.no.now c.args.outcomes.now c.records.outcomes c.step_one.new.outcomes
          held c.requires here.left within c.index-place.ensures number
          (λ rec is values same. c.in_ok-step_one-in-Some.ensures.led rec is values here.blank same));
    }
