use Rattle.std.proofs.Common.{◌∙◌, ap, length, map, List, ℕ}
use Rattle.std.proofs.lemmas.List.{length-map}
use Rattle.std.specs.Map.{keys_of}
use Rattle.sym_check.specs.Checking.CheckedScripts.{checked_plan}
use Rattle.sym_shuffle.specs.Places.{moved_place}
use Rattle.sym_shuffle.proofs.NewPlaces.{no_keys, settled_holds, unmoved_holds, written_back}
use Rattle.sym_shuffle.proofs.settled.settle.Goals as goal

pub returns-then-is_empty-clause-holds : goal.returns-then-is_empty-clause-holds
returns-then-is_empty-clause-holds c = λ marks base more records long split dealt.
    unmoved_holds (checked_plan c.args.checked.now) marks base more c.args.groups.now c.args.groups.now records c.args.batch (keys_of c.args.new.entries) c.args.count split
    (no_keys c.args.new.entries c.is_empty.result c.is_empty.ensures.0 c.if-is_empty.true) dealt

pub returns-clause-holds : goal.returns-clause-holds
returns-clause-holds c = λ marks base more records long split dealt.
    settled_holds (checked_plan c.args.checked.now) marks base more c.args.groups.now c.places_of.new.groups records c.args.batch (keys_of c.args.new.entries) c.args.count
    c.in_ok-moved.moved.items _ long split c.in_ok-moved.ensures.groups c.in_ok-moved.ensures.places
    (written_back c.args.batch.places.len c.move_places.new.places c.args.batch.places.items
    (ap (λ (places : List ℕ). length places) c.move_places.ensures ∙ length-map c.as_mut_slice.result.now _ ∙ ap (λ (places : List ℕ). length places) c.as_mut_slice.ensures.value)
    c.args.batch.places.ok.0
    ∙ c.move_places.ensures
    ∙ ap (λ (places : List ℕ). map (moved_place c.args.count c.as_slice.result.now) places) c.as_mut_slice.ensures.value
    ∙ ap (λ (moved : List ℕ). map (moved_place c.args.count moved) c.args.batch.places.items) c.as_slice.ensures.value)
    dealt
