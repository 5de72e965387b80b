use Rattle.std.proofs.Common.{◌≡◌, ◌∙◌, ◌∷◌, ◌++◌, [], List, ap, append_assoc, subst, sym, ℕ}
use Rattle.std.specs.Map.{keys_of}
use Rattle.sym_base.specs.declared.values.value.Key.{Key}
use Rattle.sym_check.specs.Checking.CheckedScripts.{checked_plan}
use Rattle.sym_shuffle.specs.Begun.{begun}
use Rattle.sym_shuffle.specs.Places.{ArePlaces}
use Rattle.sym_shuffle.proofs.NewPlaces.{NewKeys, one_place_more}
use Rattle.sym_shuffle.proofs.settled.places_of.Goals as goal

pub keys-preserved : goal.keys-preserved
keys-preserved c =
    let p = checked_plan c.args.checked.now in
    let key = c.in-Some.key in
    let done = c.keys.invariant.done in
    let rest = keys_of c.next.new.self in
    let left : keys_of c.keys.key-iterator ≡ key ∷ rest = ap (λ (entries : NewKeys). keys_of entries) c.in-Some.ensures.steps in
    record {
      done = done ++ key ∷ [];
      all = append_assoc done (key ∷ []) rest ∙ ap (λ (ks : List Key). done ++ ks) (sym left) ∙ c.keys.invariant.all;
      groups =
          ap (begun p rest) c.in_ok-place_of.ensures.groups
          ∙ ap (λ (ks : List Key). begun p ks c.keys.groups) (sym left)
          ∙ c.keys.invariant.groups;
      places =
          subst (λ (places : List ℕ). ArePlaces (keys_of c.place_of.new.groups) places (done ++ key ∷ [])) (sym {A = List ℕ} c.in_ok-push.ensures.items)
          (one_place_more p c.keys.groups c.place_of.new.groups c.keys.places.items done c.in_ok-place_of.field-0 key c.in_ok-place_of.ensures.groups c.in_ok-place_of.ensures.place c.keys.invariant.places);
    }
