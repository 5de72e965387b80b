-- Records that are read beside groups: their places, and the keys that are new.
use Rattle.std.proofs.Common.{◌≡◌, ◌∙◌, ap, sym, refl, subst, arith, ℕ, zero, suc, ◌-◌, ◌<◌, ◌≤◌, Bool, true, false, ◌||◌, if◌then◌else◌, List, [], ◌∷◌, ◌++◌, map, length, append_assoc, Some, slice_get}
use Rattle.std.proofs.lemmas.List.{flat_map_more, map-append}
use Rattle.std.proofs.lemmas.List.Elements.{All-nil, All-push}
use Rattle.std.specs.List.{AllZip}
use Rattle.std.specs.Map.{keys_of}
use Rattle.sym_base.specs.declared.values.value.Key.{Key}
use Rattle.sym_base.specs.declared.values.value.Value.{Value}
use Rattle.sym_base.specs.declared.values.record.Record.{Record}
use Rattle.sym_check.specs.Meaning.Groups.{is_among, key_of}
use Rattle.sym_check.specs.Meaning.Validity.{IsRecord}
use Rattle.sym_check.specs.Plan.ScriptPlans.{ScriptPlan}
use Rattle.sym_plain.specs.Pairs.{has_key}
use Rattle.sym_shuffle.specs.declared.batch.Batch.{Batch}
use Rattle.sym_shuffle.specs.Begun.{begun, begun_one}
use Rattle.sym_shuffle.specs.Settled.{IsDealt}
use Rattle.sym_shuffle.specs.Shuffling.{AreHeld, AreNew, IsPlaceOf, marked}
use Rattle.sym_shuffle.proofs.BegunGroups.{Groups, IsGrown, among_both, begun_both, begun_has, begun_keeps, keys_both, one_there, place_stays}
use Rattle.sym_shuffle.proofs.RecordsInTurn.{zip_both}

module _ (p : ScriptPlan) where
  -- ---- new keys
  -- One record more begins its group after those of the others.
  begun_more : (records : List Record) (rec : Record) (groups : Groups) → begun p (map (key_of p) (records ++ rec ∷ [])) groups ≡ begun_one p (key_of p rec) (begun p (map (key_of p) records) groups)
  begun_more records rec groups =
      ap (λ (ks : List Key). begun p ks groups) (map-append (key_of p) records (rec ∷ []))
      ∙ begun_both p (map (key_of p) records) (key_of p rec ∷ []) groups

  pub new_none : (groups : Groups) → AreNew p groups [] []
  new_none groups more = refl

  -- A key of a group that is there, or that is new already, is no new one.
  pub new_same : (groups : Groups) (records : List Record) (rec : Record) (new : List Key) → AreNew p groups records new → is_among (key_of p rec) (keys_of groups ++ new) ≡ true → AreNew p groups (records ++ rec ∷ []) new
  new_same groups records rec new h e more =
      begun_more records rec (groups ++ more)
      ∙ ap (begun_one p (key_of p rec)) (h more)
      ∙ one_there p (key_of p rec) (begun p new (groups ++ more)) (of (is_among (key_of p rec) (keys_of groups)) refl (sym (among_both (key_of p rec) (keys_of groups) new) ∙ e))
    where
      of : (b : Bool) → is_among (key_of p rec) (keys_of groups) ≡ b → (is_among (key_of p rec) (keys_of groups) || is_among (key_of p rec) new) ≡ true → has_key (begun p new (groups ++ more)) (key_of p rec) ≡ true
      of true t f =
          begun_keeps p (key_of p rec) new (groups ++ more)
          (ap (is_among (key_of p rec)) (keys_both groups more)
          ∙ among_both (key_of p rec) (keys_of groups) (keys_of more)
          ∙ ap (λ (b : Bool). b || is_among (key_of p rec) (keys_of more)) t)
      of false t f = begun_has p (key_of p rec) new (groups ++ more) (sym (ap (λ (b : Bool). b || is_among (key_of p rec) new) t) ∙ f)

  -- Another one goes last.
  pub new_last : (groups : Groups) (records : List Record) (rec : Record) (new : List Key) → AreNew p groups records new → AreNew p groups (records ++ rec ∷ []) (new ++ key_of p rec ∷ [])
  new_last groups records rec new h more =
      begun_more records rec (groups ++ more)
      ∙ ap (begun_one p (key_of p rec)) (h more)
      ∙ sym (begun_both p new (key_of p rec ∷ []) (groups ++ more))

  pub new_more : (groups : Groups) (records : List Record) (rec : Record) (new : List Key) → AreNew p groups records new
      → AreNew p groups (records ++ rec ∷ []) (if is_among (key_of p rec) (keys_of groups ++ new) then new else new ++ key_of p rec ∷ [])
  new_more groups records rec new h = of (is_among (key_of p rec) (keys_of groups ++ new)) refl
    where
      of : (b : Bool) → is_among (key_of p rec) (keys_of groups ++ new) ≡ b → AreNew p groups (records ++ rec ∷ []) (if b then new else new ++ key_of p rec ∷ [])
      of true e = new_same groups records rec new h e
      of false e = new_last groups records rec new h

  -- ---- records with places
  pub held_none : (marks : List Bool) (keys : List Key) → AreHeld p marks keys [] [] [] []
  held_none marks keys = record {
    places_are = tt;
    numbers_are = refl;
    values_are = refl;
    of_script = All-nil (IsRecord p);
  }

  places_kept : (keys more : List Key) (places : List ℕ) (records : List Record) → AllZip (IsPlaceOf p keys) places records → AllZip (IsPlaceOf p (keys ++ more)) places records
  places_kept keys more [] [] h = tt
  places_kept keys more [] (rec ∷ records) h = absurd h
  places_kept keys more (place ∷ places) [] h = absurd h
  places_kept keys more (place ∷ places) (rec ∷ records) h = (place_stays keys more place (key_of p rec) h.0, places_kept keys more places records h.1)

  -- Their places stay where more keys go last,
  pub held_keys : (marks : List Bool) (keys more : List Key) (records : List Record) (places numbers : List ℕ) (values : List Value) → AreHeld p marks keys records places numbers values
      → AreHeld p marks (keys ++ more) records places numbers values
  held_keys marks keys more records places numbers values h = record {
    places_are = places_kept keys more places records h.places_are;
    numbers_are = h.numbers_are;
    values_are = h.values_are;
    of_script = h.of_script;
  }

  -- and where groups have grown.
  pub held_grown : (marks : List Bool) (groups now : Groups) (records : List Record) (places numbers : List ℕ) (values : List Value) → IsGrown p groups now → AreHeld p marks (keys_of groups) records places numbers values
      → AreHeld p marks (keys_of now) records places numbers values
  held_grown marks groups now records places numbers values g h =
      subst (λ (ks : List Key). AreHeld p marks ks records places numbers values) (sym (ap keys_of g.is ∙ keys_both groups g.more))
      (held_keys marks (keys_of groups) (keys_of g.more) records places numbers values h)

  -- One record more.
  pub held_more : (marks : List Bool) (keys : List Key) (records : List Record) (places numbers : List ℕ) (values : List Value) (rec : Record) (place : ℕ) → AreHeld p marks keys records places numbers values
      → slice_get keys place ≡ Some (key_of p rec) → IsRecord p rec → AreHeld p marks keys (records ++ rec ∷ []) (places ++ place ∷ []) (numbers ++ rec.no ∷ []) (values ++ marked marks rec.fields)
  held_more marks keys records places numbers values rec place h at is = record {
    places_are = zip_both (IsPlaceOf p keys) places (place ∷ []) records (rec ∷ []) h.places_are (at, tt);
    numbers_are =
        ap (λ (ns : List ℕ). ns ++ rec.no ∷ []) h.numbers_are
        ∙ sym (map-append (λ (r : Record). r.no) records (rec ∷ []));
    values_are =
        ap (λ (vs : List Value). vs ++ marked marks rec.fields) h.values_are
        ∙ flat_map_more (λ (r : Record). marked marks r.fields) [] records rec;
    of_script = All-push (IsRecord p) records rec h.of_script is;
  }

  -- ---- both
  pub dealt_none : (marks : List Bool) (groups : Groups) (batch : Batch) (new : List Key) → batch.places.items ≡ [] → batch.numbers.items ≡ [] → batch.values ≡ [] → new ≡ [] → IsDealt p marks groups [] batch new
  dealt_none marks groups batch new places numbers values none = record {
    holds = record {
      places_are = subst (λ (ns : List ℕ). AllZip (IsPlaceOf p (keys_of groups ++ new)) ns []) (sym places) tt;
      numbers_are = numbers;
      values_are = values;
      of_script = All-nil (IsRecord p);
    };
    are_new = subst (AreNew p groups []) (sym none) (new_none groups);
  }

  -- One record more was put after those of a batch; its key is new unless it is there.
  pub dealt_more : (marks : List Bool) (groups : Groups) (records : List Record) (rec : Record) (old batch : Batch) (was new : List Key) (place : ℕ) → IsDealt p marks groups records old was → IsRecord p rec
      → new ≡ (if is_among (key_of p rec) (keys_of groups ++ was) then was else was ++ key_of p rec ∷ []) → slice_get (keys_of groups ++ new) place ≡ Some (key_of p rec)
      → batch.places.items ≡ old.places.items ++ place ∷ [] → batch.numbers.items ≡ old.numbers.items ++ rec.no ∷ [] → batch.values ≡ old.values ++ marked marks rec.fields
      → IsDealt p marks groups (records ++ rec ∷ []) batch new
  dealt_more marks groups records rec old batch was new place h is keys at places numbers values =
      let before : AreHeld p marks (keys_of groups ++ new) records old.places.items old.numbers.items old.values =
      subst (λ (ks : List Key). AreHeld p marks (keys_of groups ++ ks) records old.places.items old.numbers.items old.values) (sym keys) (of (is_among (key_of p rec) (keys_of groups ++ was))) in
      let after = held_more marks (keys_of groups ++ new) records old.places.items old.numbers.items old.values rec place before at is in
      record {
        holds = record {
          places_are = subst (λ (ns : List ℕ). AllZip (IsPlaceOf p (keys_of groups ++ new)) ns (records ++ rec ∷ [])) (sym places) after.places_are;
          numbers_are = numbers ∙ after.numbers_are;
          values_are = values ∙ after.values_are;
          of_script = after.of_script;
        };
        are_new = subst (AreNew p groups (records ++ rec ∷ [])) (sym keys) (new_more groups records rec was h.are_new);
      }
    where
      of : (b : Bool) → AreHeld p marks (keys_of groups ++ (if b then was else was ++ key_of p rec ∷ [])) records old.places.items old.numbers.items old.values
      of true = h.holds
      of false =
          subst (λ (ks : List Key). AreHeld p marks ks records old.places.items old.numbers.items old.values) (append_assoc (keys_of groups) was (key_of p rec ∷ []))
          (held_keys marks (keys_of groups ++ was) (key_of p rec ∷ []) records old.places.items old.numbers.items old.values h.holds)

-- ---- places among two lists of keys
-- A place among the first keys is a place among these,
pub place_first : (keys more : List Key) (place : ℕ) (key : Key) → place < length keys → slice_get (keys ++ more) place ≡ Some key → slice_get keys place ≡ Some key
place_first [] more place key lt at = absurd (omega arith)
place_first (k ∷ keys) more zero key lt at = at
place_first (k ∷ keys) more (suc place) key lt at = place_first keys more place key (omega arith) at

-- and another one, less their number, is a place among the others.
pub place_rest : (keys more : List Key) (place : ℕ) (key : Key) → length keys ≤ place → slice_get (keys ++ more) place ≡ Some key → slice_get more (place - length keys) ≡ Some key
place_rest [] more place key h at = let same : place - 0 ≡ place = omega arith in ap (slice_get more) same ∙ at
place_rest (k ∷ keys) more zero key h at = absurd (omega arith)
place_rest (k ∷ keys) more (suc place) key h at =
    let same : suc place - suc (length keys) ≡ place - length keys = omega arith in
    ap (slice_get more) same ∙ place_rest keys more place key (omega arith) at
