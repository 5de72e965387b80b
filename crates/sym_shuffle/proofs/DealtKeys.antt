-- The places of keys among those of groups and new ones, to which records are put.
use Rattle.std.proofs.Common.{◌≡◌, ◌∙◌, ap, sym, refl, ℕ, ◌+◌, get_or, is_some, length, Bool, true, false, ◌||◌, if◌then◌else◌, List, [], ◌∷◌, ◌++◌, None, Some, Ok, slice_get}
use Rattle.std.specs.List.{position}
use Rattle.std.specs.Map.{keys_of, lookup}
use Rattle.std.proofs.lemmas.List.Quantifiers.{position-Some}
use Rattle.std.proofs.lemmas.Map.Entries.{length-keys_of}
use Rattle.std.proofs.lemmas.Map.Made.{is_some-lookup}
use Rattle.std.proofs.lemmas.Option.{slice_get-get_or}
use Rattle.indexmap.specs.IndexMap.{insert_entry}
use Rattle.sym_base.specs.declared.values.value.Key.{Key}
use Rattle.sym_base.specs.declared.values.record.Record.{Record}
use Rattle.sym_check.specs.Meaning.Groups.{is_among, is_key, key_of}
use Rattle.sym_check.specs.Meaning.Validity.{IsRecord}
use Rattle.sym_check.specs.Plan.ScriptPlans.{ScriptPlan}
use Rattle.sym_check.proofs.Keys.{equal_keys}
use Rattle.sym_shuffle.specs.Dealing.{with_new}
use Rattle.sym_shuffle.specs.Settled.{HasDealt}
use Rattle.sym_shuffle.specs.Shuffling.{marked}
use Rattle.sym_shuffle.specs.declared.dealt.Dealt.{Dealt}
use Rattle.sym_shuffle.proofs.BegunGroups.{Groups, among_both, place_after, place_among, place_last}
use Rattle.sym_shuffle.proofs.DealtRecords.{dealt_more, dealt_none}

-- ---- a key's place
-- The first index of a key is its place.
pub indexed_key : (keys : List Key) (key : Key) (index : ℕ) → Some index ≡ position (is_key key) keys → slice_get keys index ≡ Some key
indexed_key keys key index is =
    let h = position-Some (is_key key) keys index key (sym is) in
    slice_get-get_or keys index key h.0 ∙ ap Some (sym (equal_keys key (get_or keys index key) h.1))

-- The place of a new key is that among the new ones, after the groups.
pub place_beside : (groups : Groups) (new : List Key) (key : Key) (n index place : ℕ) → slice_get new index ≡ Some key → n ≡ length groups → place ≡ n + index → slice_get (keys_of groups ++ new) place ≡ Some key
place_beside groups new key n index place at count sum =
    ap (slice_get (keys_of groups ++ new)) (sum ∙ ap (λ (m : ℕ). m + index) (count ∙ sym (length-keys_of groups)))
    ∙ place_after (keys_of groups) new index key at

-- ---- new keys that grow
there_stays : (others new : List Key) (key : Key) → is_among key (others ++ new) ≡ true → new ≡ with_new others new key
there_stays others new key h = sym (ap (λ (b : Bool). if b then new else new ++ key ∷ []) h)

-- One of the new keys changes nothing,
pub new_stays : (new : List Key) (key : Key) (index : ℕ) → slice_get new index ≡ Some key → new ≡ with_new [] new key
new_stays new key index at = there_stays [] new key (place_among new index key at)

-- nor does one of the others.
pub other_stays : (others new : List Key) (key : Key) (index : ℕ) → slice_get others index ≡ Some key → new ≡ with_new others new key
other_stays others new key index at =
    there_stays others new key
    (among_both key others new ∙ ap (λ (b : Bool). b || is_among key new) (place_among others index key at))

-- A key that isn't there goes last in a map,
insert_last : {V : Type 0} (pairs : List (Key × V)) (key : Key) (now : V) → is_among key (keys_of pairs) ≡ false → keys_of (insert_entry is_key pairs key now) ≡ keys_of pairs ++ key ∷ []
insert_last [] key now absent = refl
insert_last (p ∷ pairs) key now absent = of (is_key key p.0) absent (insert_last pairs key now)
  where
    of : (b : Bool) → b || is_among key (keys_of pairs) ≡ false → (is_among key (keys_of pairs) ≡ false → keys_of (insert_entry is_key pairs key now) ≡ keys_of pairs ++ key ∷ [])
        → keys_of (if b then (p.0, now) ∷ pairs else p ∷ insert_entry is_key pairs key now) ≡ p.0 ∷ (keys_of pairs ++ key ∷ [])
    of true absent later = cc
    of false absent later = ap (λ (ks : List Key). p.0 ∷ ks) (later absent)

pub goes_last : {V : Type 0} (pairs after : List (Key × V)) (key copied : Key) (now : V) → copied ≡ key → false ≡ is_some (lookup (is_key key) pairs) → after ≡ insert_entry is_key pairs copied now
    → keys_of after ≡ keys_of pairs ++ key ∷ []
goes_last pairs after key copied now same absent is =
    ap keys_of (is ∙ ap (λ (k : Key). insert_entry is_key pairs k now) same)
    ∙ insert_last pairs key now (sym (is_some-lookup (is_key key) pairs) ∙ sym absent)

-- and so it does among the new keys,
pub last_is_new : {V : Type 0} (pairs after : List (Key × V)) (key : Key) → false ≡ is_some (lookup (is_key key) pairs) → keys_of after ≡ keys_of pairs ++ key ∷ [] → keys_of after ≡ with_new [] (keys_of pairs) key
last_is_new pairs after key absent is =
    is ∙ sym (ap (λ (b : Bool). if b then keys_of pairs else keys_of pairs ++ key ∷ []) (sym (is_some-lookup (is_key key) pairs) ∙ sym absent))

-- at the place that comes next.
pub last_place : {V : Type 0} (pairs after : List (Key × V)) (key : Key) (n : ℕ) → n ≡ length pairs → keys_of after ≡ keys_of pairs ++ key ∷ [] → slice_get (keys_of after) n ≡ Some key
last_place pairs after key n count is =
    ap (λ (ks : List Key). slice_get ks n) is
    ∙ ap (slice_get (keys_of pairs ++ key ∷ [])) (count ∙ sym (length-keys_of pairs))
    ∙ place_last (keys_of pairs) key

-- A key that no group has is new beside the groups where it is new beside none.
pub new_beside : (groups : Groups) (new now : List Key) (key : Key) → false ≡ is_some (lookup (is_key key) groups) → now ≡ with_new [] new key → now ≡ with_new (keys_of groups) new key
new_beside groups new now key absent is =
    is
    ∙ ap (λ (b : Bool). if b then new else new ++ key ∷ [])
    (sym (among_both key (keys_of groups) new ∙ ap (λ (b : Bool). b || is_among key new) (sym (is_some-lookup (is_key key) groups) ∙ sym absent)))

-- ---- what is dealt
-- No record is,
pub none_dealt : (p : ScriptPlan) (marks : List Bool) (groups : Groups) (new : Dealt) → new.bad ≡ None → keys_of new.new.entries ≡ [] → new.batch.places.items ≡ [] → new.batch.numbers.items ≡ []
    → new.batch.values ≡ [] → HasDealt p marks groups (Ok []) new
none_dealt p marks groups new bad keys places numbers values =
    (bad, dealt_none p marks groups new.batch (keys_of new.new.entries) places numbers values keys)

-- or a record more.
pub dealt_on : (p : ScriptPlan) (marks : List Bool) (groups : Groups) (done : List Record) (rec : Record) (place : ℕ) (old new : Dealt)
    → IsRecord p rec
    → slice_get (keys_of groups ++ keys_of new.new.entries) place ≡ Some (key_of p rec)
    → keys_of new.new.entries ≡ with_new (keys_of groups) (keys_of old.new.entries) (key_of p rec)
    → new.batch.places.items ≡ old.batch.places.items ++ place ∷ []
    → new.batch.numbers.items ≡ old.batch.numbers.items ++ rec.no ∷ []
    → new.batch.values ≡ old.batch.values ++ marked marks rec.fields
    → new.bad ≡ old.bad
    → HasDealt p marks groups (Ok done) old → HasDealt p marks groups (Ok (done ++ rec ∷ [])) new
dealt_on p marks groups done rec place old new of_script at keys places numbers values bad was = (
  bad ∙ was.0,
  dealt_more p marks groups done rec old.batch new.batch (keys_of old.new.entries) (keys_of new.new.entries) place was.1 of_script keys at places numbers values,
)
