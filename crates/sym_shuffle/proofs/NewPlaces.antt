-- Groups that begin, and places that move to theirs.
use Rattle.std.proofs.Common.{◌≡◌, ◌∙◌, ap, sym, refl, subst, arith, ℕ, zero, suc, ◌+◌, ◌-◌, ◌<◌, ◌≤◌, Bool, true, false, List, [], ◌∷◌, ◌++◌, length, map, take, drop, get_or, set, Option, Some, None, is_some, slice_get, if◌then◌else◌, append_assoc, IsTrue}
use Rattle.std.specs.List.{AllZip}
use Rattle.std.specs.Map.{keys_of, lookup}
use Rattle.std.specs.Prelude.{nat_le, slice_index_or}
use Rattle.std.proofs.lemmas.Bool.{leb-true, leb-false}
use Rattle.std.proofs.lemmas.List.{append-nil, drop_more, get_or_at, map-append, map_more, set_at, length-map, length-take-le, take_at}
use Rattle.std.proofs.lemmas.Map.Made.{is_some-lookup}
use Rattle.sym_base.specs.declared.values.record.Record.{Record}
use Rattle.sym_base.specs.declared.values.state.Outcome.{Outcome}
use Rattle.sym_base.specs.declared.values.state.Outcome.TheVariants.{Going}
use Rattle.sym_base.specs.declared.values.value.Key.{Key}
use Rattle.sym_check.specs.Meaning.Groups.{is_key, key_of}
use Rattle.sym_check.specs.Meaning.Updates.{initial}
use Rattle.sym_check.specs.Plan.ScriptPlans.{ScriptPlan}
use Rattle.sym_plain.specs.Pairs.{has_key}
use Rattle.sym_shuffle.specs.Begun.{begun, begun_one}
use Rattle.sym_shuffle.specs.Places.{ArePlaces, moved_place}
use Rattle.sym_shuffle.specs.Shuffling.{AreHeld, IsPlaceOf}
use Rattle.sym_shuffle.specs.Settled.{IsDealt}
use Rattle.sym_shuffle.specs.declared.batch.Batch.{Batch}

abbrev pub Pairs : Type 0
Pairs = List (Key × Outcome)

abbrev pub NewKeys : Type 0
NewKeys = List (Key × Unit {0})

-- ---- keys at places
-- More keys after those that there are change no place.
pub get_before : (ks more : List Key) (i : ℕ) (key : Key) → slice_get ks i ≡ Some key → slice_get (ks ++ more) i ≡ Some key
get_before [] more i key h = absurd cc
get_before (k ∷ ks) more zero key h = h
get_before (k ∷ ks) more (suc i) key h = get_before ks more i key h

-- The key after these.
get_next : (ks more : List Key) (key : Key) → slice_get (ks ++ key ∷ more) (length ks) ≡ Some key
get_next [] more key = refl
get_next (k ∷ ks) more key = get_next ks more key

-- A place among the first keys, or one among those after them.
get_within : (ks more others : List Key) (i : ℕ) (key : Key) → i < length ks → slice_get (ks ++ more) i ≡ Some key → slice_get (ks ++ others) i ≡ Some key
get_within [] more others i key h at = absurd (omega (arith, h))
get_within (k ∷ ks) more others zero key h at = at
get_within (k ∷ ks) more others (suc i) key h at = get_within ks more others i key (omega (arith, h)) at

get_after : (ks more : List Key) (i : ℕ) (key : Key) → length ks ≤ i → slice_get (ks ++ more) i ≡ Some key → slice_get more (i - length ks) ≡ Some key
get_after [] more i key h at = let same : i ≡ i - 0 = omega arith in subst (λ (n : ℕ). slice_get more n ≡ Some key) same at
get_after (k ∷ ks) more zero key h at = absurd (omega (arith, h))
get_after (k ∷ ks) more (suc i) key h at =
    let same : i - length ks ≡ suc i - suc (length ks) = omega arith in
    subst (λ (n : ℕ). slice_get more n ≡ Some key) same (get_after ks more i key (omega (arith, h)) at)

-- ---- groups that begin
-- A group that is there.
pub begun_there : (p : ScriptPlan) (key : Key) (old : Pairs) (found : Option ℕ) (place : ℕ) → found ≡ Some place → is_some found ≡ is_some (lookup (is_key key) old) → old ≡ begun_one p key old
begun_there p key old found place is same =
    let there : has_key old key ≡ true = sym (is_some-lookup (is_key key) old) ∙ sym same ∙ ap is_some is in
    sym (ap (λ (b : Bool). if b then old else old ++ (key, Going (initial p)) ∷ []) there)

-- One that isn't goes last.
pub begun_last : (p : ScriptPlan) (key : Key) (old : Pairs) (found : Option ℕ) → found ≡ None → is_some found ≡ is_some (lookup (is_key key) old) → old ++ (key, Going (initial p)) ∷ [] ≡ begun_one p key old
begun_last p key old found is same =
    let absent : has_key old key ≡ false = sym (is_some-lookup (is_key key) old) ∙ sym same ∙ ap is_some is in
    sym (ap (λ (b : Bool). if b then old else old ++ (key, Going (initial p)) ∷ []) absent)

pub last_place : (old : Pairs) (key : Key) (outcome : Outcome) → slice_get (keys_of (old ++ (key, outcome) ∷ [])) (length old) ≡ Some key
last_place [] key outcome = refl
last_place (q ∷ old) key outcome = last_place old key outcome

-- The keys that there were are the first ones.
pub begun_one_keys : (p : ScriptPlan) (key : Key) (old : Pairs) → (more : List Key) × (keys_of (begun_one p key old) ≡ keys_of old ++ more)
begun_one_keys p key old = of (has_key old key)
  where
    of : (b : Bool) → (more : List Key) × (keys_of (if b then old else old ++ (key, Going (initial p)) ∷ []) ≡ keys_of old ++ more)
    of true = ([], sym (append-nil (keys_of old)))
    of false = (key ∷ [], map-append (λ (q : Key × Outcome). q.0) old ((key, Going (initial p)) ∷ []))

pub begun_keys : (p : ScriptPlan) (keys : List Key) (old : Pairs) → (more : List Key) × (keys_of (begun p keys old) ≡ keys_of old ++ more)
begun_keys p [] old = ([], sym (append-nil (keys_of old)))
begun_keys p (key ∷ keys) old =
    let one = begun_one_keys p key old in
    let rest = begun_keys p keys (begun_one p key old) in
    (one.0 ++ rest.0, rest.1 ∙ ap (λ (ks : List Key). ks ++ rest.0) one.1 ∙ append_assoc (keys_of old) one.0 rest.0)

-- A table that is empty has no keys.
pub no_keys : (new : NewKeys) (empty : Bool) → (IsTrue empty → length new ≡ 0) → empty ≡ true → keys_of new ≡ []
no_keys [] empty none is = refl
no_keys (q ∷ new) empty none is =
    let zero_is : length (q ∷ new) ≡ 0 = none is in absurd (omega (arith, zero_is))

-- ---- places of keys
places_before : (ks more : List Key) (places : List ℕ) (keys : List Key) → ArePlaces ks places keys → ArePlaces (ks ++ more) places keys
places_before ks more [] [] h = tt
places_before ks more [] (key ∷ keys) h = absurd h
places_before ks more (place ∷ places) [] h = absurd h
places_before ks more (place ∷ places) (key ∷ keys) h = (get_before ks more place key h.0, places_before ks more places keys h.1)

places_push : (ks : List Key) (places : List ℕ) (keys : List Key) (place : ℕ) (key : Key) → ArePlaces ks places keys → slice_get ks place ≡ Some key → ArePlaces ks (places ++ place ∷ []) (keys ++ key ∷ [])
places_push ks [] [] place key h at = (at, tt)
places_push ks [] (k ∷ keys) place key h at = absurd h
places_push ks (i ∷ places) [] place key h at = absurd h
places_push ks (i ∷ places) (k ∷ keys) place key h at = (h.0, places_push ks places keys place key h.1 at)

-- The place of one key more, which begins where it isn't there.
pub one_place_more : (p : ScriptPlan) (old new : Pairs) (places : List ℕ) (done : List Key) (place : ℕ) (key : Key) → new ≡ begun_one p key old → slice_get (keys_of new) place ≡ Some key
    → ArePlaces (keys_of old) places done → ArePlaces (keys_of new) (places ++ place ∷ []) (done ++ key ∷ [])
one_place_more p old new places done place key is at h =
    let more = begun_one_keys p key old in
    let keys : keys_of old ++ more.0 ≡ keys_of new = sym more.1 ∙ ap (λ (g : Pairs). keys_of g) (sym is) in
    places_push (keys_of new) places done place key (subst (λ (ks : List Key). ArePlaces ks places done) keys (places_before (keys_of old) more.0 places done h)) at

-- The place of a key by its index.
moved_at : (ks : List Key) (moved : List ℕ) (keys : List Key) (i d : ℕ) (key : Key) → ArePlaces ks moved keys → slice_get keys i ≡ Some key → slice_get ks (slice_index_or moved i d) ≡ Some key
moved_at ks [] [] i d key h at = absurd cc
moved_at ks [] (k ∷ keys) i d key h at = absurd h
moved_at ks (m ∷ moved) [] i d key h at = absurd h
moved_at ks (m ∷ moved) (k ∷ keys) zero d key h at = h.0 ∙ at
moved_at ks (m ∷ moved) (k ∷ keys) (suc i) d key h at = moved_at ks moved keys i d key h.1 at

-- ---- places that move
module _ {A : Type 0} (f : A → A) where
  -- The next one moves.
  pub moves_on : (old now : List A) (i : ℕ) (x y : A) → i < length old → now ≡ map f (take i old) ++ drop i old → x ≡ get_or now i x → y ≡ f x → set now i y ≡ map f (take (i + 1) old) ++ drop (i + 1) old
  moves_on old now i x y h is read moved =
      let first = map f (take i old) in
      let rest : List A = drop (i + 1) old in
      let next : drop i old ≡ get_or old i x ∷ rest = drop_more old i x h in
      let long : length first ≡ i = length-map (take i old) f ∙ length-take-le i old (omega (arith, h)) in
      let all : now ≡ first ++ get_or old i x ∷ rest = is ∙ ap (λ (xs : List A). first ++ xs) next in
      let here : x ≡ get_or old i x = read ∙ ap (λ (xs : List A). get_or xs i x) all ∙ get_or_at first (get_or old i x) rest x i long in
      ap (λ (xs : List A). set xs i y) all
      ∙ set_at first (get_or old i x) rest y i long
      ∙ ap (λ (z : A). first ++ z ∷ rest) (moved ∙ ap f here)
      ∙ sym (append_assoc first (f (get_or old i x) ∷ []) rest)
      ∙ ap (λ (xs : List A). xs ++ rest) (sym (map_more f old i x h))

-- A place among the keys that there were and new ones goes to that of the same key.
moved_key : (first ks now : List Key) (moved : List ℕ) (count place : ℕ) (key : Key) → length first ≡ count → (more : List Key) → now ≡ first ++ more → ArePlaces now moved ks
    → slice_get (first ++ ks) place ≡ Some key → slice_get now (moved_place count moved place) ≡ Some key
moved_key first ks now moved count place key long more is places at = of (nat_le count place) refl
  where
    of : (b : Bool) → nat_le count place ≡ b → slice_get now (if b then slice_index_or moved (place - count) place else place) ≡ Some key
    of true e =
        let past = leb-true count place e in
        let there : slice_get ks (place - count) ≡ Some key = subst (λ (n : ℕ). slice_get ks (place - n) ≡ Some key) long (get_after first ks place key (omega (arith, long, past)) at) in
        moved_at now moved ks (place - count) place key places there
    of false e =
        let before = leb-false count place e in
        subst (λ (keys : List Key). slice_get keys place ≡ Some key) (sym is) (get_within first ks more place key (omega (arith, long, before)) at)

moved_all : (p : ScriptPlan) (first ks now : List Key) (moved : List ℕ) (count : ℕ) (places : List ℕ) (records : List Record) → length first ≡ count → (more : List Key) → now ≡ first ++ more → ArePlaces now moved ks
    → AllZip (IsPlaceOf p (first ++ ks)) places records → AllZip (IsPlaceOf p now) (map (moved_place count moved) places) records
moved_all p first ks now moved count [] [] long more is are h = tt
moved_all p first ks now moved count [] (rec ∷ records) long more is are h = absurd h
moved_all p first ks now moved count (place ∷ places) [] long more is are h = absurd h
moved_all p first ks now moved count (place ∷ places) (rec ∷ records) long more is are h =
    (moved_key first ks now moved count place (key_of p rec) long more is are h.0, moved_all p first ks now moved count places records long more is are h.1)

keys_count : (pairs : Pairs) → length (keys_of pairs) ≡ length pairs
keys_count pairs = length-map pairs (λ (q : Key × Outcome). q.0)

keys_append : (xs ys : Pairs) → keys_of (xs ++ ys) ≡ keys_of xs ++ keys_of ys
keys_append xs ys = map-append (λ (q : Key × Outcome). q.0) xs ys

-- The groups that there were are the first ones after new ones have begun.
begun_first : (p : ScriptPlan) (keys : List Key) (old now base more : Pairs) → now ≡ begun p keys old → old ≡ base ++ more → (others : List Key) × (keys_of now ≡ keys_of base ++ others)
begun_first p keys old now base more is split =
    let after = begun_keys p keys old in (
      keys_of more ++ after.0,
      ap (λ (g : Pairs). keys_of g) is
          ∙ after.1
          ∙ ap (λ (g : Pairs). keys_of g ++ after.0) split
          ∙ ap (λ (ks : List Key). ks ++ after.0) (keys_append base more)
          ∙ append_assoc (keys_of base) (keys_of more) after.0,
    )

module _ (p : ScriptPlan) (marks : List Bool) (base more old now : Pairs) (records : List Record) (batch : Batch) (keys : List Key) (count : ℕ) where
  -- A batch whose places have moved holds its records among the groups that there are now.
  pub settled_holds : (moved places : List ℕ) → length base ≡ count → old ≡ base ++ more → now ≡ begun p keys old → ArePlaces (keys_of now) moved keys → places ≡ map (moved_place count moved) batch.places.items
      → IsDealt p marks base records batch keys → AreHeld p marks (keys_of now) records places batch.numbers.items batch.values
  settled_holds moved places long split is are went dealt =
      let first = begun_first p keys old now base more is split in
      record {
        places_are =
            subst (λ (ps : List ℕ). AllZip (IsPlaceOf p (keys_of now)) ps records) (sym went)
            (moved_all p (keys_of base) keys (keys_of now) moved count batch.places.items records (keys_count base ∙ long) first.0 first.1 are dealt.holds.places_are);
        numbers_are = dealt.holds.numbers_are;
        values_are = dealt.holds.values_are;
        of_script = dealt.holds.of_script;
      }

  -- The same of one with no new keys, whose places stay.
  pub unmoved_holds : old ≡ base ++ more → keys ≡ [] → IsDealt p marks base records batch keys → AreHeld p marks (keys_of old) records batch.places.items batch.numbers.items batch.values
  unmoved_holds split none dealt =
      let all : keys_of base ++ keys_of more ≡ keys_of old = sym (keys_append base more) ∙ ap (λ (g : Pairs). keys_of g) (sym split) in
      let here : keys_of base ++ keys ≡ keys_of base = ap (λ (ks : List Key). keys_of base ++ ks) none ∙ append-nil (keys_of base) in
      record {
        places_are =
            subst (λ (ks : List Key). AllZip (IsPlaceOf p ks) batch.places.items records) all
            (kept_all (keys_of base) (keys_of more) batch.places.items records (subst (λ (ks : List Key). AllZip (IsPlaceOf p ks) batch.places.items records) here dealt.holds.places_are));
        numbers_are = dealt.holds.numbers_are;
        values_are = dealt.holds.values_are;
        of_script = dealt.holds.of_script;
      }
    where
      kept_all : (ks others : List Key) (places : List ℕ) (recs : List Record) → AllZip (IsPlaceOf p ks) places recs → AllZip (IsPlaceOf p (ks ++ others)) places recs
      kept_all ks others [] [] h = tt
      kept_all ks others [] (rec ∷ recs) h = absurd h
      kept_all ks others (place ∷ places) [] h = absurd h
      kept_all ks others (place ∷ places) (rec ∷ recs) h = (get_before ks others place (key_of p rec) h.0, kept_all ks others places recs h.1)

-- What is written over all items of a vector is what it has then.
pub written_back : {A : Type 0} (len : ℕ) (news olds : List A) → length news ≡ length olds → len ≡ length olds → take len (news ++ drop (length news) olds) ≡ news
written_back len news olds long whole = take_at news (drop (length news) olds) len (omega (arith, long, whole))
