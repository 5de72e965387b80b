-- Groups that are taken out, led beside each other, and put back.
use Rattle.std.proofs.Common.{◌≡◌, ◌∙◌, ap, ap₂, sym, refl, subst, arith, ℕ, zero, suc, ◌+◌, ◌<◌, Bool, true, false, true≢false, ◌||◌, if◌then◌else◌, List, [], ◌∷◌, ◌++◌, drop, length, take, Option, Some, None, is_some, OnOk}
use Rattle.std.proofs.lemmas.List.{append_assoc, append-nil, take_at}
use Rattle.std.proofs.lemmas.List.Elements.{All-cons, All-head, All-nil, All-tail}
use Rattle.std.proofs.lemmas.Map.Keys.{IsDistinct-head, IsDistinct-tail}
use Rattle.std.proofs.lemmas.Map.Made.{is_some-lookup}
use Rattle.std.proofs.lemmas.Result.{IfOk-at_ok}
use Rattle.std.specs.List.{All, AllByRecursion, AllZip, IsDistinct}
use Rattle.std.specs.Map.{keys_of, lookup, values_of}
use Rattle.std.specs.Prelude.{slice_get, slice_index_or}
use Rattle.sym_base.specs.declared.values.value.Key.{Key}
use Rattle.sym_base.specs.declared.values.record.Record.{Record}
use Rattle.sym_base.specs.declared.values.state.Outcome.{Outcome}
use Rattle.sym_check.specs.Meaning.Groups.{is_among, is_key, records_of}
use Rattle.sym_check.specs.Meaning.Updates.{after}
use Rattle.sym_check.specs.Meaning.Validity.{IsValidOutcome}
use Rattle.sym_check.specs.Plan.ScriptPlans.{ScriptPlan}
use Rattle.sym_check.proofs.Keys.{equal_keys, keys_equiv, same_key}
use Rattle.sym_run.specs.Chained.{Chained}
use Rattle.sym_plain.specs.Pairs.{HaveDistinctKeys, after_keys, after_records, has_key, put, standing, stepped_by}
use Rattle.sym_plain.proofs.Apart.{groups_apart}
use Rattle.sym_plain.proofs.Pairs.{indexed-lookup}
use Rattle.sym_plain.proofs.Puts.{lookup-put, lookup-put-same}
use Rattle.sym_run.specs.Applying.{AreValid}
use Rattle.sym_run.specs.Chains.{ChainStandsFor}
use Rattle.sym_run.specs.Leading.{AreAlikeBut, AreFound, AreLedBy, ArePlaces, AreTaken, IsAt, IsFound, IsLed, IsLedBy, IsLedFrom, IsTaken, WasLed, put_each}
use Rattle.sym_run.specs.Runs.{GroupsStandFor}
use Rattle.sym_run.specs.declared.led_groups.Taken.{Taken}
use Rattle.sym_run.proofs.GroupPuts.{all_put, keys-put, new_key}

abbrev pub Chains : Type 0
Chains = List (Key × Chained)

abbrev pub Groups : Type 0
Groups = List (Key × Outcome)

-- ---- keys that are none of others
none_of : (j k : Key) (ks : List Key) → is_among j (k ∷ ks) ≡ false → (is_key j k ≡ false) × (is_among j ks ≡ false)
none_of j k ks h = of (is_key j k) (is_among j ks) h
  where
    of : (b c : Bool) → (b || c) ≡ false → (b ≡ false) × (c ≡ false)
    of true c e = absurd (true≢false e)
    of false c e = (refl, e)

pub none_of_more : (j : Key) (xs : Chains) (q : Key × Chained) → is_among j (keys_of (xs ++ q ∷ [])) ≡ false → (is_among j (keys_of xs) ≡ false) × (is_key j q.0 ≡ false)
none_of_more j [] q h = (refl, (none_of j q.0 [] h).0)
none_of_more j (x ∷ xs) q h =
    let both = none_of j x.0 (keys_of (xs ++ q ∷ [])) h in
    let later = none_of_more j xs q both.1 in
    (ap (λ (b : Bool). b || is_among j (keys_of xs)) both.0 ∙ later.0, later.1)

or_true : (b : Bool) → (b || true) ≡ true
or_true true = refl
or_true false = refl

-- A key that is one of others is unlike one that is none of them.
unlike_one : (k : Key) (ks : List Key) (j : Key) → AllByRecursion (λ y. is_key k y ≡ false) ks → is_among j ks ≡ true → is_key j k ≡ false
unlike_one k [] j h e = absurd (true≢false (sym e))
unlike_one k (y ∷ ks) j h e = of (is_key j y) refl e (unlike_one k ks j h.1)
  where
    of : (b : Bool) → is_key j y ≡ b → (b || is_among j ks) ≡ true → (is_among j ks ≡ true → is_key j k ≡ false) → is_key j k ≡ false
    of true t f later = ap (λ (i : Key). is_key i k) (equal_keys j y t) ∙ keys_equiv.symm y k ∙ h.0
    of false t f later = later f

-- ---- groups that are alike
pub alike_same : {V : Type 0} (ks : List Key) (groups : List (Key × V)) → AreAlikeBut ks groups groups
alike_same ks groups = record { keys_are = refl; others = λ j e. refl }

-- A key that is there takes another outcome.
pub alike_put : {V : Type 0} (key : Key) (now : V) (groups : List (Key × V)) → has_key groups key ≡ true → AreAlikeBut (key ∷ []) groups (put groups key now)
alike_put key now groups h = record {
  keys_are = keys-put key now groups ∙ ap (λ (b : Bool). if b then keys_of groups else keys_of groups ++ key ∷ []) h;
  others = λ j e. lookup-put j key now groups (none_of j key [] e).0;
}

-- What is put for a key makes groups alike in it.
pub put_both : {V : Type 0} (ks : List Key) (k : Key) (v : V) (old new : List (Key × V)) → AreAlikeBut (k ∷ ks) old new → AreAlikeBut ks (put old k v) (put new k v)
put_both ks k v old new h = record {
  keys_are = keys-put k v new ∙ ap (λ (js : List Key). if is_among k js then js else js ++ k ∷ []) h.keys_are ∙ sym (keys-put k v old);
  others = λ j e. of j e (is_key j k) refl;
}
  where
    of : (j : Key) → is_among j ks ≡ false → (b : Bool) → is_key j k ≡ b → lookup (is_key j) (put new k v) ≡ lookup (is_key j) (put old k v)
    of j e true t =
        ap (λ (i : Key). lookup (is_key i) (put new k v)) (equal_keys j k t)
        ∙ lookup-put-same k v new
        ∙ sym (lookup-put-same k v old)
        ∙ sym (ap (λ (i : Key). lookup (is_key i) (put old k v)) (equal_keys j k t))
    of j e false t =
        lookup-put j k v new t
        ∙ h.others j (ap (λ (b : Bool). b || is_among j ks) t ∙ e)
        ∙ sym (lookup-put j k v old t)

-- Pairs with the same keys and the same values are the same.
same_pairs : {V : Type 0} (xs ys : List (Key × V)) → keys_of xs ≡ keys_of ys → ((i : ℕ) (key : Key) → slice_get (keys_of ys) i ≡ Some key → slice_get (values_of xs) i ≡ slice_get (values_of ys) i) → xs ≡ ys
same_pairs [] [] e h = refl
same_pairs [] (y ∷ ys) e h = absurd cc
same_pairs (x ∷ xs) [] e h = absurd cc
same_pairs {V} (x ∷ xs) (y ∷ ys) e h =
    let key : x.0 ≡ y.0 = cc in
    let rest : keys_of xs ≡ keys_of ys = cc in
    let value : Some x.1 ≡ Some y.1 = h zero y.0 refl in
    let one : x.1 ≡ y.1 = cc in
    ap₂ (λ (p : Key × V) (ps : List (Key × V)). p ∷ ps) (ap₂ (λ (k : Key) (o : V). (k, o)) key one) (same_pairs xs ys rest (λ i k at. h (suc i) k at))

pub alike_all : {V : Type 0} (old new : List (Key × V)) → HaveDistinctKeys new → AreAlikeBut [] old new → new ≡ old
alike_all old new apart h =
    same_pairs new old h.keys_are
    (λ i key at.
    sym (indexed-lookup new key i apart (ap (λ (ks : List Key). slice_get ks i) h.keys_are ∙ at))
    ∙ h.others key refl
    ∙ indexed-lookup old key i (subst (IsDistinct is_key) h.keys_are apart) at)

-- ---- places
absent : {A : Type 0} (found : Option A) → is_some found ≡ false → found ≡ None
absent None e = refl
absent (Some x) e = absurd (true≢false e)

-- Where the keys are the same, a key is where it was.
same_place : (old new : Groups) (key : Key) (place : Option ℕ) → keys_of new ≡ keys_of old → IsAt old key place → IsAt new key place
same_place old new key None e h =
    absent (lookup (is_key key) new)
    (is_some-lookup (is_key key) new ∙ ap (is_among key) e ∙ sym (is_some-lookup (is_key key) old) ∙ ap is_some h)
same_place old new key (Some i) e h = ap (λ (ks : List Key). slice_get ks i) e ∙ h

get_before : (ks : List Key) (k : Key) (i : ℕ) (key : Key) → slice_get ks i ≡ Some key → slice_get (ks ++ k ∷ []) i ≡ Some key
get_before [] k i key h = absurd cc
get_before (x ∷ ks) k zero key h = h
get_before (x ∷ ks) k (suc i) key h = get_before ks k i key h

-- What is put for another key changes no place.
place_kept : (k : Key) (v : Outcome) (groups : Groups) (key : Key) (place : Option ℕ) → is_key key k ≡ false → IsAt groups key place → IsAt (put groups k v) key place
place_kept k v groups key None e h = lookup-put key k v groups e ∙ h
place_kept k v groups key (Some i) e h = ap (λ (ks : List Key). slice_get ks i) (keys-put k v groups) ∙ of (is_among k (keys_of groups))
  where
    of : (b : Bool) → slice_get (if b then keys_of groups else keys_of groups ++ k ∷ []) i ≡ Some key
    of true = h
    of false = get_before (keys_of groups) k i key h

places_kept : (k : Key) (v : Outcome) (groups : Groups) (others : Chains) (taken : List Taken) → AllByRecursion (λ y. is_key k y ≡ false) (keys_of others) → ArePlaces groups others taken → ArePlaces (put groups k v) others taken
places_kept k v groups [] [] apart h = h
places_kept k v groups [] (one ∷ taken) apart h = h
places_kept k v groups (q ∷ others) [] apart h = h
places_kept k v groups (q ∷ others) (one ∷ taken) apart h =
    (place_kept k v groups q.0 one.place (keys_equiv.symm q.0 k ∙ apart.0) h.0, places_kept k v groups others taken apart.1 h.1)

-- Each was found by its index.
pub found_each : (groups : Groups) (chains : Chains) (places : List (Option ℕ)) → length places ≡ length chains → ((i : ℕ) (d : Option ℕ) → i < length places → IsFound groups (slice_get chains i) (slice_index_or places i d))
    → AreFound groups chains places
found_each groups [] [] long each = tt
found_each groups [] (place ∷ places) long each = absurd cc
found_each groups (q ∷ chains) [] long each = absurd cc
found_each groups (q ∷ chains) (place ∷ places) long each =
    (each 0 place (omega arith), found_each groups chains places (omega (arith, long)) (λ i d lt. each (suc i) d (omega (arith, lt))))

-- An index that has a key has an outcome.
pub nothing_at : (key : Key) (groups : Groups) (index : ℕ) → slice_get (keys_of groups) index ≡ Some key → None ≡ slice_get (values_of groups) index → ⊥
nothing_at key [] index at none = cc
nothing_at key (q ∷ groups) zero at none = cc
nothing_at key (q ∷ groups) (suc index) at none = nothing_at key groups index at none

-- What holds of all holds of the one at an index.
pub all_at : {A : Type 0} (P : A → Type 0) (xs : List A) (i : ℕ) (x : A) → All P xs → Some x ≡ slice_get xs i → P x
all_at P [] i x h at = absurd cc
all_at P (y ∷ xs) zero x h at = let same : x ≡ y = cc in subst P (sym same) (All-head P y xs h)
all_at P (y ∷ xs) (suc i) x h at = all_at P xs i x (All-tail P y xs h) at

-- ---- taking out
pub zip_last : {A B : Type 0} (R : A → B → Type 0) (xs : List A) (ys : List B) (x : A) (y : B) → AllZip R xs ys → R x y → AllZip R (xs ++ x ∷ []) (ys ++ y ∷ [])
zip_last R [] [] x y h r = (r, tt)
zip_last R [] (b ∷ ys) x y h r = absurd h
zip_last R (a ∷ xs) [] x y h r = absurd h
zip_last R (a ∷ xs) (b ∷ ys) x y h r = (h.0, zip_last R xs ys x y h.1 r)

-- The groups of the first keys are out; the others are left.
pub record IsTaking (p : ScriptPlan) (chains others : Chains) (first groups : Groups) (taken : List Taken) (places : List (Option ℕ)) : Type 0 where
  pub done : Chains
  pub all : done ++ others ≡ chains
  pub valid : AreValid p groups
  pub alike : AreAlikeBut (keys_of done) first groups
  pub each : AreTaken p first done taken
  pub found : AreFound first others places

-- The next one is where it was found.
pub taking_at : (p : ScriptPlan) (chains others : Chains) (first groups : Groups) (taken : List Taken) (q : Key × Chained) (place : Option ℕ) (places : List (Option ℕ)) → IsTaking p chains (q ∷ others) first groups taken (place ∷ places)
    → IsAt groups q.0 place
taking_at p chains others first groups taken q place places h = same_place first groups q.0 place h.alike.keys_are h.found.0

pub taking_on : (p : ScriptPlan) (chains others : Chains) (first old new : Groups) (taken : List Taken) (q : Key × Chained) (one : Taken) (place : Option ℕ) (places : List (Option ℕ)) → IsTaking p chains (q ∷ others) first old taken (place ∷ places)
    → HaveDistinctKeys chains → AreValid p new → AreAlikeBut (q.0 ∷ []) old new → IsTaken p old q.0 one → IsTaking p chains others first new (taken ++ one ∷ []) places
taking_on p chains others first old new taken q one place places h distinct valid alike is =
    let apart : is_among q.0 (keys_of h.done) ≡ false = new_key h.done q others (subst HaveDistinctKeys (sym h.all) distinct) in
    let same : lookup (is_key q.0) old ≡ lookup (is_key q.0) first = h.alike.others q.0 apart in
    record {
      done = h.done ++ q ∷ [];
      all = append_assoc h.done (q ∷ []) others ∙ h.all;
      valid = valid;
      alike = record {
        keys_are = alike.keys_are ∙ h.alike.keys_are;
        others = λ j e.
            let both = none_of_more j h.done q e in
            alike.others j (ap (λ (b : Bool). b || false) both.1) ∙ h.alike.others j both.0;
      };
      each =
          zip_last (λ (group : Key × Chained) (t : Taken). IsTaken p first group.0 t) h.done taken q one h.each
          (record {
            place = same_place old first q.0 one.place (sym h.alike.keys_are) is.place;
            outcome = is.outcome ∙ ap (standing p) same;
            valid = is.valid;
          });
      found = h.found.1;
    }

-- The groups at the places that are left are still in.
abbrev pub IsTakingAt : ScriptPlan → Chains → Groups → Groups → List Taken → List (Option ℕ) → Type 0
IsTakingAt p chains first groups taken places = (others : Chains) × IsTaking p chains others first groups taken places

pub taking_next : (p : ScriptPlan) (chains : Chains) (first old new : Groups) (taken : List Taken) (one : Taken) (place : Option ℕ) (places : List (Option ℕ)) → IsTakingAt p chains first old taken (place ∷ places) → HaveDistinctKeys chains
    → ((key : Key) → IsAt old key place → AreValid p new) → ((key : Key) → IsAt old key place → AreAlikeBut (key ∷ []) old new) → ((key : Key) → IsAt old key place → IsTaken p old key one)
    → IsTakingAt p chains first new (taken ++ one ∷ []) places
taking_next p chains first old new taken one place places ([], h) distinct valid alike is = absurd h.found
taking_next p chains first old new taken one place places (q ∷ others, h) distinct valid alike is =
    let at = taking_at p chains others first old taken q place places h in
    (others, taking_on p chains others first old new taken q one place places h distinct (valid q.0 at) (alike q.0 at) (is q.0 at))

-- All of them are out.
pub record IsAllOut (p : ScriptPlan) (chains : Chains) (first groups : Groups) (taken : List Taken) : Type 0 where
  pub valid : AreValid p groups
  pub alike : AreAlikeBut (keys_of chains) first groups
  pub each : AreTaken p first chains taken

pub taking_all : (p : ScriptPlan) (chains : Chains) (first groups : Groups) (taken : List Taken) → IsTakingAt p chains first groups taken [] → IsAllOut p chains first groups taken
taking_all p chains first groups taken ([], h) =
    let done : h.done ≡ chains = sym (append-nil h.done) ∙ h.all in
    record {
      valid = h.valid;
      alike = subst (λ (xs : Chains). AreAlikeBut (keys_of xs) first groups) done h.alike;
      each = subst (λ (xs : Chains). AreTaken p first xs taken) done h.each;
    }
taking_all p chains first groups taken (q ∷ others, h) = absurd h.found

-- ---- leading
pub taken_valid : (p : ScriptPlan) (groups : Groups) (chains : Chains) (taken : List Taken) → AreTaken p groups chains taken → All (λ (one : Taken). IsValidOutcome p one.outcome) taken
taken_valid p groups [] [] h = All-nil (λ (one : Taken). IsValidOutcome p one.outcome)
taken_valid p groups [] (one ∷ taken) h = absurd h
taken_valid p groups (q ∷ chains) [] h = absurd h
taken_valid p groups (q ∷ chains) (one ∷ taken) h = All-cons (λ (one : Taken). IsValidOutcome p one.outcome) one taken h.0.valid (taken_valid p groups chains taken h.1)

led_one : (p : ScriptPlan) (groups : Groups) (q : Key × Chained) (old new : Taken) → IsTaken p groups q.0 old → IsLed p q.1 old new → IsLedFrom p groups q new
led_one p groups q old new h led = record {
  place = subst (IsAt groups q.0) (sym led.place) h.place;
  valid = led.valid;
  value = λ records stands.
      subst (λ (o : Outcome). OnOk new.led (new.outcome ≡ after p records o)) h.outcome (led.value records stands);
}

-- Each was led on from where it was taken out.
pub led_each : (p : ScriptPlan) (groups : Groups) (chains : Chains) (olds news : List Taken) → length news ≡ length olds → AreTaken p groups chains olds
    → ((i : ℕ) (d : Taken) → i < length olds → IsLedBy p (slice_get chains i) (slice_index_or olds i d) (slice_index_or news i d)) → AllZip (IsLedFrom p groups) chains news
led_each p groups [] [] [] long h each = tt
led_each p groups [] [] (u ∷ news) long h each = absurd cc
led_each p groups [] (t ∷ olds) news long h each = absurd h
led_each p groups (q ∷ chains) [] news long h each = absurd h
led_each p groups (q ∷ chains) (t ∷ olds) [] long h each = absurd cc
led_each p groups (q ∷ chains) (t ∷ olds) (u ∷ news) long h each = (
  led_one p groups q t u h.0 (each 0 t (omega arith)),
  led_each p groups chains olds news (omega (arith, long)) h.1 (λ i d lt. each (suc i) d (omega (arith, lt))),
)

-- The same where they were led in a slice.
pub led_slice : (p : ScriptPlan) (groups : Groups) (chains : Chains) (olds slice news : List Taken) → slice ≡ olds → AreLedBy p chains 0 slice news → AreTaken p groups chains olds → AllZip (IsLedFrom p groups) chains news
led_slice p groups chains olds slice news same led taken =
    led_each p groups chains slice news led.len (subst (AreTaken p groups chains) (sym same) taken)
    (λ i d lt.
    let at : 0 + i ≡ i = omega arith in
    subst (λ (n : ℕ). IsLedBy p (slice_get chains n) (slice_index_or slice i d) (slice_index_or news i d)) at (led.each i d lt))

-- Those in front were led, and those behind them.
pub led_both : (p : ScriptPlan) (chains : Chains) (start : ℕ) (front back firsts seconds : List Taken) → AreLedBy p chains start front firsts → AreLedBy p chains (start + length front) back seconds
    → AreLedBy p chains start (front ++ back) (firsts ++ seconds)
led_both p chains start [] back [] seconds h g =
    let at : start + 0 ≡ start = omega arith in
    subst (λ (n : ℕ). AreLedBy p chains n back seconds) at g
led_both p chains start [] back (u ∷ firsts) seconds h g = let long = h.len in absurd cc
led_both p chains start (t ∷ front) back [] seconds h g = let long = h.len in absurd cc
led_both p chains start (t ∷ front) back (u ∷ firsts) seconds h g =
    let past : start + suc (length front) ≡ suc start + length front = omega arith in
    let long = h.len in
    let tail : AreLedBy p chains (suc start) front firsts = record {
      len = omega (arith, long);
      each = λ k d lt.
          let at : start + suc k ≡ suc start + k = omega arith in
          subst (λ (n : ℕ). IsLedBy p (slice_get chains n) (slice_index_or front k d) (slice_index_or firsts k d)) at (h.each (suc k) d (omega (arith, lt)));
    } in
    let rest = led_both p chains (suc start) front back firsts seconds tail (subst (λ (n : ℕ). AreLedBy p chains n back seconds) past g) in
    let later = rest.len in
    record { len = omega (arith, later); each = one rest }
  where
    one : AreLedBy p chains (suc start) (front ++ back) (firsts ++ seconds) → (k : ℕ) (d : Taken) → k < suc (length (front ++ back))
        → IsLedBy p (slice_get chains (start + k)) (slice_index_or (t ∷ front ++ back) k d) (slice_index_or (u ∷ firsts ++ seconds) k d)
    one rest zero d lt = h.each zero d (omega arith)
    one rest (suc k) d lt =
        let at : suc start + k ≡ start + suc k = omega arith in
        subst (λ (n : ℕ). IsLedBy p (slice_get chains n) (slice_index_or (front ++ back) k d) (slice_index_or (firsts ++ seconds) k d)) at (rest.each k d (omega (arith, lt)))

-- What holds of all holds of those in front and behind.
pub all_parts : {A : Type 0} (P : A → Type 0) (front back : List A) → All P (front ++ back) → All P front × All P back
all_parts P [] back h = (All-nil P, h)
all_parts P (x ∷ front) back h =
    let rest = all_parts P front back (All-tail P x (front ++ back) h) in
    (All-cons P x front (All-head P x (front ++ back) h) rest.0, rest.1)

-- What is written over all items of a vector is what it has then.
pub written_back : {A : Type 0} (len : ℕ) (news olds : List A) → length news ≡ length olds → len ≡ length olds → take len (news ++ drop (length news) olds) ≡ news
written_back len news olds long whole = take_at news (drop (length news) olds) len (omega (arith, long, whole))

-- ---- putting back
pub places_led : (p : ScriptPlan) (first groups : Groups) (chains : Chains) (taken : List Taken) → keys_of groups ≡ keys_of first → AllZip (IsLedFrom p first) chains taken → ArePlaces groups chains taken
places_led p first groups [] [] e h = tt
places_led p first groups [] (one ∷ taken) e h = absurd h
places_led p first groups (q ∷ chains) [] e h = absurd h
places_led p first groups (q ∷ chains) (one ∷ taken) e h =
    (same_place first groups q.0 one.place e h.0.place, places_led p first groups chains taken e h.1)

-- The first groups are back; the others are left.
pub record IsPutting (chains others : Chains) (first groups : Groups) (taken rest : List Taken) : Type 0 where
  pub distinct : HaveDistinctKeys others
  pub places : ArePlaces groups others rest
  pub led : All WasLed rest → All WasLed taken
  pub puts : put_each others rest groups ≡ put_each chains taken first

pub putting_none : (chains : Chains) (groups : Groups) (taken : List Taken) → HaveDistinctKeys chains → ArePlaces groups chains taken → IsPutting chains chains groups groups taken taken
putting_none chains groups taken distinct places = record { distinct = distinct; places = places; led = λ all. all; puts = refl }

pub putting_on : (chains others : Chains) (first old new : Groups) (taken rest : List Taken) (q : Key × Chained) (one : Taken) → IsPutting chains (q ∷ others) first old taken (one ∷ rest) → WasLed one
    → new ≡ put old q.0 one.outcome → IsPutting chains others first new taken rest
putting_on chains others first old new taken rest q one h led is =
    subst (λ (groups : Groups). IsPutting chains others first groups taken rest) (sym is)
    (record {
      distinct = IsDistinct-tail is_key q.0 (keys_of others) h.distinct;
      places = places_kept q.0 one.outcome old others rest (IsDistinct-head is_key q.0 (keys_of others) h.distinct) h.places.1;
      led = λ all. h.led (All-cons WasLed one rest led all);
      puts = h.puts;
    })

pub putting_stops : (chains others : Chains) (first groups : Groups) (taken : List Taken) (q : Key × Chained) → IsPutting chains (q ∷ others) first groups taken [] → ⊥
putting_stops chains others first groups taken q h = h.places

pub putting_led : (chains : Chains) (first groups : Groups) (taken rest : List Taken) → IsPutting chains [] first groups taken rest → All WasLed taken
putting_led chains first groups taken [] h = h.led (All-nil WasLed)
putting_led chains first groups taken (one ∷ rest) h = absurd h.places

-- ---- what it comes to
module _ (p : ScriptPlan) (records : List Record) (first : Groups) where
  back : (others : Chains) (taken : List Taken) (was now : Groups) → HaveDistinctKeys others → AllZip (IsLedFrom p first) others taken → All WasLed taken
      → All (λ (group : Key × Chained). ChainStandsFor p (records_of p group.0 records) group.1) others → AreAlikeBut (keys_of others) was now
      → ((key : Key) → is_among key (keys_of others) ≡ true → lookup (is_key key) was ≡ lookup (is_key key) first)
      → AreAlikeBut [] (after_keys p records (keys_of others) was) (put_each others taken now)
  back [] taken was now apart led ok stand alike agree = alike
  back (q ∷ others) [] was now apart led ok stand alike agree = absurd led
  back (q ∷ others) (one ∷ taken) was now apart led ok stand alike agree =
      let rs : List Record = records_of p q.0 records in
      let o : Outcome = one.outcome in
      let is : o ≡ after p rs (standing p (lookup (is_key q.0) first)) =
      IfOk-at_ok (λ _. o ≡ after p rs (standing p (lookup (is_key q.0) first))) (All-head WasLed one taken ok)
      (led.0.value rs (All-head (λ (group : Key × Chained). ChainStandsFor p (records_of p group.0 records) group.1) q others stand)) in
      let there : lookup (is_key q.0) was ≡ lookup (is_key q.0) first = agree q.0 (ap (λ (b : Bool). b || is_among q.0 (keys_of others)) (same_key q.0)) in
      let next : stepped_by p records q.0 was ≡ put was q.0 o = ap (put was q.0) (ap (λ (r : Option Outcome). after p rs (standing p r)) there ∙ sym is) in
      subst (λ (w : Groups). AreAlikeBut [] (after_keys p records (keys_of others) w) (put_each others taken (put now q.0 o))) (sym next)
      (back others taken (put was q.0 o) (put now q.0 o) (IsDistinct-tail is_key q.0 (keys_of others) apart) led.1 (All-tail WasLed one taken ok)
      (All-tail (λ (group : Key × Chained). ChainStandsFor p (records_of p group.0 records) group.1) q others stand)
      (put_both (keys_of others) q.0 o was now alike)
      (λ key e.
      lookup-put key q.0 o was (unlike_one q.0 (keys_of others) key (IsDistinct-head is_key q.0 (keys_of others) apart) e)
      ∙ agree key (ap (λ (b : Bool). is_key key q.0 || b) e ∙ or_true (is_key key q.0))))

-- Groups that were put back are valid,
pub back_valid : (p : ScriptPlan) (first : Groups) (others : Chains) (taken : List Taken) (now : Groups) → AllZip (IsLedFrom p first) others taken → All WasLed taken → AreValid p now → AreValid p (put_each others taken now)
back_valid p first [] taken now led ok valid = valid
back_valid p first (q ∷ others) [] now led ok valid = valid
back_valid p first (q ∷ others) (one ∷ taken) now led ok valid =
    let one_valid : IsValidOutcome p one.outcome = IfOk-at_ok (λ _. IsValidOutcome p one.outcome) (All-head WasLed one taken ok) led.0.valid in
    back_valid p first others taken (put now q.0 one.outcome) led.1 (All-tail WasLed one taken ok)
    (all_put (λ (k : Key) (o : Outcome). IsValidOutcome p o) (λ (k : Key) (o : Outcome). IsValidOutcome p o) q.0 one.outcome
    (λ j o e s. s) (λ j e. one_valid) now (same_key q.0) valid)

-- and those after the records.
pub back_all : (p : ScriptPlan) (records : List Record) (first now end : Groups) (chains : Chains) (taken : List Taken) → HaveDistinctKeys chains → HaveDistinctKeys end → AllZip (IsLedFrom p first) chains taken → All WasLed taken
    → AreAlikeBut (keys_of chains) first now → end ≡ put_each chains taken now → GroupsStandFor p records chains → end ≡ after_records p records first
back_all p records first now end chains taken apart end_apart led ok alike is s =
    alike_all (after_keys p records (keys_of chains) first) end end_apart
    (subst (λ (groups : Groups). AreAlikeBut [] (after_keys p records (keys_of chains) first) groups) (sym is)
    (back p records first chains taken first now apart led ok s.each alike (λ key e. refl)))
    ∙ ap (λ (ks : List Key). after_keys p records ks first) s.keys_are
    ∙ sym (groups_apart p records first)
