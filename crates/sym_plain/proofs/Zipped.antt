-- Keys and as many values, side by side as pairs.
use Rattle.std.proofs.Common.{◌≡◌, ◌∙◌, ℕ, zero, suc, ◌+◌, ap, sym, refl, subst, Bool, true, false, not, cond, List, [], ◌∷◌, ◌++◌, length, Option, Some, None, is_some, arith}
use Rattle.std.specs.Prelude.{nat_lt, slice_get, slice_set, OnOk, Result, Ok, Err}
use Rattle.std.specs.List.{IsDistinct, ItemBy, list_any, position, position_or_len, refill, zip}
use Rattle.std.specs.Map.{keys_of, lookup, set_value, values_of}
use Rattle.std.specs.Option.{option_map, unwrap_or}
use Rattle.std.proofs.lemmas.List.Sums.{prefix_len-le-length}
use Rattle.std.proofs.lemmas.Map.Made.{is_some-lookup, keys_of-zip}
use Rattle.std.proofs.lemmas.Option.{slice_get_past, slice_get_read}
use Rattle.sym_base.specs.declared.values.value.Key.{Key}
use Rattle.sym_base.specs.declared.values.record.Record.{Record}
use Rattle.sym_base.specs.declared.values.state.Outcome.{Outcome}
use Rattle.sym_check.specs.Meaning.Groups.{is_key}
use Rattle.sym_check.specs.Meaning.Updates.{initial, step}
use Rattle.sym_check.specs.Plan.ScriptPlans.{ScriptPlan}
use Rattle.sym_base.specs.declared.values.state.Outcome.TheVariants.{Going}
use Rattle.sym_plain.specs.Pairs.{HaveDistinctKeys, put, put_by_index, put_values, standing, stepped}
use Rattle.sym_plain.proofs.Pairs.{put-new, set-put}

-- What an index lends is what stands there.
pub item-get : {R X : Type 0} (now : R → X) (xs : List X) (i : ℕ) (r : Option R) → ItemBy now xs i i r → option_map now r ≡ slice_get xs i
item-get now xs i None h = sym (slice_get_past xs i h.3)
item-get now xs i (Some x) h = sym (slice_get_read xs (length xs) i (now x) refl h.3.0 h.1)

-- The index of the first that passes.
pub found-at : {K : Type 0} (t : K → Bool) (ks : List K) (i : ℕ) → position t ks ≡ Some i → position_or_len t ks ≡ i
found-at t ks i h = of (nat_lt (position_or_len t ks) (length ks)) h
  where
    of : (b : Bool) → cond b (Some (position_or_len t ks)) None ≡ Some i → position_or_len t ks ≡ i
    of true e = cc
    of false e = absurd cc

pub position-or : {K : Type 0} (t : K → Bool) (ks : List K) → unwrap_or (position t ks) (length ks) ≡ position_or_len t ks
position-or t ks = of (nat_lt (position_or_len t ks) (length ks)) refl
  where
    of : (b : Bool) → nat_lt (position_or_len t ks) (length ks) ≡ b → unwrap_or (cond b (Some (position_or_len t ks)) None) (length ks) ≡ position_or_len t ks
    of true e = refl
    of false e = let most = prefix_len-le-length (λ k. not (t k)) ks in grind arith

module _ {K V : Type 0} where
  pub length-zip : (ks : List K) (vs : List V) → length vs ≡ length ks → length (zip ks vs) ≡ length ks
  length-zip [] vs e = refl
  length-zip (k ∷ ks) [] e = absurd (omega arith)
  length-zip (k ∷ ks) (v ∷ vs) e = ap suc (length-zip ks vs (omega arith))

  pub values_of-zip : (ks : List K) (vs : List V) → length vs ≡ length ks → values_of (zip ks vs) ≡ vs
  values_of-zip [] [] e = refl
  values_of-zip [] (v ∷ vs) e = absurd (omega arith)
  values_of-zip (k ∷ ks) [] e = refl
  values_of-zip (k ∷ ks) (v ∷ vs) e = ap (λ l. v ∷ l) (values_of-zip ks vs (omega arith))

  pub zip-last : (ks : List K) (vs : List V) (k : K) (v : V) → length vs ≡ length ks → zip (ks ++ k ∷ []) (vs ++ v ∷ []) ≡ zip ks vs ++ (k, v) ∷ []
  zip-last [] [] k v e = refl
  zip-last [] (w ∷ vs) k v e = absurd (omega arith)
  zip-last (l ∷ ks) [] k v e = absurd (omega arith)
  zip-last (l ∷ ks) (w ∷ vs) k v e = ap (λ ps. (l, w) ∷ ps) (zip-last ks vs k v (omega arith))

  -- ---- the two lists of pairs
  pub keys-are : (ks : List K) (vs : List V) (pairs : List (K × V)) → zip ks vs ≡ pairs → length vs ≡ length ks → ks ≡ keys_of pairs
  keys-are ks vs pairs is e = sym (keys_of-zip ks vs e) ∙ ap keys_of is

  pub values-are : (ks : List K) (vs : List V) (pairs : List (K × V)) → zip ks vs ≡ pairs → length vs ≡ length ks → vs ≡ values_of pairs
  values-are ks vs pairs is e = sym (values_of-zip ks vs e) ∙ ap values_of is

  -- A pair more, of a key and a value that went last.
  pub pushed : {A E : Type 0} (r : Result A E) (ks more : List K) (vs others : List V) (k : K) (v : V) (pairs : List (K × V)) → length vs ≡ length ks → zip ks vs ++ (k, v) ∷ [] ≡ pairs
      → OnOk r (more ≡ ks ++ k ∷ []) → OnOk r (others ≡ vs ++ v ∷ []) → OnOk r (zip more others ≡ pairs)
  pushed (Ok x) ks more vs others k v pairs e is p q = (λ i. zip (p i) (q i)) ∙ zip-last ks vs k v e ∙ is
  pushed (Err x) ks more vs others k v pairs e is p q = p

  -- ---- by an index
  pub zip-get : (ks : List K) (vs : List V) (i : ℕ) (k : K) (v : V) → slice_get ks i ≡ Some k → slice_get vs i ≡ Some v → slice_get (zip ks vs) i ≡ Some (k, v)
  zip-get [] vs i k v p q = absurd cc
  zip-get (l ∷ ks) [] i k v p q = absurd cc
  zip-get (l ∷ ks) (w ∷ vs) zero k v p q = cc
  zip-get (l ∷ ks) (w ∷ vs) (suc i) k v p q = zip-get ks vs i k v p q

  pub zip-no_key : (ks : List K) (vs : List V) (i : ℕ) → slice_get ks i ≡ None → slice_get (zip ks vs) i ≡ None
  zip-no_key [] vs i p = refl
  zip-no_key (l ∷ ks) [] i p = refl
  zip-no_key (l ∷ ks) (w ∷ vs) zero p = absurd cc
  zip-no_key (l ∷ ks) (w ∷ vs) (suc i) p = zip-no_key ks vs i p

  pub zip-no_value : (ks : List K) (vs : List V) (i : ℕ) → slice_get vs i ≡ None → slice_get (zip ks vs) i ≡ None
  zip-no_value [] vs i p = refl
  zip-no_value (l ∷ ks) [] i p = refl
  zip-no_value (l ∷ ks) (w ∷ vs) zero p = absurd cc
  zip-no_value (l ∷ ks) (w ∷ vs) (suc i) p = zip-no_value ks vs i p

module _ {V : Type 0} where
  pub zip-set : (ks : List Key) (vs : List V) (i : ℕ) (v : V) → zip ks (slice_set vs i v) ≡ put_by_index (zip ks vs) i v
  zip-set [] vs i v = refl
  zip-set (k ∷ ks) [] i v = refl
  zip-set (k ∷ ks) (w ∷ vs) zero v = refl
  zip-set (k ∷ ks) (w ∷ vs) (suc i) v = ap (λ ps. (k, w) ∷ ps) (zip-set ks vs i v)

  -- As many values in place of these.
  pub zip-refill : (ks : List Key) (vs ws : List V) (n : ℕ) → length vs ≡ length ks → n ≡ length vs → zip ks (refill n vs ws) ≡ put_values (zip ks vs) ws
  zip-refill ks vs ws n e m =
      let keys : keys_of (zip ks vs) ≡ ks = keys_of-zip ks vs e in
      let values : values_of (zip ks vs) ≡ vs = values_of-zip ks vs e in
      let long : length (zip ks vs) ≡ n = length-zip ks vs e ∙ sym e ∙ sym m in
      λ i. zip (sym keys i) (refill (sym long i) (sym values i) ws)

  -- ---- by a key
  -- What a key has stands at its index,
  pub lookup-at : (key : Key) (pairs : List (Key × V)) → lookup (is_key key) pairs ≡ slice_get (values_of pairs) (position_or_len (is_key key) (keys_of pairs))
  lookup-at key [] = refl
  lookup-at key (p ∷ rest) = of (is_key key p.0) (lookup-at key rest)
    where
      n : ℕ
      n = position_or_len (is_key key) (keys_of rest)

      of : (b : Bool) → lookup (is_key key) rest ≡ slice_get (values_of rest) n → cond b (Some p.1) (lookup (is_key key) rest) ≡ slice_get (p.1 ∷ values_of rest) (cond (not b) (1 + n) 0)
      of true later = refl
      of false later =
          let next : suc n ≡ 1 + n = omega arith in
          later ∙ ap (slice_get (p.1 ∷ values_of rest)) next

  -- and what is set for it is set there.
  set-at : (key : Key) (now : V) (pairs : List (Key × V)) → set_value (is_key key) pairs now ≡ put_by_index pairs (position_or_len (is_key key) (keys_of pairs)) now
  set-at key now [] = refl
  set-at key now (p ∷ rest) = of (is_key key p.0) (set-at key now rest)
    where
      n : ℕ
      n = position_or_len (is_key key) (keys_of rest)

      of : (b : Bool) → set_value (is_key key) rest now ≡ put_by_index rest n now → cond b ((p.0, now) ∷ rest) (p ∷ set_value (is_key key) rest now) ≡ put_by_index (p ∷ rest) (cond (not b) (1 + n) 0) now
      of true later = refl
      of false later =
          let next : suc n ≡ 1 + n = omega arith in
          ap (λ ps. p ∷ ps) later ∙ ap (λ m. put_by_index (p ∷ rest) m now) next

  -- A value that is set at the index of a key is put for the key.
  pub put-at : (pairs : List (Key × V)) (key : Key) (old now : V) → HaveDistinctKeys pairs → lookup (is_key key) pairs ≡ Some old → put_by_index pairs (position_or_len (is_key key) (keys_of pairs)) now ≡ put pairs key now
  put-at pairs key old now apart found = sym (set-at key now pairs) ∙ set-put pairs key old now apart found

  pub absent : (ks : List Key) (vs : List V) (key : Key) → length vs ≡ length ks → list_any (is_key key) ks ≡ false → lookup (is_key key) (zip ks vs) ≡ None
  absent ks vs key e h = of (lookup (is_key key) (zip ks vs)) (is_some-lookup (is_key key) (zip ks vs) ∙ ap (list_any (is_key key)) (keys_of-zip ks vs e) ∙ h)
    where
      of : (r : Option V) → is_some r ≡ false → r ≡ None
      of None g = refl
      of (Some v) g = absurd cc

  pub is_absent : (ks : List Key) (vs : List V) (key : Key) → length vs ≡ length ks → lookup (is_key key) (zip ks vs) ≡ None → list_any (is_key key) ks ≡ false
  is_absent ks vs key e h = ap (list_any (is_key key)) (sym (keys_of-zip ks vs e)) ∙ sym (is_some-lookup (is_key key) (zip ks vs)) ∙ ap is_some h

  -- The value at the index at which a key was found is put for the key.
  pub put-found : (ks : List Key) (vs : List V) (key : Key) (i : ℕ) (old now : V) → length vs ≡ length ks → IsDistinct is_key ks → position (is_key key) ks ≡ Some i → slice_get vs i ≡ Some old
      → (lookup (is_key key) (zip ks vs) ≡ Some old) × (zip ks (slice_set vs i now) ≡ put (zip ks vs) key now)
  put-found ks vs key i old now e apart at is =
      let keys : keys_of (zip ks vs) ≡ ks = keys_of-zip ks vs e in
      let n : position_or_len (is_key key) (keys_of (zip ks vs)) ≡ i = ap (position_or_len (is_key key)) keys ∙ found-at (is_key key) ks i at in
      let found : lookup (is_key key) (zip ks vs) ≡ Some old = lookup-at key (zip ks vs) ∙ (λ j. slice_get (values_of-zip ks vs e j) (n j)) ∙ is in (
        found,
        zip-set ks vs i now ∙ ap (λ m. put_by_index (zip ks vs) m now) (sym n) ∙ put-at (zip ks vs) key old now (subst (IsDistinct is_key) (sym keys) apart) found,
      )

-- ---- groups
-- A group that is there makes the next step,
pub gone_on : (p : ScriptPlan) (rec : Record) (ks : List Key) (vs : List Outcome) (key : Key) (i : ℕ) (o : Outcome) → length vs ≡ length ks → IsDistinct is_key ks → position (is_key key) ks ≡ Some i → slice_get vs i ≡ Some o
    → zip ks (slice_set vs i (step p o rec)) ≡ stepped p key rec (zip ks vs)
gone_on p rec ks vs key i o e apart at is =
    let h = put-found ks vs key i o (step p o rec) e apart at is in
    h.1 ∙ ap (λ (r : Option Outcome). put (zip ks vs) key (step p (standing p r) rec)) (sym h.0)

-- and a new one its first.
pub begun : (p : ScriptPlan) (rec : Record) (key : Key) (pairs : List (Key × Outcome)) → lookup (is_key key) pairs ≡ None → pairs ++ (key, step p (Going (initial p)) rec) ∷ [] ≡ stepped p key rec pairs
begun p rec key pairs none =
    sym (put-new pairs key (step p (Going (initial p)) rec) none)
    ∙ ap (λ (r : Option Outcome). put pairs key (step p (standing p r) rec)) (sym none)
