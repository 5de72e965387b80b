-- Pairs with distinct keys, as the map keeps them.
use Rattle.std.proofs.Common.{◌≡◌, ◌∙◌, ℕ, zero, suc, ap, sym, refl, subst, Bool, true, false, cond, ◌||◌, if◌then◌else◌, List, [], ◌∷◌, ◌++◌, map, get_or, Option, Some, None, is_some}
use Rattle.std.specs.Prelude.{IfSome, slice_get}
use Rattle.std.specs.List.{AllByRecursion, IsDistinct, position}
use Rattle.std.specs.Map.{keys_of, lookup, set_value, values_of}
use Rattle.std.proofs.lemmas.List.Quantifiers.{position-Some}
use Rattle.std.proofs.lemmas.Map.{NonePasses}
use Rattle.std.proofs.lemmas.Map.Entries.{none_past_head}
use Rattle.std.proofs.lemmas.Map.Made.{is_some-lookup}
use Rattle.std.proofs.lemmas.Map.Keys.{IsDistinct-head, IsDistinct-tail}
use Rattle.std.proofs.lemmas.Option.{slice_get-get_or}
use Rattle.indexmap.specs.IndexMap.{insert_entry}
use Rattle.sym_base.specs.declared.values.value.Key.{Key}
use Rattle.sym_check.specs.Meaning.Groups.{is_key}
use Rattle.sym_check.proofs.Keys.{equal_keys, keys_equiv, same_key}
use Rattle.sym_plain.specs.Pairs.{HaveDistinctKeys, has_key, put, put_by_index}
use Rattle.sym_plain.proofs.Puts.{at_key}

module _ {V : Type 0} where
  -- Pairs of which none has the key stay.
  others_stay : (key : Key) (now : V) (pairs : List (Key × V)) → NonePasses (is_key key) pairs → map (at_key key now) pairs ≡ pairs
  others_stay key now [] none = refl
  others_stay key now (p ∷ rest) none =
      ap (λ (b : Bool). (if b then (p.0, now) else p) ∷ map (at_key key now) rest) none.0
      ∙ ap (λ ps. p ∷ ps) (others_stay key now rest none.1)

  -- Where the first pair has the key it takes the value, and else it stays.
  put_here : (p : Key × V) (rest : List (Key × V)) (key : Key) (now : V) → HaveDistinctKeys (p ∷ rest) → is_key key p.0 ≡ true → (p.0, now) ∷ rest ≡ put (p ∷ rest) key now
  put_here p rest key now apart here =
      sym (ap (λ (b : Bool). if b || has_key rest key then (if b then (p.0, now) else p) ∷ map (at_key key now) rest else (p ∷ rest) ++ (key, now) ∷ []) here
      ∙ ap (λ ps. (p.0, now) ∷ ps) (others_stay key now rest (none_past_head keys_equiv key p rest apart here)))

  cons_if : (b : Bool) (p : Key × V) (xs ys : List (Key × V)) → p ∷ (if b then xs else ys) ≡ (if b then p ∷ xs else p ∷ ys)
  cons_if true p xs ys = refl
  cons_if false p xs ys = refl

  put_past : (p : Key × V) (rest : List (Key × V)) (key : Key) (now : V) → is_key key p.0 ≡ false → p ∷ put rest key now ≡ put (p ∷ rest) key now
  put_past p rest key now past =
      cons_if (has_key rest key) p (map (at_key key now) rest) (rest ++ (key, now) ∷ [])
      ∙ sym (ap (λ (b : Bool). if b || has_key rest key then (if b then (p.0, now) else p) ∷ map (at_key key now) rest else (p ∷ rest) ++ (key, now) ∷ []) past)

  -- What is inserted into the map is put,
  pub insert-put : (pairs : List (Key × V)) (key : Key) (now : V) → HaveDistinctKeys pairs → insert_entry is_key pairs key now ≡ put pairs key now
  insert-put [] key now apart = refl
  insert-put (p ∷ rest) key now apart =
      of (is_key key p.0) refl (insert-put rest key now (IsDistinct-tail is_key p.0 (keys_of rest) apart))
    where
      of : (b : Bool) → is_key key p.0 ≡ b → insert_entry is_key rest key now ≡ put rest key now → (if b then (p.0, now) ∷ rest else p ∷ insert_entry is_key rest key now) ≡ put (p ∷ rest) key now
      of true here later = put_here p rest key now apart here
      of false past later = ap (λ ps. p ∷ ps) later ∙ put_past p rest key now past

  -- and so is what is set at a key that is there.
  pub set-put : (pairs : List (Key × V)) (key : Key) (old now : V) → HaveDistinctKeys pairs → lookup (is_key key) pairs ≡ Some old → set_value (is_key key) pairs now ≡ put pairs key now
  set-put [] key old now apart found = cc
  set-put (p ∷ rest) key old now apart found =
      of (is_key key p.0) refl (set-put rest key old now (IsDistinct-tail is_key p.0 (keys_of rest) apart)) found
    where
      of : (b : Bool) → is_key key p.0 ≡ b → (lookup (is_key key) rest ≡ Some old → set_value (is_key key) rest now ≡ put rest key now) → cond b (Some p.1) (lookup (is_key key) rest) ≡ Some old → cond b ((p.0, now) ∷ rest) (p ∷ set_value (is_key key) rest now) ≡ put (p ∷ rest) key now
      of true here later f = put_here p rest key now apart here
      of false past later f = ap (λ ps. p ∷ ps) (later f) ∙ put_past p rest key now past

  -- What holds of the keys of all pairs holds of one among them.
  at_one : (P : Key → Type 0) (before : List (Key × V)) (p : Key × V) (rest : List (Key × V)) → AllByRecursion P (keys_of (before ++ p ∷ rest)) → P p.0
  at_one P [] p rest h = h.0
  at_one P (q ∷ before) p rest h = at_one P before p rest h.1

  -- Of distinct pairs the next one goes last.
  pub insert-next : (done : List (Key × V)) (p : Key × V) (rest : List (Key × V)) → HaveDistinctKeys (done ++ p ∷ rest) → insert_entry is_key done p.0 p.1 ≡ done ++ p ∷ []
  insert-next [] p rest apart = refl
  insert-next (q ∷ done) p rest apart =
      let past : is_key p.0 q.0 ≡ false = keys_equiv.symm p.0 q.0 ∙ at_one (λ k. is_key q.0 k ≡ false) done p rest (IsDistinct-head is_key q.0 (keys_of (done ++ p ∷ rest)) apart) in
      ap (λ (b : Bool). if b then (q.0, p.1) ∷ done else q ∷ insert_entry is_key done p.0 p.1) past
      ∙ ap (λ ps. q ∷ ps) (insert-next done p rest (IsDistinct-tail is_key q.0 (keys_of (done ++ p ∷ rest)) apart))

  -- What is put for a key that isn't there goes last,
  pub put-new : (pairs : List (Key × V)) (key : Key) (now : V) → lookup (is_key key) pairs ≡ None → put pairs key now ≡ pairs ++ (key, now) ∷ []
  put-new pairs key now none =
      ap (λ (b : Bool). if b then map (at_key key now) pairs else pairs ++ (key, now) ∷ [])
      (sym (is_some-lookup (is_key key) pairs) ∙ ap is_some none)

-- ---- by an index
-- The key at the first index that has it.
pub indexed-key : (keys : List Key) (key : Key) (found : Option ℕ) → found ≡ position (is_key key) keys → IfSome found (λ i. slice_get keys i ≡ Some key)
indexed-key keys key None is = tt
indexed-key keys key (Some i) is =
    let h = position-Some (is_key key) keys i key (sym is) in
    slice_get-get_or keys i key h.0 ∙ ap Some (sym (equal_keys key (get_or keys i key) h.1))

-- What holds of all keys holds of the one at an index.
pub at-index : (P : Key → Type 0) (keys : List Key) (index : ℕ) (key : Key) → AllByRecursion P keys → slice_get keys index ≡ Some key → P key
at-index P [] index key h at = absurd cc
at-index P (k ∷ keys) zero key h at = let same : k ≡ key = cc in subst P same h.0
at-index P (k ∷ keys) (suc index) key h at = at-index P keys index key h.1 at

module _ {V : Type 0} where
  -- What is set at an index changes no key.
  indexed-keys : (pairs : List (Key × V)) (index : ℕ) (now : V) → keys_of (put_by_index pairs index now) ≡ keys_of pairs
  indexed-keys [] index now = refl
  indexed-keys (p ∷ rest) zero now = refl
  indexed-keys (p ∷ rest) (suc index) now = ap (λ ks. p.0 ∷ ks) (indexed-keys rest index now)

  pub indexed-apart : (pairs : List (Key × V)) (index : ℕ) (now : V) → HaveDistinctKeys pairs → HaveDistinctKeys (put_by_index pairs index now)
  indexed-apart pairs index now apart = subst (IsDistinct is_key) (sym (indexed-keys pairs index now)) apart

  -- A pair before the one with the key has another key.
  unlike-head : (p : Key × V) (rest : List (Key × V)) (key : Key) (index : ℕ) → HaveDistinctKeys (p ∷ rest) → slice_get (keys_of rest) index ≡ Some key → is_key key p.0 ≡ false
  unlike-head p rest key index apart at =
      keys_equiv.symm key p.0 ∙ at-index (λ k. is_key p.0 k ≡ false) (keys_of rest) index key (IsDistinct-head is_key p.0 (keys_of rest) apart) at

  -- What is set at the index of a key is put for it,
  pub indexed-put : (pairs : List (Key × V)) (key : Key) (index : ℕ) (now : V) → HaveDistinctKeys pairs → slice_get (keys_of pairs) index ≡ Some key → put_by_index pairs index now ≡ put pairs key now
  indexed-put [] key index now apart at = absurd cc
  indexed-put (p ∷ rest) key zero now apart at =
      let same : p.0 ≡ key = cc in
      put_here p rest key now apart (ap (is_key key) same ∙ same_key key)
  indexed-put (p ∷ rest) key (suc index) now apart at =
      ap (λ ps. p ∷ ps) (indexed-put rest key index now (IsDistinct-tail is_key p.0 (keys_of rest) apart) at)
      ∙ put_past p rest key now (unlike-head p rest key index apart at)

  -- and what is there is what the key has.
  pub indexed-lookup : (pairs : List (Key × V)) (key : Key) (index : ℕ) → HaveDistinctKeys pairs → slice_get (keys_of pairs) index ≡ Some key → lookup (is_key key) pairs ≡ slice_get (values_of pairs) index
  indexed-lookup [] key index apart at = absurd cc
  indexed-lookup (p ∷ rest) key zero apart at =
      let same : p.0 ≡ key = cc in
      ap (λ (b : Bool). cond b (Some p.1) (lookup (is_key key) rest)) (ap (is_key key) same ∙ same_key key)
  indexed-lookup (p ∷ rest) key (suc index) apart at =
      ap (λ (b : Bool). cond b (Some p.1) (lookup (is_key key) rest)) (unlike-head p rest key index apart at)
      ∙ indexed-lookup rest key index (IsDistinct-tail is_key p.0 (keys_of rest) apart) at
