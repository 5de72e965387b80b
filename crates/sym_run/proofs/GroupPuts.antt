-- Groups in which a key's value is put: their keys, and what holds of all of them.
use Rattle.std.proofs.Common.{◌≡◌, ◌∙◌, ap, sym, refl, subst, Bool, true, false, cond, ◌||◌, if◌then◌else◌, List, [], ◌∷◌, ◌++◌, map, Option, Some, None, is_some, true≢false}
use Rattle.std.proofs.lemmas.List.{map-append}
use Rattle.std.proofs.lemmas.List.Elements.{All-cons, All-nil, All-push, All-head, All-tail}
use Rattle.std.proofs.lemmas.Map.Keys.{IsDistinct-head, IsDistinct-tail}
use Rattle.std.proofs.lemmas.Map.Made.{is_some-lookup}
use Rattle.std.specs.List.{All, AllByRecursion, IsDistinct}
use Rattle.std.specs.Map.{keys_of, lookup}
use Rattle.indexmap.specs.IndexMap.{insert_entry}
use Rattle.sym_base.specs.declared.values.value.Key.{Key}
use Rattle.sym_check.specs.Meaning.Groups.{is_among, is_key}
use Rattle.sym_check.proofs.Keys.{equal_keys, keys_equiv}
use Rattle.sym_run.specs.Chained.{Chained}
use Rattle.sym_plain.specs.Pairs.{HaveDistinctKeys, has_key, put}
use Rattle.sym_plain.proofs.Pairs.{insert-put}
use Rattle.sym_run.specs.Runs.{added}

-- ---- distinct keys
apart_from : (R : Key → Type 0) (before : List Key) (key : Key) (rest : List Key) → AllByRecursion R (before ++ key ∷ rest) → R key
apart_from R [] key rest h = h.0
apart_from R (x ∷ before) key rest h = apart_from R before key rest h.1

-- A key of distinct ones isn't among those before it.
pub others_before : (before : List Key) (key : Key) (rest : List Key) → IsDistinct is_key (before ++ key ∷ rest) → is_among key before ≡ false
others_before [] key rest h = refl
others_before (x ∷ before) key rest h =
    ap (λ (b : Bool). b || is_among key before)
    (keys_equiv.symm key x ∙ apart_from (λ k. is_key x k ≡ false) before key rest (IsDistinct-head is_key x (before ++ key ∷ rest) h))
    ∙ others_before before key rest (IsDistinct-tail is_key x (before ++ key ∷ rest) h)

module _ {V : Type 0} where
  -- This value at the key, in a pair of it.
  abbrev at_key : Key → V → Key × V → Key × V
  at_key key now q = if is_key key q.0 then (q.0, now) else q

  -- ---- the keys
  keys-map : (k : Key) (v : V) (xs : List (Key × V)) → keys_of (map (at_key k v) xs) ≡ keys_of xs
  keys-map k v [] = refl
  keys-map k v (q ∷ xs) = of (is_key k q.0) ∙ ap (λ ks. q.0 ∷ ks) (keys-map k v xs)
    where
      of : (b : Bool) → keys_of ((if b then (q.0, v) else q) ∷ map (at_key k v) xs) ≡ q.0 ∷ keys_of (map (at_key k v) xs)
      of true = refl
      of false = refl

  keys-last : (k : Key) (v : V) (xs : List (Key × V)) → keys_of (xs ++ (k, v) ∷ []) ≡ keys_of xs ++ k ∷ []
  keys-last k v [] = refl
  keys-last k v (q ∷ xs) = ap (λ ks. q.0 ∷ ks) (keys-last k v xs)

  -- A new key goes last.
  pub keys-put : (k : Key) (v : V) (xs : List (Key × V)) → keys_of (put xs k v) ≡ (if is_among k (keys_of xs) then keys_of xs else keys_of xs ++ k ∷ [])
  keys-put k v xs = of (has_key xs k)
    where
      of : (b : Bool) → keys_of (if b then map (at_key k v) xs else xs ++ (k, v) ∷ []) ≡ (if b then keys_of xs else keys_of xs ++ k ∷ [])
      of true = keys-map k v xs
      of false = keys-last k v xs

  -- A key that isn't found is none of the keys.
  pub absent_key : (k : Key) (xs : List (Key × V)) → lookup (is_key k) xs ≡ None → is_among k (keys_of xs) ≡ false
  absent_key k xs h = sym (is_some-lookup (is_key k) xs) ∙ ap is_some h

  -- ---- what holds of all
  module _ (P Q : Key → V → Type 0) (k : Key) (v : V) (others : (j : Key) (u : V) → is_key k j ≡ false → P j u → Q j u) (here : (j : Key) → is_key k j ≡ true → Q j v) where
    all_there : (xs : List (Key × V)) → All (λ (q : Key × V). P q.0 q.1) xs → All (λ (q : Key × V). Q q.0 q.1) (map (at_key k v) xs)
    all_there [] h = All-nil (λ (q : Key × V). Q q.0 q.1)
    all_there (x ∷ xs) h =
        All-cons (λ (q : Key × V). Q q.0 q.1) (at_key k v x) (map (at_key k v) xs)
        (of (is_key k x.0) refl) (all_there xs (All-tail (λ (q : Key × V). P q.0 q.1) x xs h))
      where
        of : (b : Bool) → is_key k x.0 ≡ b → Q (if b then (x.0, v) else x).0 (if b then (x.0, v) else x).1
        of true e = here x.0 e
        of false e = others x.0 x.1 e (All-head (λ (q : Key × V). P q.0 q.1) x xs h)

    all_apart : (xs : List (Key × V)) → is_among k (keys_of xs) ≡ false → All (λ (q : Key × V). P q.0 q.1) xs → All (λ (q : Key × V). Q q.0 q.1) xs
    all_apart [] e h = All-nil (λ (q : Key × V). Q q.0 q.1)
    all_apart (x ∷ xs) e h = of (is_key k x.0) refl e (λ g. all_apart xs g (All-tail (λ (q : Key × V). P q.0 q.1) x xs h))
      where
        of : (b : Bool) → is_key k x.0 ≡ b → (b || is_among k (keys_of xs)) ≡ false → (is_among k (keys_of xs) ≡ false → All (λ (q : Key × V). Q q.0 q.1) xs) → All (λ (q : Key × V). Q q.0 q.1) (x ∷ xs)
        of true f g later = absurd (true≢false g)
        of false f g later = All-cons (λ (q : Key × V). Q q.0 q.1) x xs (others x.0 x.1 f (All-head (λ (q : Key × V). P q.0 q.1) x xs h)) (later g)

    -- What holds of the value that is put, and of the others still.
    pub all_put : (xs : List (Key × V)) → is_key k k ≡ true → All (λ (q : Key × V). P q.0 q.1) xs → All (λ (q : Key × V). Q q.0 q.1) (put xs k v)
    all_put xs same h = of (has_key xs k) refl
      where
        of : (b : Bool) → has_key xs k ≡ b → All (λ (q : Key × V). Q q.0 q.1) (if b then map (at_key k v) xs else xs ++ (k, v) ∷ [])
        of true e = all_there xs h
        of false e = All-push (λ (q : Key × V). Q q.0 q.1) xs (k, v) (all_apart xs e h) (here k same)

  -- What holds of all holds of the value that is found for a key.
  pub all_found : (P : Key → V → Type 0) (k : Key) (v : V) (xs : List (Key × V)) → All (λ (q : Key × V). P q.0 q.1) xs → lookup (is_key k) xs ≡ Some v → P k v
  all_found P k v [] h e = absurd (cc)
  all_found P k v (x ∷ xs) h e = of (is_key k x.0) refl e (all_found P k v xs (All-tail (λ (q : Key × V). P q.0 q.1) x xs h))
    where
      of : (b : Bool) → is_key k x.0 ≡ b → cond b (Some x.1) (lookup (is_key k) xs) ≡ Some v → (lookup (is_key k) xs ≡ Some v → P k v) → P k v
      of true f g later =
          let same : x.1 ≡ v = cc in
          subst (λ (j : Key). P j v) (sym (equal_keys k x.0 f))
          (subst (λ (u : V). P x.0 u) same (All-head (λ (q : Key × V). P q.0 q.1) x xs h))
      of false f g later = later g

  -- ---- one pair among others
  pub all_split : (P : Key × V → Type 0) (done : List (Key × V)) (q : Key × V) (rest : List (Key × V)) → All P (done ++ q ∷ rest) → P q
  all_split P [] q rest h = All-head P q rest h
  all_split P (x ∷ done) q rest h = all_split P done q rest (All-tail P x (done ++ q ∷ rest) h)

  pub new_key : (done : List (Key × V)) (q : Key × V) (rest : List (Key × V)) → HaveDistinctKeys (done ++ q ∷ rest) → is_among q.0 (keys_of done) ≡ false
  new_key done q rest h = others_before (keys_of done) q.0 (keys_of rest) (subst (IsDistinct is_key) (map-append (λ (x : Key × V). x.0) done (q ∷ rest)) h)

-- ---- a group more
module _ (groups : List (Key × Chained)) (key : Key) (chain : Chained) (found : Option Chained) where
  abbrev last : List (Key × Chained)
  last = groups ++ (key, chain) ∷ []

  pub added_none : found ≡ lookup (is_key key) groups → is_some found ≡ true → None ≡ added groups key chain
  added_none e h =
      sym (ap (λ (b : Bool). if b then None else Some last) (sym (is_some-lookup (is_key key) groups) ∙ ap is_some (sym e) ∙ h))

  pub added_some : (new : List (Key × Chained)) → found ≡ lookup (is_key key) groups → is_some found ≡ false → HaveDistinctKeys groups → new ≡ insert_entry is_key groups key chain → Some new ≡ added groups key chain
  added_some new e h distinct is =
      let absent : has_key groups key ≡ false = sym (is_some-lookup (is_key key) groups) ∙ ap is_some (sym e) ∙ h in
      ap Some (is ∙ insert-put groups key chain distinct ∙ ap (λ (b : Bool). if b then map (at_key key chain) groups else last) absent)
      ∙ sym (ap (λ (b : Bool). if b then None else Some last) absent)
