-- What putting a value for a key does to a list of pairs.
use Rattle.std.proofs.Common.{◌≡◌, ◌∙◌, ap, sym, refl, Bool, true, false, cond, ◌||◌, if◌then◌else◌, List, [], ◌∷◌, ◌++◌, map, Option, Some, None, true≢false}
use Rattle.std.specs.Map.{lookup}
use Rattle.std.proofs.lemmas.List.{map-append}
use Rattle.sym_base.specs.declared.values.value.Key.{Key}
use Rattle.sym_check.specs.Meaning.Groups.{is_key}
use Rattle.sym_check.proofs.Keys.{equal_keys, same_key}
use Rattle.sym_plain.specs.Pairs.{has_key, put}

abbrev pub Pairs : Type 0 → Type 0
Pairs V = List (Key × V)

-- Two unlike keys are not both a third.
apart : (k j x : Key) → is_key k j ≡ false → is_key k x ≡ true → is_key j x ≡ true → ⊥
apart k j x e p q =
    let same : is_key k j ≡ true = ap (λ (y : Key). is_key k y) (equal_keys j x q) ∙ p in
    true≢false (sym same ∙ e)

or_true : (b : Bool) → (b || true) ≡ true
or_true true = refl
or_true false = refl

module _ {V : Type 0} where
  -- This value at the key, in a pair of it.
  abbrev pub at_key : Key → V → Key × V → Key × V
  at_key key now p = if is_key key p.0 then (p.0, now) else p

  -- ---- whether a key is there
  has-map : (k j : Key) (o : V) (xs : Pairs V) → has_key (map (at_key j o) xs) k ≡ has_key xs k
  has-map k j o [] = refl
  has-map k j o (p ∷ xs) = of (is_key j p.0) (has-map k j o xs)
    where
      of : (b : Bool) → has_key (map (at_key j o) xs) k ≡ has_key xs k → (is_key k (if b then (p.0, o) else p).0 || has_key (map (at_key j o) xs) k) ≡ (is_key k p.0 || has_key xs k)
      of true later = ap (λ (t : Bool). is_key k p.0 || t) later
      of false later = ap (λ (t : Bool). is_key k p.0 || t) later

  has-last : (k j : Key) (o : V) (xs : Pairs V) → has_key (xs ++ (j, o) ∷ []) k ≡ (has_key xs k || is_key k j)
  has-last k j o [] = of (is_key k j)
    where
      of : (b : Bool) → (b || false) ≡ (false || b)
      of true = refl
      of false = refl
  has-last k j o (p ∷ xs) = of (is_key k p.0) (has-last k j o xs)
    where
      of : (b : Bool) → has_key (xs ++ (j, o) ∷ []) k ≡ (has_key xs k || is_key k j) → (b || has_key (xs ++ (j, o) ∷ []) k) ≡ ((b || has_key xs k) || is_key k j)
      of true later = refl
      of false later = later

  pub has-put : (k j : Key) (o : V) (xs : Pairs V) → has_key xs k ≡ true → has_key (put xs j o) k ≡ true
  has-put k j o xs h = of (has_key xs j)
    where
      of : (b : Bool) → has_key (if b then map (at_key j o) xs else xs ++ (j, o) ∷ []) k ≡ true
      of true = has-map k j o xs ∙ h
      of false = has-last k j o xs ∙ ap (λ (t : Bool). t || is_key k j) h

  pub has-put-same : (k : Key) (o : V) (xs : Pairs V) → has_key (put xs k o) k ≡ true
  has-put-same k o xs = of (has_key xs k) refl
    where
      of : (b : Bool) → has_key xs k ≡ b → has_key (if b then map (at_key k o) xs else xs ++ (k, o) ∷ []) k ≡ true
      of true h = has-map k k o xs ∙ h
      of false h = has-last k k o xs ∙ ap (λ (t : Bool). has_key xs k || t) (same_key k) ∙ or_true (has_key xs k)

  -- ---- what a key has
  lookup-map : (k j : Key) (o : V) (xs : Pairs V) → is_key k j ≡ false → lookup (is_key k) (map (at_key j o) xs) ≡ lookup (is_key k) xs
  lookup-map k j o [] e = refl
  lookup-map k j o (p ∷ xs) e = of (is_key j p.0) (is_key k p.0) refl refl (lookup-map k j o xs e)
    where
      of : (b c : Bool) → is_key j p.0 ≡ b → is_key k p.0 ≡ c → lookup (is_key k) (map (at_key j o) xs) ≡ lookup (is_key k) xs
          → lookup (is_key k) ((if b then (p.0, o) else p) ∷ map (at_key j o) xs) ≡ cond c (Some p.1) (lookup (is_key k) xs)
      of true true s t later = absurd (apart k j p.0 e t s)
      of true false s t later = ap (λ (u : Bool). cond u (Some o) (lookup (is_key k) (map (at_key j o) xs))) t ∙ later
      of false true s t later = ap (λ (u : Bool). cond u (Some p.1) (lookup (is_key k) (map (at_key j o) xs))) t
      of false false s t later = ap (λ (u : Bool). cond u (Some p.1) (lookup (is_key k) (map (at_key j o) xs))) t ∙ later

  lookup-last : (k j : Key) (o : V) (xs : Pairs V) → is_key k j ≡ false → lookup (is_key k) (xs ++ (j, o) ∷ []) ≡ lookup (is_key k) xs
  lookup-last k j o [] e = ap (λ (u : Bool). cond u (Some o) None) e
  lookup-last k j o (p ∷ xs) e = ap (λ (r : Option V). cond (is_key k p.0) (Some p.1) r) (lookup-last k j o xs e)

  pub lookup-put : (k j : Key) (o : V) (xs : Pairs V) → is_key k j ≡ false → lookup (is_key k) (put xs j o) ≡ lookup (is_key k) xs
  lookup-put k j o xs e = of (has_key xs j)
    where
      of : (b : Bool) → lookup (is_key k) (if b then map (at_key j o) xs else xs ++ (j, o) ∷ []) ≡ lookup (is_key k) xs
      of true = lookup-map k j o xs e
      of false = lookup-last k j o xs e

  lookup-map-same : (k : Key) (o : V) (xs : Pairs V) → has_key xs k ≡ true → lookup (is_key k) (map (at_key k o) xs) ≡ Some o
  lookup-map-same k o [] h = absurd (true≢false (sym h))
  lookup-map-same k o (p ∷ xs) h = of (is_key k p.0) refl h (lookup-map-same k o xs)
    where
      of : (b : Bool) → is_key k p.0 ≡ b → (b || has_key xs k) ≡ true → (has_key xs k ≡ true → lookup (is_key k) (map (at_key k o) xs) ≡ Some o)
          → lookup (is_key k) ((if b then (p.0, o) else p) ∷ map (at_key k o) xs) ≡ Some o
      of true t g later = ap (λ (u : Bool). cond u (Some o) (lookup (is_key k) (map (at_key k o) xs))) t
      of false t g later = ap (λ (u : Bool). cond u (Some p.1) (lookup (is_key k) (map (at_key k o) xs))) t ∙ later g

  lookup-last-same : (k : Key) (o : V) (xs : Pairs V) → has_key xs k ≡ false → lookup (is_key k) (xs ++ (k, o) ∷ []) ≡ Some o
  lookup-last-same k o [] h = ap (λ (u : Bool). cond u (Some o) None) (same_key k)
  lookup-last-same k o (p ∷ xs) h = of (is_key k p.0) h (lookup-last-same k o xs)
    where
      of : (b : Bool) → (b || has_key xs k) ≡ false → (has_key xs k ≡ false → lookup (is_key k) (xs ++ (k, o) ∷ []) ≡ Some o)
          → cond b (Some p.1) (lookup (is_key k) (xs ++ (k, o) ∷ [])) ≡ Some o
      of true g later = absurd (true≢false g)
      of false g later = later g

  pub lookup-put-same : (k : Key) (o : V) (xs : Pairs V) → lookup (is_key k) (put xs k o) ≡ Some o
  lookup-put-same k o xs = of (has_key xs k) refl
    where
      of : (b : Bool) → has_key xs k ≡ b → lookup (is_key k) (if b then map (at_key k o) xs else xs ++ (k, o) ∷ []) ≡ Some o
      of true h = lookup-map-same k o xs h
      of false h = lookup-last-same k o xs h

  -- ---- two in turn
  map-none : (k : Key) (o : V) (xs : Pairs V) → has_key xs k ≡ false → map (at_key k o) xs ≡ xs
  map-none k o [] h = refl
  map-none k o (p ∷ xs) h = of (is_key k p.0) h (map-none k o xs)
    where
      of : (b : Bool) → (b || has_key xs k) ≡ false → (has_key xs k ≡ false → map (at_key k o) xs ≡ xs) → (if b then (p.0, o) else p) ∷ map (at_key k o) xs ≡ p ∷ xs
      of true g later = absurd (true≢false g)
      of false g later = ap (λ (ys : Pairs V). p ∷ ys) (later g)

  map-again : (k : Key) (o now : V) (xs : Pairs V) → map (at_key k now) (map (at_key k o) xs) ≡ map (at_key k now) xs
  map-again k o now [] = refl
  map-again k o now (p ∷ xs) = of (is_key k p.0) refl (map-again k o now xs)
    where
      of : (b : Bool) → is_key k p.0 ≡ b → map (at_key k now) (map (at_key k o) xs) ≡ map (at_key k now) xs
          → at_key k now (if b then (p.0, o) else p) ∷ map (at_key k now) (map (at_key k o) xs) ≡ (if b then (p.0, now) else p) ∷ map (at_key k now) xs
      of true t later = ap (λ (u : Bool). (if u then (p.0, now) else (p.0, o)) ∷ map (at_key k now) (map (at_key k o) xs)) t ∙ ap (λ (ys : Pairs V). (p.0, now) ∷ ys) later
      of false t later = ap (λ (u : Bool). (if u then (p.0, now) else p) ∷ map (at_key k now) (map (at_key k o) xs)) t ∙ ap (λ (ys : Pairs V). p ∷ ys) later

  -- What was put for the key before doesn't count.
  pub put-again : (k : Key) (o now : V) (xs : Pairs V) → put (put xs k o) k now ≡ put xs k now
  put-again k o now xs =
      ap (λ (t : Bool). if t then map (at_key k now) (put xs k o) else put xs k o ++ (k, now) ∷ []) (has-put-same k o xs)
      ∙ of (has_key xs k) refl
    where
      of : (b : Bool) → has_key xs k ≡ b → map (at_key k now) (if b then map (at_key k o) xs else xs ++ (k, o) ∷ []) ≡ (if b then map (at_key k now) xs else xs ++ (k, now) ∷ [])
      of true h = map-again k o now xs
      of false h =
          map-append (at_key k now) xs ((k, o) ∷ [])
          ∙ ap (λ (ys : Pairs V). ys ++ at_key k now (k, o) ∷ []) (map-none k now xs h)
          ∙ ap (λ (u : Bool). xs ++ (if u then (k, now) else (k, o)) ∷ []) (same_key k)

  map-swap : (k j : Key) (o now : V) (xs : Pairs V) → is_key k j ≡ false → map (at_key k now) (map (at_key j o) xs) ≡ map (at_key j o) (map (at_key k now) xs)
  map-swap k j o now [] e = refl
  map-swap k j o now (p ∷ xs) e = of (is_key j p.0) (is_key k p.0) refl refl (map-swap k j o now xs e)
    where
      of : (b c : Bool) → is_key j p.0 ≡ b → is_key k p.0 ≡ c → map (at_key k now) (map (at_key j o) xs) ≡ map (at_key j o) (map (at_key k now) xs)
          → at_key k now (if b then (p.0, o) else p) ∷ map (at_key k now) (map (at_key j o) xs) ≡ at_key j o (if c then (p.0, now) else p) ∷ map (at_key j o) (map (at_key k now) xs)
      of true true s t later = absurd (apart k j p.0 e t s)
      of true false s t later =
          ap (λ (u : Bool). (if u then (p.0, now) else (p.0, o)) ∷ map (at_key k now) (map (at_key j o) xs)) t
          ∙ ap (λ (ys : Pairs V). (p.0, o) ∷ ys) later
          ∙ ap (λ (u : Bool). (if u then (p.0, o) else p) ∷ map (at_key j o) (map (at_key k now) xs)) (sym s)
      of false true s t later =
          ap (λ (u : Bool). (if u then (p.0, now) else p) ∷ map (at_key k now) (map (at_key j o) xs)) t
          ∙ ap (λ (ys : Pairs V). (p.0, now) ∷ ys) later
          ∙ ap (λ (u : Bool). (if u then (p.0, o) else (p.0, now)) ∷ map (at_key j o) (map (at_key k now) xs)) (sym s)
      of false false s t later =
          ap (λ (u : Bool). (if u then (p.0, now) else p) ∷ map (at_key k now) (map (at_key j o) xs)) t
          ∙ ap (λ (ys : Pairs V). p ∷ ys) later
          ∙ ap (λ (u : Bool). (if u then (p.0, o) else p) ∷ map (at_key j o) (map (at_key k now) xs)) (sym s)

  -- Of two unlike keys, one of which is there, either may be put first.
  pub put-swap : (k j : Key) (o now : V) (xs : Pairs V) → is_key k j ≡ false → has_key xs k ≡ true → put (put xs j o) k now ≡ put (put xs k now) j o
  put-swap k j o now xs e h =
      ap (λ (t : Bool). if t then map (at_key k now) (put xs j o) else put xs j o ++ (k, now) ∷ []) (has-put k j o xs h)
      ∙ of (has_key xs j) refl
      ∙ ap (λ (t : Bool). put (if t then map (at_key k now) xs else xs ++ (k, now) ∷ []) j o) (sym h)
    where
      of : (b : Bool) → has_key xs j ≡ b → map (at_key k now) (if b then map (at_key j o) xs else xs ++ (j, o) ∷ []) ≡ put (map (at_key k now) xs) j o
      of true g =
          map-swap k j o now xs e
          ∙ ap (λ (t : Bool). if t then map (at_key j o) (map (at_key k now) xs) else map (at_key k now) xs ++ (j, o) ∷ []) (sym (has-map j k now xs ∙ g))
      of false g =
          map-append (at_key k now) xs ((j, o) ∷ [])
          ∙ ap (λ (u : Bool). map (at_key k now) xs ++ (if u then (j, now) else (j, o)) ∷ []) e
          ∙ ap (λ (t : Bool). if t then map (at_key j o) (map (at_key k now) xs) else map (at_key k now) xs ++ (j, o) ∷ []) (sym (has-map j k now xs ∙ g))
