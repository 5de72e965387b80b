-- Lists whose items change their order, and items that are put into two parts where they lie.
use Rattle.std.proofs.Common.{◌≡◌, ◌≤◌, ◌<◌, ◌+◌, ℕ, List, [], ◌∷◌, ◌++◌, length, get_or, set, take, drop, refl, sym, ap, ◌∙◌, subst, append_assoc, arith}
use Rattle.std.proofs.lemmas.List.{append-nil, drop_all, drop_at, drop_more, get_or_at, length-append, length-drop, set_at, set-get_or, take_at, take_more}
use Rattle.std.proofs.lemmas.List.Elements.{All-cons, All-head, All-nil}
use Rattle.std.proofs.lemmas.List.Sorted.{All-permutation, IsPermutation-append_comm, IsPermutation-append_left, IsPermutation-append_right, IsPermutation-refl, IsPermutation-sym, IsPermutation-to_front, IsPermutation-trans, length_permutation}
use Rattle.std.specs.List.Sorted.{IsPermutation}

-- The first element goes to the end.
abbrev pub turned : {X : Type 0} → List X → List X
turned [] = []
turned (x ∷ xs) = xs ++ x ∷ []

pub turned_same : {X : Type 0} (xs : List X) → IsPermutation xs (turned xs)
turned_same [] = IsPermutation-refl []
turned_same (x ∷ xs) = IsPermutation-sym (xs ++ x ∷ []) (x ∷ xs) (IsPermutation-to_front xs x)

-- The element after two parts changes places with the first one of the second part.
pub swapped : {X : Type 0} (ts fs rs : List X) (x : X) (k i : ℕ) → length ts ≡ k → length ts + length fs ≡ i → (new : List X) → new ≡ set (set (ts ++ (fs ++ x ∷ rs)) k (get_or (ts ++ (fs ++ x ∷ rs)) i x)) i (get_or (ts ++ (fs ++ x ∷ rs)) k x) → new ≡ (ts ++ x ∷ []) ++ (turned fs ++ rs)
swapped {X} ts [] rs x k i a b new is =
    let whole : List X = ts ++ x ∷ rs in
    let same : length ts ≡ i = omega (arith, b) in
    is
    ∙ (λ j. set (set whole k (get_or_at ts x rs x i same j)) i (get_or_at ts x rs x k a j))
    ∙ ap (λ (xs : List X). set xs i x) (set_at ts x rs x k a)
    ∙ set_at ts x rs x i same
    ∙ sym (append_assoc ts (x ∷ []) rs)
swapped {X} ts (f ∷ fs) rs x k i a b new is =
    let whole : List X = ts ++ (f ∷ (fs ++ x ∷ rs)) in
    let parts : whole ≡ (ts ++ f ∷ fs) ++ x ∷ rs = sym (append_assoc ts (f ∷ fs) (x ∷ rs)) in
    let before : length (ts ++ f ∷ fs) ≡ i = omega (arith, length-append ts (f ∷ fs), b) in
    let between : length (ts ++ x ∷ fs) ≡ i = omega (arith, length-append ts (x ∷ fs), b) in
    let last : get_or whole i x ≡ x = ap (λ (xs : List X). get_or xs i x) parts ∙ get_or_at (ts ++ f ∷ fs) x rs x i before in
    let first : get_or whole k x ≡ f = get_or_at ts f (fs ++ x ∷ rs) x k a in
    is
    ∙ (λ j. set (set whole k (last j)) i (first j))
    ∙ ap (λ (xs : List X). set xs i f) (set_at ts f (fs ++ x ∷ rs) x k a ∙ sym (append_assoc ts (x ∷ fs) (x ∷ rs)))
    ∙ set_at (ts ++ x ∷ fs) x rs f i between
    ∙ append_assoc ts (x ∷ fs) (f ∷ rs)
    ∙ sym (append_assoc ts (x ∷ []) ((fs ++ f ∷ []) ++ rs) ∙ ap (λ (xs : List X). ts ++ x ∷ xs) (append_assoc fs (f ∷ []) rs))

-- ---- items that are put into two parts where they lie

-- The items before the index are in two parts, the first of which has so many. The others are as
-- they were.
pub record AreInParts {X : Type 0} (old : List X) (index count : ℕ) (now first second : List X) :
    Type 0 where
  pub is : now ≡ first ++ (second ++ drop index old)
  pub counted : length first ≡ count
  pub both : length first + length second ≡ index
  pub within : index ≤ length old

pub none_in_parts : {X : Type 0} (old : List X) → AreInParts old 0 0 old [] []
none_in_parts old = record { is = refl; counted = refl; both = refl; within = omega arith }

module _ {X : Type 0} (old : List X) (index count : ℕ) (now first second : List X) (h : AreInParts old index count now first second) where
  same_length : length now ≡ length old
  same_length =
      let a = ap length h.is in
      let b = length-append first (second ++ drop index old) in
      let c = length-append second (drop index old) in
      let d = length-drop index old in
      omega (arith, a, b, c, d, h.both, h.within)

  -- The next item becomes a new one.
  module _ (item new : X) (written : List X) (below : index < length now) (here : item ≡ get_or now index item) (set_is : written ≡ set now index new) where
    abbrev rest : List X
    rest = drop (index + 1) old

    inside : index < length old
    inside = omega (arith, same_length, below)

    before : length (first ++ second) ≡ index
    before = omega (arith, length-append first second, h.both)

    parts : now ≡ (first ++ second) ++ get_or old index item ∷ rest
    parts =
        h.is
        ∙ sym (append_assoc first second (drop index old))
        ∙ ap (λ (xs : List X). (first ++ second) ++ xs) (drop_more old index item inside)

    pub item_is : item ≡ get_or old index item
    item_is = here ∙ ap (λ (xs : List X). get_or xs index item) parts ∙ get_or_at (first ++ second) (get_or old index item) rest item index before

    pub one_taken : take (index + 1) old ≡ take index old ++ item ∷ []
    one_taken = take_more old index item inside ∙ ap (λ (x : X). take index old ++ x ∷ []) (sym item_is)

    placed : written ≡ first ++ (second ++ new ∷ rest)
    placed =
        set_is
        ∙ ap (λ (xs : List X). set xs index new) parts
        ∙ set_at (first ++ second) (get_or old index item) rest new index before
        ∙ append_assoc first second (new ∷ rest)

    pub to_second : AreInParts old (index + 1) count written first (second ++ new ∷ [])
    to_second = record {
      is = placed ∙ ap (λ (xs : List X). first ++ xs) (sym (append_assoc second (new ∷ []) rest));
      counted = h.counted;
      both = omega (arith, h.both, length-append second (new ∷ []));
      within = omega (arith, inside);
    }

    -- It changes places with the first item of the second part.
    module _ (final : List X) (exchanged : final ≡ set (set written count (get_or written index new)) index (get_or written count new)) where
      abbrev all : List X
      all = first ++ (second ++ new ∷ rest)

      there : final ≡ set (set all count (get_or all index new)) index (get_or all count new)
      there = exchanged ∙ ap (λ (xs : List X). set (set xs count (get_or xs index new)) index (get_or xs count new)) placed

      pub to_first : AreInParts old (index + 1) (count + 1) final (first ++ new ∷ []) (turned second)
      to_first = record {
        is = swapped first second rest new count index h.counted h.both final there;
        counted = omega (arith, h.counted, length-append first (new ∷ []));
        both = omega (arith, h.both, length-append first (new ∷ []), length_permutation second (turned second) (turned_same second));
        within = omega (arith, inside);
      }

  -- All of them are in the parts.
  module _ (over : length now ≤ index) where
    pub whole_old : length old ≤ index
    whole_old = omega (arith, same_length, over)

    whole : now ≡ first ++ second
    whole = h.is ∙ ap (λ (xs : List X). first ++ xs) (ap (λ (xs : List X). second ++ xs) (drop_all index old whole_old) ∙ append-nil second)

    pub first_is : first ≡ take count now
    first_is = sym (ap (take count) whole ∙ take_at first second count h.counted)

    pub second_is : second ≡ drop count now
    second_is = sym (ap (drop count) whole ∙ drop_at first second count h.counted)

    pub count_within : count ≤ length now
    count_within = omega (arith, ap length whole, length-append first second, h.counted)

pub set_same : {X : Type 0} (xs : List X) (i : ℕ) (x : X) → x ≡ get_or xs i x → xs ≡ set xs i x
set_same xs i x here = sym (ap (set xs i) here ∙ set-get_or xs i x)

-- At most one element has one order.
pub one_order : {X : Type 0} (xs ys : List X) → IsPermutation xs ys → length xs ≤ 1 → ys ≡ xs
one_order [] [] h few = refl
one_order [] (y ∷ ys) h few = absurd (omega (arith, length_permutation [] (y ∷ ys) h))
one_order (x ∷ []) [] h few = absurd (omega (arith, length_permutation (x ∷ []) [] h))
one_order {X} (x ∷ []) (y ∷ []) h few =
    let P : X → Type 0 = λ z. z ≡ x in
    ap (λ (z : X). z ∷ []) (All-head P y [] (All-permutation P (x ∷ []) (y ∷ []) h (All-cons P x [] refl (All-nil P))))
one_order (x ∷ []) (y ∷ (z ∷ ys)) h few = absurd (omega (arith, length_permutation (x ∷ []) (y ∷ (z ∷ ys)) h))
one_order (x ∷ (z ∷ xs)) ys h few = absurd (omega (arith, few))

-- ---- what one step more adds

module _ {X : Type 0} (before done made a b c after later : List X) (whole : IsPermutation (before ++ done) (a ++ (b ++ after))) (split : later ++ c ≡ after ++ made) where
  ahead : IsPermutation (before ++ (done ++ made)) (a ++ (b ++ (later ++ c)))
  ahead =
      subst (IsPermutation (before ++ (done ++ made)))
      (append_assoc a (b ++ after) made ∙ ap (λ (xs : List X). a ++ xs) (append_assoc b after made ∙ ap (λ (xs : List X). b ++ xs) (sym split)))
      (subst (λ (xs : List X). IsPermutation xs ((a ++ (b ++ after)) ++ made)) (append_assoc before done made) (IsPermutation-append_left made (before ++ done) (a ++ (b ++ after)) whole))

  -- To the second part.
  pub add_second : IsPermutation (before ++ (done ++ made)) (a ++ ((b ++ c) ++ later))
  add_second =
      IsPermutation-trans (before ++ (done ++ made)) (a ++ (b ++ (later ++ c))) (a ++ ((b ++ c) ++ later)) ahead
      (IsPermutation-append_right a (b ++ (later ++ c)) ((b ++ c) ++ later)
      (subst (IsPermutation (b ++ (later ++ c))) (sym (append_assoc b c later)) (IsPermutation-append_right b (later ++ c) (c ++ later) (IsPermutation-append_comm later c))))

  -- To the first part, while the second one changes its order.
  pub add_first : (d : List X) → IsPermutation b d → IsPermutation (before ++ (done ++ made)) ((a ++ c) ++ (d ++ later))
  add_first d h =
      IsPermutation-trans (before ++ (done ++ made)) (a ++ (b ++ (later ++ c))) ((a ++ c) ++ (d ++ later)) ahead
      (subst (IsPermutation (a ++ (b ++ (later ++ c)))) (sym (append_assoc a c (d ++ later)))
      (IsPermutation-append_right a (b ++ (later ++ c)) (c ++ (d ++ later))
      (IsPermutation-trans (b ++ (later ++ c)) (d ++ (later ++ c)) (c ++ (d ++ later)) (IsPermutation-append_left (later ++ c) b d h)
      (subst (λ (xs : List X). IsPermutation xs (c ++ (d ++ later))) (append_assoc d later c) (IsPermutation-append_comm (d ++ later) c)))))
