-- Where two constraints differ, and when they unite.
use Rattle.std.proofs.Common.{◌≡◌, ◌≢◌, ◌<◌, ◌≤◌, ◌+◌, ℕ, zero, suc, Bool, List, [], ◌∷◌, Option, Some, None, ◌⊎◌, inl, inr, length, refl, sym, ap, ◌∙◌, subst, arith}
use Rattle.std.proofs.lemmas.Bool.{cases_eq}
use Rattle.std.proofs.lemmas.Bool.Decides.{Decides-like}
use Rattle.std.proofs.lemmas.Option.{slice_get_within, slice_get_past}
use Rattle.std.specs.Bool.{Decides}
use Rattle.std.specs.Option.{is_some}
use Rattle.std.specs.Prelude.{slice_get, MatchOption}
use Rattle.sym_int.specs.Points.{IsUnion}
use Rattle.sym_int.specs.declared.span.Span.{Span}
use Rattle.sym_path.specs.declared.part.Part.{Part}
use Rattle.sym_path.specs.declared.part.Part.TheVariants as part
use Rattle.sym_path.specs.Joining.{PartsUnite, UniteInOne, ConstraintsUnite}
use Rattle.sym_path.specs.Joins.{IsDifference}

-- Lists that agree at each index are equal.
pub same_list : {A : Type 0} (xs ys : List A) → ((i : ℕ) → slice_get xs i ≡ slice_get ys i) → xs ≡ ys
same_list [] [] h = refl
same_list [] (y ∷ ys) h = let e = h 0 in cc
same_list (x ∷ xs) [] h = let e = h 0 in cc
same_list {A} (x ∷ xs) (y ∷ ys) h =
    let first : x ≡ y = first_same (h 0) in
    let rest = same_list xs ys (λ i. h (suc i)) in
    λ i. first i ∷ rest i
  where
    first_same : {a b : A} → Some a ≡ Some b → a ≡ b
    first_same q = cc

past_end : {A : Type 0} (xs ys : List A) → length xs < length ys → (i : ℕ) → length xs ≤ i → i < length ys → slice_get xs i ≡ slice_get ys i → ⊥
past_end xs [] h i p q e = omega arith
past_end [] (y ∷ ys) h zero p q e = cc
past_end [] (y ∷ ys) h (suc i) p q e = within_none ys i (omega arith) (sym e)
  where
    within_none : {B : Type 0} (zs : List B) (j : ℕ) → j < length zs → slice_get zs j ≡ None → ⊥
    within_none [] j l n = omega arith
    within_none (z ∷ zs) zero l n = cc
    within_none (z ∷ zs) (suc j) l n = within_none zs j (omega arith) n
past_end (x ∷ xs) (y ∷ ys) h zero p q e = omega arith
past_end (x ∷ xs) (y ∷ ys) h (suc i) p q e = past_end xs ys (omega arith) i (omega arith) (omega arith) e

module _ (v w : List Part) where
  in_one_lengths : UniteInOne v w → length v ≡ length w
  in_one_lengths u =
      let a : u.cell < length v = slice_get_within v u.cell u.first u.in_first in
      let b : u.cell < length w = slice_get_within w u.cell u.second u.in_second in
      elim (cases_eq (length v) (length w)) [
        | inl e ↦ e
        | inr e ↦ absurd (by_order (λ p. past_end v w p (length v) (omega arith) p (u.others (length v) (λ q. omega arith))) (λ p. past_end w v p (length w) (omega arith) p (sym (u.others (length w) (λ q. omega arith)))) e)
      ]
    where
      by_order : (length v < length w → ⊥) → (length w < length v → ⊥) → length v ≢ length w → ⊥
      by_order f g e = e (omega (arith, f, g))

  pub same_lengths : ConstraintsUnite v w → length v ≡ length w
  same_lengths (inl e) = ap length e
  same_lengths (inr u) = in_one_lengths u

  module _ (lengths : length v ≡ length w) where
    past_both : (i : ℕ) → length v ≤ i → slice_get v i ≡ slice_get w i
    past_both i h = slice_get_past v i h ∙ sym (slice_get_past w i (omega arith))

    by_index : (i n : ℕ) (A : Type 0) → (i < n → A) → (n ≤ i → A) → A
    by_index i n A f g = elim (lt_or i n) [ inl h ↦ f h | inr h ↦ g h ]
      where
        lt_or : (i n : ℕ) → (i < n) ⊎ (n ≤ i)
        lt_or i zero = inr (omega arith)
        lt_or zero (suc n) = inl (omega arith)
        lt_or (suc i) (suc n) = elim (lt_or i n) [ inl h ↦ inl (omega arith) | inr h ↦ inr (omega arith) ]

    -- Constraints with no difference are equal.
    pub no_difference : (n : ℕ) → n ≡ length v → IsDifference v w 0 n → v ≡ w
    no_difference n e d = same_list v w (λ i. by_index i n (slice_get v i ≡ slice_get w i) (λ h. d.same i (omega arith) h) (λ h. past_both i (omega arith)))

    -- Those with two don't unite.
    pub two_differences : (m n : ℕ) → m < length v → n < length v → IsDifference v w 0 m → IsDifference v w (m + 1) n → ConstraintsUnite v w → ⊥
    two_differences m n a b d e (inl same) = d.differs a (ap (λ (u : List Part). slice_get u m) same)
    two_differences m n a b d e (inr u) = elim (cases_eq m u.cell) [
      | inl q ↦ let later : m + 1 ≤ n = e.from in e.differs b (u.others n (λ r. omega arith))
      | inr q ↦ d.differs a (u.others m q)
    ]

    -- Those with one unite where the parts do.
    module _ (m n : ℕ) (x y : Part) (a : m < length v) (last : n ≡ length v) (d : IsDifference v w 0 m) (e : IsDifference v w (m + 1) n) (in_v : slice_get v m ≡ Some x) (in_w : slice_get w m ≡ Some y) where
      pub others : (c : ℕ) → c ≢ m → slice_get v c ≡ slice_get w c
      others c ne = by_index c m (slice_get v c ≡ slice_get w c) (λ h. d.same c (omega arith) h) (λ h. by_index c n (slice_get v c ≡ slice_get w c) (λ k. e.same c (omega arith) k) (λ k. past_both c (omega arith)))

      pub one_difference : (r : Bool) → Decides r (PartsUnite x y) → Decides r (ConstraintsUnite v w)
      one_difference r h = Decides-like r to from h
        where
          to : PartsUnite x y → ConstraintsUnite v w
          to u = inr (record { cell = m; first = x; second = y; in_first = in_v; in_second = in_w; unite = u; others = others })

          some_is : {f g : Part} → Some f ≡ Some g → f ≡ g
          some_is q = cc

          from : ConstraintsUnite v w → PartsUnite x y
          from (inl same) = absurd (d.differs a (ap (λ (u : List Part). slice_get u m) same))
          from (inr u) = elim (cases_eq m u.cell) [
            | inl q ↦
                let first : u.first ≡ x = some_is (sym u.in_first ∙ ap (λ k. slice_get v k) (sym q) ∙ in_v) in
                let second : u.second ≡ y = some_is (sym u.in_second ∙ ap (λ k. slice_get w k) (sym q) ∙ in_w) in
                subst (λ (p : Part). PartsUnite p y) first (subst (λ (p : Part). PartsUnite u.first p) second u.unite)
            | inr q ↦ absurd (d.differs a (u.others m q))
          ]

-- The one cell in which constraints that unite differ.
pub the_cell : (v w : List Part) (m : ℕ) (x y : Part) → m < length v → IsDifference v w 0 m → slice_get v m ≡ Some x → slice_get w m ≡ Some y → ConstraintsUnite v w → PartsUnite x y × ((c : ℕ) → c ≢ m → slice_get v c ≡ slice_get w c)
the_cell v w m x y a d in_v in_w (inl same) = absurd (d.differs a (ap (λ (u : List Part). slice_get u m) same))
the_cell v w m x y a d in_v in_w (inr u) = elim (cases_eq m u.cell) [
  | inl q ↦
      let first : u.first ≡ x = some_is (sym u.in_first ∙ ap (λ k. slice_get v k) (sym q) ∙ in_v) in
      let second : u.second ≡ y = some_is (sym u.in_second ∙ ap (λ k. slice_get w k) (sym q) ∙ in_w) in
      (subst (λ (p : Part). PartsUnite p y) first (subst (λ (p : Part). PartsUnite u.first p) second u.unite), λ c e. u.others c (λ r. e (r ∙ sym q)))
  | inr q ↦ absurd (d.differs a (u.others m q))
]
  where
    some_is : {f g : Part} → Some f ≡ Some g → f ≡ g
    some_is q = cc

-- Two spans unite where their union is found.
pub spans_unite : (p q : Part) (a b : Span) (r : Option Span) → p ≡ part.Span a → q ≡ part.Span b → MatchOption r ((u : Span) → IsUnion u a b → ⊥) (λ u. IsUnion u a b) → (t : Bool) → t ≡ is_some r → Decides t (PartsUnite p q)
spans_unite p q a b r e f h t is =
    subst (λ (x : Part). Decides t (PartsUnite x q)) (sym e)
    (subst (λ (y : Part). Decides t (PartsUnite (part.Span a) y)) (sym f)
    (subst (λ (s : Bool). Decides s ((u : Span) × IsUnion u a b)) (sym is) (found r h)))
  where
    found : (r : Option Span) → MatchOption r ((u : Span) → IsUnion u a b → ⊥) (λ u. IsUnion u a b) → Decides (is_some r) ((u : Span) × IsUnion u a b)
    found None h = (λ k. cc, λ k. absurd (h k.0 k.1))
    found (Some u) h = (λ k. (u, h), λ k. refl)
