-- The union of two spans, and parts with the same points.
use Rattle.std.proofs.Common.{ℤ, pos, ◌+ℤ◌, ◌<ℤ◌, ◌≤ℤ◌, ◌↔◌, ◌⊎◌, inl, inr, Option, Some, None, arith}
use Rattle.std.proofs.lemmas.Int.{ints, clamps, by_lt_z}
use Rattle.std.specs.Int.{int_min, int_max}
use Rattle.sym_int.specs.Points.{HasPoint, IsUnion, IsPart}
use Rattle.sym_int.specs.declared.span.Span.{Span}

-- Two spans with a number between them have no union.
pub gap : (union left right : Span) → IsUnion union left right → (left.hi +ℤ pos 1) <ℤ right.lo → ⊥
gap union left right h far =
    let last : HasPoint union left.hi = (h left.hi).1 (inl (left.ordered, omega (arith, ints))) in
    let first : HasPoint union right.lo = (h right.lo).1 (inr (omega (arith, ints), right.ordered)) in
    elim ((h (left.hi +ℤ pos 1)).0 (omega (arith, ints), omega (arith, ints))) [ inl p ↦ omega (arith, ints) | inr p ↦ omega (arith, ints) ]

pub turned : (union left right : Span) → IsUnion union left right → IsUnion union right left
turned union left right h = λ x.
    (λ p. elim ((h x).0 p) [ inl q ↦ inr q | inr q ↦ inl q ], λ p. elim p [ inl q ↦ (h x).1 (inr q) | inr q ↦ (h x).1 (inl q) ])

-- A number between the least and the greatest of the ends of two spans that touch is in one of them.
pub in_one : (left right : Span) (x : ℤ) → right.lo ≤ℤ (left.hi +ℤ pos 1) → left.lo ≤ℤ (right.hi +ℤ pos 1) → (left.lo ≤ℤ x) ⊎ (right.lo ≤ℤ x) → (x ≤ℤ left.hi) ⊎ (x ≤ℤ right.hi) → HasPoint left x ⊎ HasPoint right x
in_one left right x near close above below =
    by_lt_z x left.lo
    (λ p. inr (elim above [ inl q ↦ absurd (omega (arith, ints)) | inr q ↦ q ], omega (arith, ints)))
    (λ p. by_lt_z left.hi x (λ q. inr (omega (arith, ints), elim below [ inl r ↦ absurd (omega (arith, ints)) | inr r ↦ r ])) (λ q. inl (p, q)))

pub same_part : (P Q : ℤ → Type 0) (part : Option Span) → ((x : ℤ) → P x ↔ Q x) → IsPart P part → IsPart Q part
same_part P Q (Some span) same h = λ x. (λ p. (same x).0 ((h x).0 p), λ q. (h x).1 ((same x).1 q))
same_part P Q None same h = λ x q. h x ((same x).1 q)

pub least : (m n x : ℤ) → int_min m n ≤ℤ x → (m ≤ℤ x) ⊎ (n ≤ℤ x)
least m n x h = by_lt_z x m (λ p. inr (omega (arith, ints, clamps))) (λ p. inl p)

pub greatest : (m n x : ℤ) → x ≤ℤ int_max m n → (x ≤ℤ m) ⊎ (x ≤ℤ n)
greatest m n x h = by_lt_z m x (λ p. inr (omega (arith, ints, clamps))) (λ p. inl p)

-- What is not at most one number is above it.
pub behind : (x last value limit : ℤ) → ((x ≤ℤ last) ↔ (value ≤ℤ limit)) → (last <ℤ x) ↔ (limit <ℤ value)
behind x last value limit h = (
  λ p. by_lt_z limit value (λ q. q) (λ q. let r : x ≤ℤ last = h.1 q in absurd (omega (arith, ints))),
  λ p. by_lt_z last x (λ q. q) (λ q. let r : value ≤ℤ limit = h.0 q in absurd (omega (arith, ints))),
)

pub not_behind : (x last value limit : ℤ) → ((x ≤ℤ last) ↔ (limit <ℤ value)) → (last <ℤ x) ↔ (value ≤ℤ limit)
not_behind x last value limit h = (
  λ p. by_lt_z limit value (λ q. let r : x ≤ℤ last = h.1 q in absurd (omega (arith, ints))) (λ q. q),
  λ p. by_lt_z last x (λ q. q) (λ q. let r : limit <ℤ value = h.0 q in absurd (omega (arith, ints))),
)
