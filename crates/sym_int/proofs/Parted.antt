-- The pieces around a part of a span, and the truth at their points.
use Rattle.std.proofs.Common.{◌≡◌, ◌+◌, ◌≤◌, lit≤, subst, ℤ, pos, ◌-ℤ◌, ◌<ℤ◌, ◌≤ℤ◌, ◌↔◌, ◌⊎◌, inl, inr, Bool, true, false, not, Option, Some, None, IfSome, refl, sym, ap, ◌∙◌, arith}
use Rattle.std.proofs.lemmas.Bool.{both_ways}
use Rattle.std.proofs.lemmas.Int.{ints, by_lt_z}
use Rattle.sym_base.specs.Comparing.{compares}
use Rattle.sym_base.specs.declared.tree.compare.Compare.{Compare}
use Rattle.sym_base.specs.declared.tree.compare.Compare.TheVariants.{Eq, Ne, Lt, Le, Gt, Ge}
use Rattle.sym_int.proofs.Truths.{same_or_not}
use Rattle.sym_int.specs.Lines.{wide_on, wide_cell}
use Rattle.sym_int.specs.Cuts.{HasTruth, InPart, InOrder, IsAfter, IsOrder, TellsPart, TellsTruth, count_truth, count_piece, count_with, most_with, piece_span}
use Rattle.sym_int.specs.Parts.{IsAtAnEnd, IsWithin}
use Rattle.sym_int.specs.Points.{HasPoint, IsPart}
use Rattle.sym_int.specs.declared.wide.Wide.{Wide}
use Rattle.sym_int.specs.declared.wide.Wide.TheVariants as wide
use Rattle.sym_int.specs.declared.pieces.Cut.{Cut}
use Rattle.sym_int.specs.declared.pieces.Pieces.{Pieces}
use Rattle.sym_int.specs.declared.span.Span.{Span}

pub after_points : (span part : Span) (truth : Bool) (cut : Option Cut) → IsAfter span part truth cut → (x : ℤ) → InPart (piece_span cut) x ↔ ((part.hi <ℤ x) × (x ≤ℤ span.hi))
after_points span part truth None h x = (λ p. absurd p, λ p. absurd (omega (arith, ints)))
after_points span part truth (Some cut) h x = (λ p. (omega (arith, ints), omega (arith, ints)), λ p. (omega (arith, ints), omega (arith, ints)))

-- The points of a span are those before a part, in it and after it.
pub all_around : (span part before : Span) (after : Option Span) → span.lo ≤ℤ part.lo → part.hi ≤ℤ span.hi → before.lo ≡ span.lo → before.hi ≡ part.lo -ℤ pos 1 → ((x : ℤ) → InPart after x ↔ ((part.hi <ℤ x) × (x ≤ℤ span.hi))) → (x : ℤ) → HasPoint span x ↔ (HasPoint before x ⊎ (HasPoint part x ⊎ InPart after x))
all_around span part before after low high first last rest x = (
  λ h. by_lt_z x part.lo (λ p. inl (omega (arith, ints), omega (arith, ints))) (λ p. by_lt_z part.hi x (λ q. inr (inr ((rest x).1 (q, h.1)))) (λ q. inr (inl (p, q)))),
  λ h. elim h [ inl p ↦ (omega (arith, ints), omega (arith, ints)) | inr p ↦ elim p [ inl q ↦ (omega (arith, ints), omega (arith, ints)) | inr q ↦ let r : (part.hi <ℤ x) × (x ≤ℤ span.hi) = (rest x).0 q in let o : part.lo ≤ℤ part.hi = part.ordered in (omega (arith, ints), r.1) ] ],
)

pub after_tells : (span part : Span) (truth : Bool) (cut : Option Cut) → IsAfter span part (not truth) cut → IfSome cut (TellsPart (Some part) truth)
after_tells span part truth None h = tt
after_tells span part truth (Some cut) h = record { inside = λ x p q. absurd (omega (arith, ints)); outside = λ x p q. h.2 }

pub after_order : (span part : Span) (truth : Bool) (first inside : Cut) (cut : Option Cut) → (first.span.hi <ℤ inside.span.lo) → inside.truth ≡ not first.truth → inside.span ≡ part → inside.truth ≡ truth → IsAfter span part (not truth) cut → InOrder first (Some inside) cut
after_order span part truth first inside None a b d e h = (a, b)
after_order span part truth first inside (Some cut) a b d e h =
    let last : inside.span.hi ≡ part.hi = ap (λ (s : Span). s.hi) d in
    ((a, b), (omega (arith, ints), h.2 ∙ ap not (sym e)))

pub part_points : (P : ℤ → Type 0) (part : Option Span) → IsPart P part → (x : ℤ) → InPart part x ↔ P x
part_points P (Some span) h x = h x
part_points P None h x = (λ p. absurd p, λ p. h x p)

opposite : (b : Bool) → b ≡ not b → ⊥
opposite true e = both_ways true e refl
opposite false e = both_ways false refl e

-- A piece that tells a part from the rest tells the truth of the comparison that the part is for.
pub tells : (span : Span) (wide : Wide) (compare : Compare) (bound : ℤ) (truth : Bool) (part : Option Span) → IsPart (HasTruth span wide compare bound truth) part → (piece : Cut) → ((x : ℤ) → HasPoint piece.span x → HasPoint span x) → TellsPart part truth piece → TellsTruth wide compare bound piece
tells span wide compare bound truth part h piece within t = λ x p.
    elim (same_or_not (compares compare (wide_on wide x) bound) truth) [ inl e ↦ t.inside x p ((part_points (HasTruth span wide compare bound truth) part h x).1 (within x p, e)) ∙ sym e | inr e ↦ t.outside x p (λ q. opposite truth (sym ((part_points (HasTruth span wide compare bound truth) part h x).0 q).1 ∙ e)) ∙ sym e ]

pub some_tells : (span : Span) (wide : Wide) (compare : Compare) (bound : ℤ) (truth : Bool) (part : Option Span) → IsPart (HasTruth span wide compare bound truth) part → (piece : Option Cut) → ((x : ℤ) → InPart (piece_span piece) x → HasPoint span x) → IfSome piece (TellsPart part truth) → IfSome piece (TellsTruth wide compare bound)
some_tells span wide compare bound truth part h None within t = tt
some_tells span wide compare bound truth part h (Some piece) within t = tells span wide compare bound truth part h piece within t

-- The form is in the range on a part whose points it is in the range at.
pub part_within : (P : ℤ → Type 0) (wide : Wide) (range : Span) (part : Option Span) → IsPart P part → ((x : ℤ) → P x → HasPoint range (wide_on wide x)) → IfSome part (IsWithin wide range)
part_within P wide range None h in_range = tt
part_within P wide range (Some span) h in_range = λ x p. in_range x ((h x).0 p)

pub not_twice : (b : Bool) → not (not b) ≡ b
not_twice true = refl
not_twice false = refl

starts : (span : Span) → HasPoint span span.lo
starts span = let o : span.lo ≤ℤ span.hi = span.ordered in (omega (arith, ints), o)

-- The truth at all points of a constant is one.
pub one_piece : (wide : Wide) (compare : Compare) (bound : ℤ) (first : Cut) (second third : Option Cut) → TellsTruth wide compare bound first → IfSome second (TellsTruth wide compare bound) → InOrder first second third → wide_cell wide ≡ None → second ≡ None
one_piece wide compare bound first None third t u o e = refl
one_piece (wide.Line line) compare bound first (Some second) third t u o e = cc
one_piece (wide.Const number) compare bound first (Some second) None t u o e =
    absurd (opposite first.truth (t first.span.lo (starts first.span) ∙ sym (u second.span.lo (starts second.span)) ∙ o.1))
one_piece (wide.Const number) compare bound first (Some second) (Some third) t u o e =
    absurd (opposite first.truth (t first.span.lo (starts first.span) ∙ sym (u second.span.lo (starts second.span)) ∙ o.0.1))

-- ---- how many pieces have a truth

pub count_other : (t : Bool) → count_truth t (not t) ≡ 0
count_other true = refl
count_other false = refl

count_one : (t a : Bool) → count_truth t a ≤ 1
count_one true true = lit≤ tt
count_one true false = lit≤ tt
count_one false true = lit≤ tt
count_one false false = lit≤ tt

once : (t a : Bool) → count_truth t a + count_truth t (not a) ≤ 1
once true true = lit≤ tt
once true false = lit≤ tt
once false true = lit≤ tt
once false false = lit≤ tt

once_of : (t a b : Bool) → b ≡ not a → count_truth t a + count_truth t b ≤ 1
once_of t a b e = subst (λ (other : Bool). count_truth t a + count_truth t other ≤ 1) (sym e) (once t a)

pub count_after : (span part : Span) (t : Bool) (cut : Option Cut) → IsAfter span part (not t) cut → count_piece t cut ≡ 0
count_after span part t None h = refl
count_after span part t (Some cut) h = ap (λ (a : Bool). count_truth t a) h.2 ∙ count_other t

-- Nothing is after a part that ends as the span does.
pub none_after : (span part : Span) (t : Bool) (cut : Option Cut) → span.lo <ℤ part.lo → IsAtAnEnd span (Some part) → IsAfter span part t cut → cut ≡ None
none_after span part t None begins end h = refl
none_after span part t (Some cut) begins end h =
    let o : cut.span.lo ≤ℤ cut.span.hi = cut.span.ordered in
    elim end [ inl e ↦ absurd (omega (arith, ints)) | inr e ↦ absurd (omega (arith, ints)) ]

one_at_most : (t : Bool) (first : Cut) (second third : Option Cut) → third ≡ None → InOrder first second third → count_truth t first.truth + count_piece t second + count_piece t third ≤ 1
one_at_most t first None None e o = omega (arith, count_one t first.truth)
one_at_most t first None (Some third) e o = cc
one_at_most t first (Some second) None e o = omega (arith, once_of t first.truth second.truth o.1)
one_at_most t first (Some second) (Some third) e o = cc

two_at_most : (t : Bool) (first : Cut) (second third : Option Cut) → InOrder first second third → count_truth t first.truth + count_piece t second + count_piece t third ≤ 2
two_at_most t first None None o = omega (arith, count_one t first.truth)
two_at_most t first None (Some third) o = cc
two_at_most t first (Some second) None o = omega (arith, once_of t first.truth second.truth o.1)
two_at_most t first (Some second) (Some third) o = omega (arith, once_of t first.truth second.truth o.0.1, count_one t third.truth)

-- The numbers of pieces of one truth, where one part has it at most, and an order has no third.
pub few_pieces : (compare : Compare) (truth : Bool) (pieces : Pieces) → count_with truth pieces ≤ 1 → (compare ≡ Eq → truth ≡ true) → (compare ≡ Ne → truth ≡ false) → InOrder pieces.first pieces.second pieces.third → (IsOrder compare → pieces.third ≡ None) → (t : Bool) → count_with t pieces ≤ most_with compare t
few_pieces Eq truth pieces one eq ne o end true = subst (λ (t : Bool). count_with t pieces ≤ 1) (eq refl) one
few_pieces Eq truth pieces one eq ne o end false = two_at_most false pieces.first pieces.second pieces.third o
few_pieces Ne truth pieces one eq ne o end true = two_at_most true pieces.first pieces.second pieces.third o
few_pieces Ne truth pieces one eq ne o end false = subst (λ (t : Bool). count_with t pieces ≤ 1) (ne refl) one
few_pieces Lt truth pieces one eq ne o end t = one_at_most t pieces.first pieces.second pieces.third (end tt) o
few_pieces Le truth pieces one eq ne o end t = one_at_most t pieces.first pieces.second pieces.third (end tt) o
few_pieces Gt truth pieces one eq ne o end t = one_at_most t pieces.first pieces.second pieces.third (end tt) o
few_pieces Ge truth pieces one eq ne o end t = one_at_most t pieces.first pieces.second pieces.third (end tt) o
