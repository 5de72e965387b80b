-- The pieces of a span at whose points a comparison has one truth.
use Rattle.std.specs.Prelude.{◌≡◌, ℕ, ◌+◌, ◌≤◌, ℤ, pos, ◌+ℤ◌, ◌<ℤ◌, ◌↔◌, ◌⊎◌, Bool, true, false, not, Option, Some, None, IfSome, MatchOption}
use Rattle.sym_base.specs.Comparing.{compares}
use Rattle.sym_base.specs.declared.tree.compare.Compare.{Compare}
use Rattle.sym_base.specs.declared.tree.compare.Compare.TheVariants.{Eq, Ne, Lt, Le, Gt, Ge}
use Rattle.sym_int.specs.Lines.{wide_on, wide_cell}
use Rattle.sym_int.specs.Points.{HasPoint}
use Rattle.sym_int.specs.declared.pieces.Cut.{Cut}
use Rattle.sym_int.specs.declared.pieces.Pieces.{Pieces}
use Rattle.sym_int.specs.declared.span.Span.{Span}
use Rattle.sym_int.specs.declared.wide.Wide.{Wide}

-- The points at which the comparison of the form's number with the bound has this truth.
abbrev pub HasTruth : Span → Wide → Compare → ℤ → Bool → ℤ → Type 0
HasTruth span wide compare bound truth x =
    HasPoint span x × (compares compare (wide_on wide x) bound ≡ truth)

-- The truth of a piece is that of the comparison at each of its points.
abbrev pub TellsTruth : Wide → Compare → ℤ → Cut → Type 0
TellsTruth wide compare bound piece =
    (x : ℤ) → HasPoint piece.span x → piece.truth ≡ compares compare (wide_on wide x) bound

-- The number is in the part; never where that is none.
abbrev pub InPart : Option Span → ℤ → Type 0
InPart (Some span) x = HasPoint span x
InPart None x = ⊥

-- The span of a piece that may be none.
abbrev pub piece_span : Option Cut → Option Span
piece_span (Some piece) = Some piece.span
piece_span None = None

-- The number is in one of the pieces.
abbrev pub InPieces : Pieces → ℤ → Type 0
InPieces pieces x =
    HasPoint pieces.first.span x
    ⊎ (InPart (piece_span pieces.second) x ⊎ InPart (piece_span pieces.third) x)

-- One piece ends before the next begins, and their truths differ.
abbrev pub Follows : Cut → Cut → Type 0
Follows piece next = (piece.span.hi <ℤ next.span.lo) × (next.truth ≡ not piece.truth)

-- Each piece follows the one before it; there is a third only where there is a second.
abbrev pub InOrder : Cut → Option Cut → Option Cut → Type 0
InOrder first None third = third ≡ None
InOrder first (Some second) None = Follows first second
InOrder first (Some second) (Some third) = Follows first second × Follows second third

-- 1 where a truth is this one, and else 0.
abbrev pub count_truth : Bool → Bool → ℕ
count_truth true true = 1
count_truth true false = 0
count_truth false true = 0
count_truth false false = 1

-- The same of a piece that may be none.
abbrev pub count_piece : Bool → Option Cut → ℕ
count_piece truth (Some piece) = count_truth truth piece.truth
count_piece truth None = 0

-- How many of the pieces have this truth.
abbrev pub count_with : Bool → Pieces → ℕ
count_with truth pieces =
    count_truth truth pieces.first.truth
    + count_piece truth pieces.second
    + count_piece truth pieces.third

-- How many pieces with this truth a comparison can give: an order one, `==` one that is true and
-- two that are false, `!=` two that are true and one that is false.
abbrev pub most_with : Compare → Bool → ℕ
most_with Eq true = 1
most_with Eq false = 2
most_with Ne true = 2
most_with Ne false = 1
most_with Lt truth = 1
most_with Le truth = 1
most_with Gt truth = 1
most_with Ge truth = 1

-- The pieces of the span by the comparison of the form with the bound: their points are those of
-- the span, each tells the truth at its points, neighbours differ, a constant gives one, and no
-- truth has more pieces than the comparison can give.
pub record IsCut (span : Span) (wide : Wide) (compare : Compare) (bound : ℤ) (pieces : Pieces) :
    Type 0 where
  pub cover : (x : ℤ) → HasPoint span x ↔ InPieces pieces x
  pub first : TellsTruth wide compare bound pieces.first
  pub second : IfSome pieces.second (TellsTruth wide compare bound)
  pub third : IfSome pieces.third (TellsTruth wide compare bound)
  pub order : InOrder pieces.first pieces.second pieces.third
  pub constant : wide_cell wide ≡ None → pieces.second ≡ None
  pub few : (truth : Bool) → count_with truth pieces ≤ most_with compare truth

-- ---- for the calls that make the pieces

-- A comparison that orders numbers.
abbrev pub IsOrder : Compare → Type 0
IsOrder Eq = ⊥
IsOrder Ne = ⊥
IsOrder Lt = Unit {0}
IsOrder Le = Unit {0}
IsOrder Gt = Unit {0}
IsOrder Ge = Unit {0}

-- The truth of a piece is this at its points in the part, and the other at its other points.
pub record TellsPart (part : Option Span) (truth : Bool) (piece : Cut) : Type 0 where
  pub inside : (x : ℤ) → HasPoint piece.span x → InPart part x → piece.truth ≡ truth
  pub outside : (x : ℤ) → HasPoint piece.span x → ¬ (InPart part x) → piece.truth ≡ not truth

-- The points of the span after a part, with this truth; none where the part ends as the span does.
abbrev pub IsAfter : Span → Span → Bool → Option Cut → Type 0
IsAfter span part truth cut =
    MatchOption cut (part.hi ≡ span.hi)
    (λ cut. (cut.span.lo ≡ part.hi +ℤ pos 1) × (cut.span.hi ≡ span.hi) × (cut.truth ≡ truth))
