-- A path cut where the truth of a comparison changes.
use Rattle.std.specs.Prelude.{◌≡◌, ℕ, ℤ, ◌↔◌, Bool, List, [], ◌∷◌, ◌++◌, Option, Some, None, IfSome, Result, Ok}
use Rattle.sym_base.specs.Comparing.{compares}
use Rattle.sym_base.specs.States.{number_at}
use Rattle.sym_base.specs.declared.values.state.State.{State}
use Rattle.sym_check.specs.declared.evaluate.arithmetic.Arith.{Arith}
use Rattle.sym_check.specs.Meaning.Conditions.{test_truth}
use Rattle.sym_check.specs.Plan.ScriptPlans.{ScriptPlan}
use Rattle.sym_int.specs.Cuts.{InOrder, InPieces}
use Rattle.sym_int.specs.Lines.{wide_value}
use Rattle.sym_int.specs.Points.{HasPoint}
use Rattle.sym_int.specs.declared.pieces.Cut.{Cut}
use Rattle.sym_int.specs.declared.pieces.Pieces.{Pieces}
use Rattle.sym_int.specs.declared.span.Span.{Span}
use Rattle.sym_int.specs.declared.wide.Wide.{Wide}
use Rattle.sym_path.specs.declared.part.Part.{Part}
use Rattle.sym_path.specs.declared.part.Part.TheVariants as part
use Rattle.sym_path.specs.declared.path.Path.{Path}
use Rattle.sym_path.specs.Changing.{GoesOn}
use Rattle.sym_path.specs.Fitting.{PathFits}
use Rattle.sym_path.specs.Giving.{given}
use Rattle.sym_path.specs.Narrowing.{GivesWhere}
use Rattle.sym_explore.specs.Terms.{ready_number, span_in}
use Rattle.sym_explore.specs.Branches.{judged, with_truth}
use Rattle.sym_explore.specs.declared.branch.Branch.{Branch}
use Rattle.sym_explore.specs.declared.comparisons.Bound.{Bound}
use Rattle.sym_explore.specs.declared.terms.Ready.{Ready}

-- The pieces are those of the span, each before the next.
pub record ArePieces (span : Span) (pieces : Pieces) : Type 0 where
  pub cover : (x : ℤ) → HasPoint span x ↔ InPieces pieces x
  pub order : InOrder pieces.first pieces.second pieces.third

-- The same of the span of an integer cell.
abbrev pub ArePiecesOf : Option Part → Pieces → Type 0
ArePiecesOf when pieces = IsSpanOf (span_in when)
  where
    IsSpanOf : Option Span → Type 0
    IsSpanOf None = ⊥
    IsSpanOf (Some span) = ArePieces span pieces

-- The truth of each piece is that of each of its points.
abbrev pub PieceTells : (ℤ → Bool) → Cut → Type 0
PieceTells truth piece = (x : ℤ) → HasPoint piece.span x → piece.truth ≡ truth x

-- The truth of each of the pieces is that of each of its points.
pub record PiecesTell (truth : ℤ → Bool) (pieces : Pieces) : Type 0 where
  pub first : PieceTells truth pieces.first
  pub second : IfSome pieces.second (PieceTells truth)
  pub third : IfSome pieces.third (PieceTells truth)

-- The path and the branches before, and those after: the new branches and the path, with its truth,
-- give what the path gave, with the truth of the number that the cell holds.
abbrev pub CutsPath :
    ScriptPlan → ℕ → Pieces → Path → List Branch → Path → List Branch → Bool → Type 0
CutsPath p c pieces old before path after last =
    (truth : ℤ → Bool) → PiecesTell truth pieces → (s : State) →
    judged (test_truth p.tests) after s
    ++ with_truth (Some last) (given (test_truth p.tests) path s)
    ≡ judged (test_truth p.tests) before s
    ++ with_truth (Some (truth (number_at s c))) (given (test_truth p.tests) old s)

-- The last branch is the path on the piece, with its truth.
pub record IsPiecePushed (p : ScriptPlan) (c : ℕ) (piece : Cut) (path : Path)
    (before after : List Branch) : Type 0 where
  pub pushed : Branch
  pub is : after ≡ before ++ pushed ∷ []
  pub truth : pushed.truth ≡ piece.truth
  pub fits : PathFits p pushed.path
  pub gives : GivesWhere path c (part.Span piece.span) pushed.path
  pub next : GoesOn path.end → GoesOn pushed.path.end

-- The path and the branches before, and those after: the new branches and the path, with its truth,
-- give what the path gave, with the truth of the comparison of the number over the state before it.
abbrev pub WasCompared :
    ScriptPlan → Wide → Bound → Path → List Branch → Path → List Branch → Bool → Type 0
WasCompared p wide bound old before path after last = (s : State) →
    judged (test_truth p.tests) after s
    ++ with_truth (Some last) (given (test_truth p.tests) path s)
    ≡ judged (test_truth p.tests) before s
    ++ with_truth (Some (compares bound.compare (wide_value wide s) bound.number))
    (given (test_truth p.tests) old s)

-- Whether the number of the term compares so.
abbrev pub number_compares : Ready → Bound → State → Result Bool Arith
number_compares ready bound s = Ok (compares bound.compare (ready_number ready s) bound.number)
