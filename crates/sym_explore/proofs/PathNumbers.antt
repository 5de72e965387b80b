-- What a path gives at a state, by the number that an integer cell holds there.
use Rattle.std.proofs.Common.{◌≡◌, ℕ, ℤ, Bool, true, false, List, [], ◌∷◌, Option, Some, ◌⊎◌, inl, inr, None, map, refl, sym, ap, ◌∙◌}
use Rattle.std.specs.Prelude.{slice_get, if◌then◌else◌}
use Rattle.sym_base.specs.States.{number_at}
use Rattle.sym_base.specs.Tests.{Truth}
use Rattle.sym_base.specs.declared.values.state.Cell.TheVariants as cell
use Rattle.sym_base.specs.declared.values.state.State.{State}
use Rattle.sym_base.specs.declared.values.state.Outcome.{Outcome}
use Rattle.sym_base.specs.declared.values.state.Outcome.TheVariants.{Going}
use Rattle.sym_int.specs.Lines.{wide_cell, wide_on, wide_value}
use Rattle.sym_int.specs.Points.{HasPoint}
use Rattle.sym_int.specs.declared.span.Span.{Span}
use Rattle.sym_int.specs.declared.wide.Wide.{Wide}
use Rattle.sym_int.specs.declared.wide.Wide.TheVariants as wide
use Rattle.sym_path.proofs.Decided.{point_decided, admits_decided}
use Rattle.sym_path.proofs.Fitted.{number_held}
use Rattle.sym_path.specs.Admitting.{has_point, admits}
use Rattle.sym_path.specs.Changing.{GoesOn}
use Rattle.sym_path.specs.Giving.{end_at, given, state_at}
use Rattle.sym_path.specs.Narrowing.{GivesWhere, cell_admitted}
use Rattle.sym_explore.specs.Terms.{span_in}
use Rattle.sym_path.specs.declared.part.Part.{Part}
use Rattle.sym_path.specs.declared.part.Part.TheVariants as part
use Rattle.sym_path.specs.declared.path.Path.{Path}
use Rattle.sym_path.specs.declared.path.PathEnd.{PathEnd}
use Rattle.sym_path.specs.declared.path.PathEnd.TheVariants.{Next, Ended}

-- The path gives nothing at the state, or the cell holds a number of the span there.
abbrev pub IsHeld : Truth → Path → State → ℕ → Span → Type 0
IsHeld truth path s c span =
    (given truth path s ≡ []) ⊎ ((slice_get s.cells c ≡ Some (cell.Int (number_at s c))) × HasPoint span (number_at s c))

pub number_is_held : (truth : Truth) (path : Path) (s : State) (c : ℕ) (span : Span) → slice_get path.when c ≡ Some (part.Span span) → IsHeld truth path s c span
number_is_held truth path s c span e = go (admits truth path.when s.cells) refl
  where
    go : (b : Bool) → admits truth path.when s.cells ≡ b → IsHeld truth path s c span
    go true h = inr (number_held truth path.when s c span ((admits_decided truth path.when s).0 h) e)
    go false h = inl (ap (λ (b : Bool). if b then end_at path.end s ∷ [] else []) h)

if_none : (b : Bool) (os : List Outcome) → os ≡ [] → (if b then os else []) ≡ []
if_none true os e = e
if_none false os e = refl

-- What a path gives whose cell is narrowed to a span: nothing where the path gave nothing, all of it
-- at a point of the span, and nothing at any other number.
pub given_none : (truth : Truth) (old new : Path) (c : ℕ) (span : Span) (s : State) → GivesWhere old c (part.Span span) new → given truth old s ≡ [] → given truth new s ≡ []
given_none truth old new c span s g e = g truth s ∙ if_none (cell_admitted truth (part.Span span) (slice_get s.cells c)) (given truth old s) e

pub given_in : (truth : Truth) (old new : Path) (c : ℕ) (span : Span) (s : State) (x : ℤ) → GivesWhere old c (part.Span span) new → slice_get s.cells c ≡ Some (cell.Int x) → HasPoint span x → given truth new s ≡ given truth old s
given_in truth old new c span s x g e h =
    let t : cell_admitted truth (part.Span span) (slice_get s.cells c) ≡ true = ap (cell_admitted truth (part.Span span)) e ∙ (point_decided span x).1 h in
    g truth s ∙ ap (λ (b : Bool). if b then given truth old s else []) t

-- A path gives what it does where its own span admits the state.
pub gives_own : (path : Path) (c : ℕ) (span : Span) → slice_get path.when c ≡ Some (part.Span span) → GivesWhere path c (part.Span span) path
gives_own path c span e truth s = elim (number_is_held truth path s c span e) [
  | inl none ↦ none ∙ sym (if_none (cell_admitted truth (part.Span span) (slice_get s.cells c)) (given truth path s) none)
  | inr (is, point) ↦
      let t : cell_admitted truth (part.Span span) (slice_get s.cells c) ≡ true = ap (cell_admitted truth (part.Span span)) is ∙ (point_decided span (number_at s c)).1 point in
      sym (ap (λ (b : Bool). if b then given truth path s else []) t)
]

-- The span that is found for a cell.
pub span_is : (o : Option Part) (span : Span) → Some span ≡ span_in o → o ≡ Some (part.Span span)
span_is None span e = absurd (cc)
span_is (Some (part.Set set)) span e = absurd (cc)
span_is (Some (part.Span own)) span e = let same : own ≡ span = cc in ap (λ (q : Span). Some (part.Span q)) same
span_is (Some (part.Facts known)) span e = absurd (cc)
span_is (Some part.Free) span e = absurd (cc)

pub no_point : (span : Span) (x : ℤ) → ¬ (HasPoint span x) → has_point span x ≡ false
no_point span x n = go (has_point span x) refl
  where
    go : (b : Bool) → has_point span x ≡ b → has_point span x ≡ false
    go true e = absurd (n ((point_decided span x).0 e))
    go false e = e

pub given_out : (truth : Truth) (old new : Path) (c : ℕ) (span : Span) (s : State) (x : ℤ) → GivesWhere old c (part.Span span) new → slice_get s.cells c ≡ Some (cell.Int x) → ¬ (HasPoint span x) → given truth new s ≡ []
given_out truth old new c span s x g e n =
    let t : cell_admitted truth (part.Span span) (slice_get s.cells c) ≡ false = ap (cell_admitted truth (part.Span span)) e ∙ no_point span x n in
    g truth s ∙ ap (λ (b : Bool). if b then given truth old s else []) t

-- A number over the cell, by what the cell holds.
pub wide_at : (number : Wide) (c : ℕ) (s : State) → wide_cell number ≡ Some c → wide_value number s ≡ wide_on number (number_at s c)
wide_at (wide.Const n) c s e = absurd (cc)
wide_at (wide.Line line) c s e = let same : line.cell ≡ c = cc in ap (λ (k : ℕ). wide_on (wide.Line line) (number_at s k)) same

-- Two functions of what a path gives that goes on: they agree where they do so on the states after
-- the path.
pub map_going : {A : Type 0} (truth : Truth) (path : Path) (s : State) (f g : Outcome → A) → GoesOn path.end → ((later : State) → given truth path s ≡ Going later ∷ [] → f (Going later) ≡ g (Going later)) → map f (given truth path s) ≡ map g (given truth path s)
map_going {A} truth path s f g goes step = go path.end (admits truth path.when s.cells) goes step
  where
    gives : PathEnd → Bool → List Outcome
    gives end a = if a then end_at end s ∷ [] else []

    go : (end : PathEnd) (a : Bool) → GoesOn end → ((later : State) → gives end a ≡ Going later ∷ [] → f (Going later) ≡ g (Going later)) → map f (gives end a) ≡ map g (gives end a)
    go (Next forms) true h each = ap (λ (x : A). x ∷ []) (each (state_at forms s) refl)
    go (Next forms) false h each = refl
    go (Ended fault) a h each = absurd h
