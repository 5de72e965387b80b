-- Paths that can be joined, and settled lists of paths, as in the SYMPLE paper (SOSP 2015) in
-- outline; which parts unite is this project's profile.
use Rattle.std.specs.Prelude.{◌≡◌, ◌≢◌, ℕ, List, Some, slice_get, ◌⊎◌}
use Rattle.std.specs.List.{AllPairs}
use Rattle.sym_int.specs.Points.{IsUnion}
use Rattle.sym_int.specs.declared.span.Span.{Span}
use Rattle.sym_pred.specs.Meaning.{Unite}
use Rattle.sym_path.specs.declared.part.Part.{Part}
use Rattle.sym_path.specs.declared.part.Part.TheVariants as part
use Rattle.sym_path.specs.declared.path.PathEnd.{PathEnd}
use Rattle.sym_path.specs.declared.path.PathEnd.TheVariants.{Next, Ended}
use Rattle.sym_path.specs.declared.path.Path.{Path}
use Rattle.sym_path.specs.Taking.{AreTakenTo}

-- Two parts unite: any two sets, two spans whose numbers are those of one span, and two lots of
-- facts that are equal or differ in exactly one outcome.
abbrev pub PartsUnite : Part → Part → Type 0
PartsUnite (part.Set a) (part.Set b) = Unit {0}
PartsUnite (part.Set a) (part.Span b) = ⊥
PartsUnite (part.Set a) (part.Facts b) = ⊥
PartsUnite (part.Set a) part.Free = ⊥
PartsUnite (part.Span a) (part.Set b) = ⊥
PartsUnite (part.Span a) (part.Span b) = (union : Span) × IsUnion union a b
PartsUnite (part.Span a) (part.Facts b) = ⊥
PartsUnite (part.Span a) part.Free = ⊥
PartsUnite (part.Facts a) (part.Set b) = ⊥
PartsUnite (part.Facts a) (part.Span b) = ⊥
PartsUnite (part.Facts a) (part.Facts b) = Unite a b
PartsUnite (part.Facts a) part.Free = ⊥
PartsUnite part.Free (part.Set b) = ⊥
PartsUnite part.Free (part.Span b) = ⊥
PartsUnite part.Free (part.Facts b) = ⊥
PartsUnite part.Free part.Free = Unit {0}

-- The constraints are equal in all cells but this one, in which the parts unite.
pub record UniteInOne (v w : List Part) : Type 0 where
  pub cell : ℕ
  pub first : Part
  pub second : Part
  pub in_first : slice_get v cell ≡ Some first
  pub in_second : slice_get w cell ≡ Some second
  pub unite : PartsUnite first second
  pub others : (c : ℕ) → c ≢ cell → slice_get v c ≡ slice_get w c

-- Equal, or equal but for one cell whose parts unite.
abbrev pub ConstraintsUnite : List Part → List Part → Type 0
ConstraintsUnite v w = (v ≡ w) ⊎ UniteInOne v w

-- The ends are the same fault, or the forms of one path, taken on the other's constraint, are the
-- other's forms.
abbrev pub EndsAgree : Path → Path → Type 0
EndsAgree p q = EndAgrees p.end q.end
  where
    EndAgrees : PathEnd → PathEnd → Type 0
    EndAgrees (Next fs) (Next gs) = AreTakenTo q.when fs gs ⊎ AreTakenTo p.when gs fs
    EndAgrees (Next fs) (Ended b) = ⊥
    EndAgrees (Ended a) (Next gs) = ⊥
    EndAgrees (Ended a) (Ended b) = a ≡ b

-- Two paths can be joined: their constraints unite, and their ends agree.
pub record Joinable (p q : Path) : Type 0 where
  pub constraints : ConstraintsUnite p.when q.when
  pub ends : EndsAgree p q

-- No two of the paths can be joined.
abbrev pub IsSettled : List Path → Type 0
IsSettled paths = AllPairs (λ p q. Joinable p q → ⊥) paths
