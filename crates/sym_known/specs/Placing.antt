-- Where known paths have their outcomes: in a list that they share.
use Rattle.std.specs.Prelude.{◌≡◌, ◌<◌, ℕ, List, [], Option, Some, None, slice_get, length}
use Rattle.std.specs.List.{All, AllZip}
use Rattle.sym_base.specs.declared.values.state.Outcome.{Outcome}
use Rattle.sym_base.specs.declared.values.state.Outcome.TheVariants.{Going}
use Rattle.sym_base.specs.declared.values.state.Outcome.TheVariants as outcome
use Rattle.sym_path.specs.declared.path.PathEnd.{PathEnd}
use Rattle.sym_path.specs.declared.path.PathEnd.TheVariants.{Next, Ended}
use Rattle.sym_path.specs.declared.path.Path.{Path}
use Rattle.sym_known.specs.declared.placed.Placed.{Placed}
use Rattle.sym_known.specs.Holding.{KnownPath}
use Rattle.sym_known.specs.Knowing.{known_outcome, known_state}

-- An outcome; where there is none, that of a group without cells.
abbrev pub outcome_or : Option Outcome → Outcome
outcome_or None = Going (record { cells = [] })
outcome_or (Some o) = o

-- The outcome of a path whose place among the outcomes this is. One that has ended has none there.
abbrev pub outcome_in : List Outcome → ℕ → PathEnd → Outcome
outcome_in outcomes place (Next forms) = outcome_or (slice_get outcomes place)
outcome_in outcomes place (Ended fault) = outcome.Ended fault

-- The known path that is placed like this.
abbrev pub known_in : List Outcome → Placed → KnownPath
known_in outcomes placed = record {
  path = placed.path;
  outcome = outcome_in outcomes placed.place placed.path.end;
}

-- The place of a path that goes on is one of so many.
abbrev pub IsPlaceOf : ℕ → PathEnd → ℕ → Type 0
IsPlaceOf count (Next forms) place = place < count
IsPlaceOf count (Ended fault) place = Unit {0}

abbrev pub AllPlaced : ℕ → List Placed → Type 0
AllPlaced count placed = All (λ (x : Placed). IsPlaceOf count x.path.end x.place) placed

-- The place holds what is known by the path's end, if it goes on.
abbrev pub HoldsKnown : List Outcome → PathEnd → ℕ → Type 0
HoldsKnown outcomes (Next forms) place = slice_get outcomes place ≡ Some (Going (known_state forms))
HoldsKnown outcomes (Ended fault) place = Unit {0}

-- The path is placed where its known cells are.
pub record IsPlaced (outcomes : List Outcome) (old : Path) (placed : Placed) : Type 0 where
  pub path : placed.path ≡ old
  pub place : HoldsKnown outcomes old.end placed.place

-- Each outcome of the first list stands at its place in the second one.
abbrev pub AreKept : List Outcome → List Outcome → Type 0
AreKept old new = (i : ℕ) (o : Outcome) → slice_get old i ≡ Some o → slice_get new i ≡ Some o
