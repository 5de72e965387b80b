-- Marks that tell which groups a text has named: one for each group, in order.
use Rattle.std.specs.Prelude.{◌≡◌, Bool, true, false, List, [], ◌∷◌, ◌++◌, map, length, Option, Some, None}
use Rattle.std.specs.List.{filter}
use Rattle.std.specs.Map.{keys_of}
use Rattle.sym_base.specs.declared.values.value.Key.{Key}
use Rattle.sym_base.specs.declared.values.state.Outcome.{Outcome}
use Rattle.sym_check.specs.Meaning.Groups.{is_among}
use Rattle.sym_file.specs.Totals.{IsTaken}

-- The groups whose keys are among these are marked. Each of these keys has a group, and as many
-- groups are marked as there are keys.
pub record AreMarks {V : Type 0} (seen : List Key) (groups : List (Key × V))
    (marks : List Bool) : Type 0 where
  pub each : marks ≡ map (λ key. is_among key seen) (keys_of groups)
  pub there : (key : Key) → is_among key seen ≡ true → is_among key (keys_of groups) ≡ true
  pub count : length (filter (λ mark. mark) marks) ≡ length seen

-- The groups and marks after a group of a text was taken that has named these keys before, by what
-- its chain makes of how the group stands. `None` where its key is one of them, and `Some false`
-- where there is a gap.
abbrev pub IsTakenOnce : List Key → Key → List (Key × Outcome) → Option Outcome → Option Bool
    → List (Key × Outcome) → List Bool → Type 0
IsTakenOnce seen key old led None new marks = is_among key seen ≡ true
IsTakenOnce seen key old led (Some false) new marks = led ≡ None
IsTakenOnce seen key old led (Some true) new marks =
    (is_among key seen ≡ false) × IsTaken key old led true new
    × AreMarks (seen ++ key ∷ []) new marks
