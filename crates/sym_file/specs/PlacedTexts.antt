-- What reading texts of saved runs by key comes to, step by step.
use Rattle.std.specs.Prelude.{◌≡◌, ℕ, ◌-◌, ◌<◌, Bool, false, List, [], ◌∷◌, ◌++◌, Some, Result, IfOk, length, slice_get, slice_index_or}
use Rattle.sym_base.specs.declared.values.value.Key.{Key}
use Rattle.sym_check.specs.Meaning.Groups.{is_among}
use Rattle.sym_check.specs.Plan.ScriptPlans.{ScriptPlan}
use Rattle.sym_plain.specs.Pairs.{HaveDistinctKeys}
use Rattle.sym_run.specs.Chained.{Chained}
use Rattle.sym_run.specs.declared.saved.Saved.{Saved}
use Rattle.sym_file.specs.Marks.{AreMarks}
use Rattle.sym_file.specs.Places.{AreEntries, AreJoinedByKey, AreScanned, ChainPlace, IsJoinOfPlaces, IsScanned, Span, placed, placed_all}
use Rattle.sym_file.specs.declared.saved_err.SavedErr.{SavedErr}

-- Each key with the places of its chains.
abbrev pub Placed : Type 0
Placed = List (Key × List ChainPlace)

-- The places and marks after an entry of a text that has named these keys before, where its key is
-- none of them.
abbrev pub IsPlacedOnce : List Key → Key → ChainPlace → Placed → Placed → List Bool → Type 0
IsPlacedOnce seen key place old new marks =
    (is_among key seen ≡ false) × (new ≡ placed old (key, place))
    × AreMarks (seen ++ key ∷ []) new marks

-- So many entries of a text, of which these bytes are left, were put to the places.
pub record AreEntriesPlaced (p : ScriptPlan) (text count : ℕ) (bytes : List ℕ) (old new : Placed)
    (rest : List ℕ) : Type 0 where
  pub entries : List (Key × ChainPlace)
  pub are : AreEntries p text bytes entries rest
  pub many : length entries ≡ count
  pub distinct : HaveDistinctKeys entries
  pub places : new ≡ placed_all old entries

-- The entries of a whole text.
pub record IsTextPlaced (script : List ℕ) (p : ScriptPlan) (text : ℕ) (bytes : List ℕ)
    (old new : Placed) (span : Span) : Type 0 where
  pub entries : List (Key × ChainPlace)
  pub scanned : IsScanned script p text bytes span entries
  pub places : new ≡ placed_all old entries

-- The entries of texts, in order.
pub record AreTextsPlaced (script : List ℕ) (p : ScriptPlan) (texts : List (List ℕ))
    (old new : Placed) (spans : List Span) : Type 0 where
  pub entries : List (Key × ChainPlace)
  pub scanned : AreScanned script p 0 texts spans entries
  pub places : new ≡ placed_all old entries

-- The chain comes of the places of the group at this index.
abbrev pub IsJoinedAt : ScriptPlan → ℕ → List Span → Placed → ℕ → Chained → Type 0
IsJoinedAt p limit spans groups index chain =
    (group : Key × List ChainPlace) → slice_get groups index ≡ Some group →
    IsJoinOfPlaces p limit spans group (group.0, chain)

-- The same of each chain that was made, at its index. One may be missing, where something is wrong.
abbrev pub AreJoinedOf : ScriptPlan → ℕ → List Span → Placed → List (Result Chained SavedErr)
    → Type 0
AreJoinedOf p limit spans groups made = (index : ℕ) (d : Result Chained SavedErr)
    → index < length made
    → IfOk (slice_index_or made index d) (IsJoinedAt p limit spans groups index)

-- The saved run has the groups of the texts, and goes from the first record of the first one to the
-- last record of the last one.
pub record IsJoinedByKey (script : List ℕ) (p : ScriptPlan) (limit : ℕ) (texts : List (List ℕ))
    (saved : Saved) : Type 0 where
  pub spans : List Span
  pub joined : AreJoinedByKey script p limit texts spans saved.groups
  pub begins : Span
  pub begins_with : slice_get spans 0 ≡ Some begins
  pub first_is : saved.first ≡ begins.first
  pub ends : Span
  pub ends_with : slice_get spans (length spans - 1) ≡ Some ends
  pub next_is : saved.next ≡ ends.next
