-- What the saved run of a text makes of another one, where its groups are joined while they are read.
use Rattle.std.specs.Prelude.{◌≡◌, ◌≢◌, ℕ, Bool, true, false, List, [], ◌∷◌, ◌++◌, Option, None, Some, Result, Ok, Err}
use Rattle.std.specs.List.{All}
use Rattle.sym_base.specs.declared.values.value.Key.{Key}
use Rattle.sym_check.specs.Meaning.Groups.{is_among}
use Rattle.sym_check.specs.Plan.ScriptPlans.{ScriptPlan}
use Rattle.sym_run.specs.Chained.{Chained}
use Rattle.sym_run.specs.ClosedJoins.{AreClosedJoin, GrowsByClosed, IsSavedJoin}
use Rattle.sym_plain.specs.Pairs.{HaveDistinctKeys}
use Rattle.sym_run.specs.SavedRuns.{IsLawfulGroup, IsLawfulSaved}
use Rattle.sym_run.specs.declared.saved.Saved.{Saved}
use Rattle.sym_file.specs.Marks.{AreMarks}
use Rattle.sym_file.specs.Reading.{body_at, groups_at}
use Rattle.sym_file.specs.SavedTexts.{IsReadTo}
use Rattle.sym_file.specs.TakenTexts.{IsTextApart, IsRunFile, Stops}
use Rattle.sym_file.specs.declared.joined_groups.JoinedText.{JoinedText}
use Rattle.sym_file.specs.declared.joined_groups.JoinedText.TheVariants as text
use Rattle.sym_file.specs.declared.saved_err.SavedErr.{SavedErr}

-- The chains of groups.
abbrev pub Chains : Type 0
Chains = List (Key × Chained)

-- The text is that of a saved run which follows `before`, and this is the saved run of both.
pub record IsTextJoined (script : List ℕ) (p : ScriptPlan) (bytes : List ℕ) (limit : ℕ)
    (before joined : Saved) : Type 0 where
  pub saved : Saved
  pub text : IsRunFile script p bytes saved
  pub follows : saved.first ≡ before.next
  pub joins : IsSavedJoin p limit before saved joined

-- What joining a text to a saved run comes to.
abbrev pub JoinsText : List ℕ → ScriptPlan → List ℕ → ℕ → Saved → Result JoinedText SavedErr
    → Type 0
JoinsText script p bytes limit before (Ok (text.Done joined)) =
    IsTextJoined script p bytes limit before joined
JoinsText script p bytes limit before (Ok text.Apart) = IsTextApart script p bytes before.next
JoinsText script p bytes limit before (Err why) = IsReadTo script p bytes (Err why)

abbrev pub IfJoined : JoinedText → (Saved → Type 0) → Type 0
IfJoined (text.Done joined) P = P joined
IfJoined text.Apart P = Unit {0}

-- ---- the parts of a text

-- The groups and marks after a group of a text was joined that has named these keys before. `false`
-- where its key is one of them.
abbrev pub IsJoinedOnce : ScriptPlan → ℕ → List Key → Key → Chained → Chains → Bool → Chains
    → List Bool → Type 0
IsJoinedOnce p limit seen key chain old false new marks = is_among key seen ≡ true
IsJoinedOnce p limit seen key chain old true new marks =
    (is_among key seen ≡ false) × GrowsByClosed p limit key chain old new
    × AreMarks (seen ++ key ∷ []) new marks

-- The groups that were read are lawful, and all of them were joined to the others.
pub record AreGroupsJoined (p : ScriptPlan) (first next count limit : ℕ) (bytes : List ℕ)
    (old new : Chains) (rest : List ℕ) : Type 0 where
  pub groups : Chains
  pub read : groups_at p count [] bytes ≡ Some (groups, rest)
  pub each : All (IsLawfulGroup p first next) groups
  pub distinct : HaveDistinctKeys groups
  pub joins : AreClosedJoin p limit old groups new

abbrev pub JoinsGroups : {X : Type 0} → ScriptPlan → ℕ → ℕ → ℕ → ℕ → List ℕ → Chains → Chains
    → (X → List ℕ) → Result X SavedErr → Type 0
JoinsGroups p first next count limit bytes old new view (Ok x) =
    AreGroupsJoined p first next count limit bytes old new (view x)
JoinsGroups p first next count limit bytes old new view (Err e) =
    Stops e ((groups : Chains) (end : List ℕ)
    → groups_at p count [] bytes ≡ Some (groups, end)
    → All (IsLawfulGroup p first next) groups → ⊥)

-- The same of all that comes after the script.
pub record IsBodyJoined (p : ScriptPlan) (bytes : List ℕ) (first limit : ℕ) (old new : Chains)
    (next : ℕ) : Type 0 where
  pub saved : Saved
  pub read : body_at p bytes ≡ Some saved
  pub lawful : IsLawfulSaved p saved
  pub follows : saved.first ≡ first
  pub next_is : next ≡ saved.next
  pub joins : AreClosedJoin p limit old saved.groups new

abbrev pub JoinsBody : ScriptPlan → List ℕ → ℕ → ℕ → Chains → Chains → Result ℕ SavedErr → Type 0
JoinsBody p bytes first limit old new (Ok next) = IsBodyJoined p bytes first limit old new next
JoinsBody p bytes first limit old new (Err e) =
    Stops e ((saved : Saved) → body_at p bytes ≡ Some saved → IsLawfulSaved p saved
    → saved.first ≢ first)

-- And of the whole text.
pub record IsOwnJoined (script : List ℕ) (p : ScriptPlan) (bytes : List ℕ) (first limit : ℕ)
    (old new : Chains) (next : ℕ) : Type 0 where
  pub saved : Saved
  pub text : IsRunFile script p bytes saved
  pub follows : saved.first ≡ first
  pub next_is : next ≡ saved.next
  pub joins : AreClosedJoin p limit old saved.groups new

abbrev pub JoinsOwn : List ℕ → ScriptPlan → List ℕ → ℕ → ℕ → Chains → Chains
    → Result ℕ SavedErr → Type 0
JoinsOwn script p bytes first limit old new (Ok next) =
    IsOwnJoined script p bytes first limit old new next
JoinsOwn script p bytes first limit old new (Err e) =
    Stops e ((saved : Saved) → IsRunFile script p bytes saved → saved.first ≢ first)

-- The same, where it is said why nothing is joined.
abbrev pub JoinsUnlessApart : List ℕ → ScriptPlan → List ℕ → ℕ → ℕ → Chains → Chains
    → Result (Option ℕ) SavedErr → Type 0
JoinsUnlessApart script p bytes first limit old new (Ok (Some next)) =
    IsOwnJoined script p bytes first limit old new next
JoinsUnlessApart script p bytes first limit old new (Ok None) = IsTextApart script p bytes first
JoinsUnlessApart script p bytes first limit old new (Err why) = IsReadTo script p bytes (Err why)
