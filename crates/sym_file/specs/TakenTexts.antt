-- What the saved run of a text leads totals to, where its groups are taken while they are read.
use Rattle.std.specs.Prelude.{◌≡◌, ◌≢◌, ℕ, List, [], Option, Some, None, Result, Ok, Err}
use Rattle.std.specs.List.{All}
use Rattle.sym_base.specs.declared.values.value.Key.{Key}
use Rattle.sym_base.specs.declared.values.state.Outcome.{Outcome}
use Rattle.sym_check.specs.Plan.ScriptPlans.{ScriptPlan}
use Rattle.sym_run.specs.Chained.{Chained}
use Rattle.sym_plain.specs.Pairs.{HaveDistinctKeys}
use Rattle.sym_run.specs.SavedRuns.{IsLawfulGroup, IsLawfulSaved}
use Rattle.sym_run.specs.declared.saved.Saved.{Saved}
use Rattle.sym_file.specs.Reading.{body_at, groups_at}
use Rattle.sym_file.specs.SavedTexts.{IsReadTo, IsSaved}
use Rattle.sym_file.specs.Stored.{IsStored}
use Rattle.sym_file.specs.Totals.{taken}
use Rattle.sym_file.specs.declared.saved_err.SavedErr.{SavedErr}
use Rattle.sym_file.specs.declared.saved_err.SavedErr.TheVariants as error
use Rattle.sym_file.specs.declared.totals.Taken.TheVariants as taking
use Rattle.sym_file.specs.declared.totals.TakenText.{TakenText}
use Rattle.sym_file.specs.declared.totals.TakenText.TheVariants as text
use Rattle.sym_file.specs.declared.led_groups.Led.{Led}
use Rattle.sym_file.specs.declared.led_groups.Led.TheVariants as led

-- How each group stands.
abbrev pub Pairs : Type 0
Pairs = List (Key × Outcome)

-- The bytes are the text of this lawful saved run of the script, which is one that the program's
-- types hold. `script` is the script as it is printed, and `p` its plan.
pub record IsRunFile (script : List ℕ) (p : ScriptPlan) (bytes : List ℕ)
    (saved : Saved) : Type 0 where
  pub is : IsSaved script p bytes saved
  pub stored : IsStored saved

-- The text is that of a saved run whose first record has the number `first`, and that of the record
-- after its last is `next`. Its chains lead totals to more.
pub record IsTextTaken (script : List ℕ) (p : ScriptPlan) (bytes : List ℕ) (first : ℕ)
    (totals : Pairs) (next : ℕ) (more : Pairs) : Type 0 where
  pub saved : Saved
  pub text : IsRunFile script p bytes saved
  pub follows : saved.first ≡ first
  pub next_is : next ≡ saved.next
  pub led : taken p 0 saved.groups totals ≡ taking.Done more

-- Its first record has another number.
pub record IsTextApart (script : List ℕ) (p : ScriptPlan) (bytes : List ℕ)
    (first : ℕ) : Type 0 where
  pub saved : Saved
  pub text : IsRunFile script p bytes saved
  pub apart : saved.first ≢ first

-- The chain of this group, the first one, has no path for how the group stands.
pub record IsTextGap (script : List ℕ) (p : ScriptPlan) (bytes : List ℕ) (first : ℕ)
    (totals : Pairs) (group : ℕ) : Type 0 where
  pub saved : Saved
  pub text : IsRunFile script p bytes saved
  pub follows : saved.first ≡ first
  pub gap : taken p 0 saved.groups totals ≡ taking.Gap group

-- What taking a text to totals comes to, where its first record has to have the number `first`.
abbrev pub TakesText : List ℕ → ScriptPlan → List ℕ → ℕ → Pairs → Result TakenText SavedErr
    → Type 0
TakesText script p bytes first totals (Ok (text.Done more next)) =
    IsTextTaken script p bytes first totals next more
TakesText script p bytes first totals (Ok text.Apart) = IsTextApart script p bytes first
TakesText script p bytes first totals (Ok (text.Gap group)) =
    IsTextGap script p bytes first totals group
TakesText script p bytes first totals (Err why) = IsReadTo script p bytes (Err why)

abbrev pub IfTextDone : TakenText → (Pairs → Type 0) → Type 0
IfTextDone (text.Done totals next) P = P totals
IfTextDone text.Apart P = Unit {0}
IfTextDone (text.Gap group) P = Unit {0}

-- ---- the parts of a text

-- This is so, unless memory ran out.
abbrev pub Stops : SavedErr → Type 0 → Type 0
Stops error.OtherScript P = P
Stops error.Malformed P = P
Stops error.NoMemory P = Unit {0}

-- The groups that were read are lawful, and led all totals on; or else one was a gap.
pub record AreGroupsLed (p : ScriptPlan) (first next count : ℕ) (bytes : List ℕ) (old new : Pairs)
    (rest : List ℕ) : Type 0 where
  pub groups : List (Key × Chained)
  pub read : groups_at p count [] bytes ≡ Some (groups, rest)
  pub each : All (IsLawfulGroup p first next) groups
  pub distinct : HaveDistinctKeys groups
  pub led : taken p 0 groups old ≡ taking.Done new

abbrev pub GroupsLead : ScriptPlan → ℕ → ℕ → ℕ → List ℕ → Pairs → Pairs → Option ℕ → List ℕ
    → Type 0
GroupsLead p first next count bytes old new None rest =
    AreGroupsLed p first next count bytes old new rest
GroupsLead p first next count bytes old new (Some gap) rest =
    (groups : List (Key × Chained)) (end : List ℕ)
    → groups_at p count [] bytes ≡ Some (groups, end) → taken p 0 groups old ≡ taking.Gap gap

abbrev pub LeadsGroups : {X : Type 0} → ScriptPlan → ℕ → ℕ → ℕ → List ℕ → Pairs → Pairs
    → (X → Option ℕ × List ℕ) → Result X SavedErr → Type 0
LeadsGroups p first next count bytes old new view (Ok x) =
    GroupsLead p first next count bytes old new (view x).0 (view x).1
LeadsGroups p first next count bytes old new view (Err e) =
    Stops e ((groups : List (Key × Chained)) (end : List ℕ)
    → groups_at p count [] bytes ≡ Some (groups, end)
    → All (IsLawfulGroup p first next) groups → ⊥)

-- The same of all that comes after the script.
pub record IsBodyLed (p : ScriptPlan) (bytes : List ℕ) (first : ℕ) (old new : Pairs)
    (next : ℕ) : Type 0 where
  pub saved : Saved
  pub read : body_at p bytes ≡ Some saved
  pub lawful : IsLawfulSaved p saved
  pub follows : saved.first ≡ first
  pub next_is : next ≡ saved.next
  pub led : taken p 0 saved.groups old ≡ taking.Done new

abbrev pub LeadsBody : ScriptPlan → List ℕ → ℕ → Pairs → Pairs → Result Led SavedErr → Type 0
LeadsBody p bytes first old new (Ok (led.Done next)) = IsBodyLed p bytes first old new next
LeadsBody p bytes first old new (Ok (led.Gap gap)) =
    (saved : Saved) → body_at p bytes ≡ Some saved
    → (saved.first ≡ first) × (taken p 0 saved.groups old ≡ taking.Gap gap)
LeadsBody p bytes first old new (Err e) =
    Stops e ((saved : Saved) → body_at p bytes ≡ Some saved → IsLawfulSaved p saved
    → saved.first ≢ first)

-- And of the whole text.
abbrev pub LeadsText : List ℕ → ScriptPlan → List ℕ → ℕ → Pairs → Pairs → Result Led SavedErr
    → Type 0
LeadsText script p bytes first old new (Ok (led.Done next)) =
    IsTextTaken script p bytes first old next new
LeadsText script p bytes first old new (Ok (led.Gap gap)) =
    (saved : Saved) → IsRunFile script p bytes saved
    → (saved.first ≡ first) × (taken p 0 saved.groups old ≡ taking.Gap gap)
LeadsText script p bytes first old new (Err e) =
    Stops e ((saved : Saved) → IsRunFile script p bytes saved → saved.first ≢ first)
