-- Files of saved runs whose records follow each other, joined to one saved run, or their first
-- problem. The format, the causes and their order are this project's profile.
use Rattle.std.specs.Prelude.{◌≡◌, ◌≢◌, ◌⊎◌, ℕ, ◌+◌, ◌<◌, ◌≤◌, List, [], ◌∷◌, length, take, Option, None, Some, Result, Ok, Err, slice_get}
use Rattle.std.specs.List.{All, AllZip, flat_map}
use Rattle.sym_base.specs.Counts.{Rose}
use Rattle.sym_base.specs.declared.values.record.Record.{Record}
use Rattle.sym_check.specs.Plan.ScriptPlans.{ScriptPlan}
use Rattle.sym_files.specs.Passing.{Counts, Holds, MayAll}
use Rattle.sym_run.specs.ClosedJoins.{IsJoinable, IsSavedJoin}
use Rattle.sym_run.specs.Runs.{AreTight}
use Rattle.sym_run.specs.SavedRuns.{IsLawfulSaved, SavedStandsFor}
use Rattle.sym_run.specs.declared.saved.Saved.{Saved}
use Rattle.sym_file.specs.SavedTexts.{IsMalformed, IsOfOtherScript}
use Rattle.sym_file.specs.TakenTexts.{IsRunFile}
use Rattle.sym_reduce.specs.Reducing.{IsUnread}
use Rattle.sym_reduce.specs.declared.error.ReduceErr.{ReduceErr}
use Rattle.sym_reduce.specs.declared.error.ReduceErr.TheVariants as reduce_err

-- ---- the saved runs of files
-- Files without a problem, and their saved runs. The first record of the first file has the number
-- `next`, that of each other one follows the last of the file before it, and after all of them
-- `end` follows.
pub data AreFollowing (script : List ℕ) (p : ScriptPlan) (max_bytes : ℕ)
    : ℕ → List (List ℕ) → List Saved → ℕ → Type 0 where
  no_file : (next : ℕ) → AreFollowing script p max_bytes next [] [] next
  one_more : (next : ℕ) (bytes : List ℕ) (files : List (List ℕ)) (saved : Saved)
      (runs : List Saved) (end : ℕ)
      → length bytes ≤ max_bytes
      → IsRunFile script p bytes saved
      → saved.first ≡ next
      → AreFollowing script p max_bytes saved.next files runs end
      → AreFollowing script p max_bytes next (bytes ∷ files) (saved ∷ runs) end

-- What is wrong with the file of the number `file`, its size aside: it is of another script, or is
-- that of no saved run; else its first record isn't the next one.
pub data HasRunFault (script : List ℕ) (p : ScriptPlan) (next file : ℕ) (bytes : List ℕ)
    : ReduceErr → Type 0 where
  other_script : IsOfOtherScript script bytes
      → HasRunFault script p next file bytes (reduce_err.OtherScript file)
  malformed : IsMalformed script p bytes
      → HasRunFault script p next file bytes (reduce_err.Malformed file)
  apart : (saved : Saved)
      → IsRunFile script p bytes saved
      → saved.first ≢ next
      → HasRunFault script p next file bytes (reduce_err.Apart file)

-- A file has a problem, its size or else what is wrong with it, and those before it have none.
-- Files are numbered from `file` on.
pub data FirstFileProblem (script : List ℕ) (p : ScriptPlan) (max_bytes : ℕ)
    : ℕ → ℕ → List (List ℕ) → ReduceErr → Type 0 where
  too_large : (file next : ℕ) (bytes : List ℕ) (files : List (List ℕ))
      → max_bytes < length bytes
      → FirstFileProblem script p max_bytes file next (bytes ∷ files) (reduce_err.TooLarge file)
  faulty : (file next : ℕ) (bytes : List ℕ) (files : List (List ℕ)) (why : ReduceErr)
      → length bytes ≤ max_bytes
      → HasRunFault script p next file bytes why
      → FirstFileProblem script p max_bytes file next (bytes ∷ files) why
  later : (file next : ℕ) (bytes : List ℕ) (files : List (List ℕ)) (saved : Saved)
      (why : ReduceErr)
      → length bytes ≤ max_bytes
      → IsRunFile script p bytes saved
      → saved.first ≡ next
      → FirstFileProblem script p max_bytes (file + 1) saved.next files why
      → FirstFileProblem script p max_bytes file next (bytes ∷ files) why

-- The first of the files, where it is that of a saved run and isn't too large, begins at this number.
-- So a file that comes first may begin at any.
abbrev pub Begins : List ℕ → ScriptPlan → ℕ → List (List ℕ) → ℕ → Type 0
Begins script p max_bytes [] next = Unit {0}
Begins script p max_bytes (bytes ∷ files) next =
    (saved : Saved) → length bytes ≤ max_bytes → IsRunFile script p bytes saved → saved.first ≡ next

-- Files that can be joined, and their saved runs.
pub record AreRunFiles (script : List ℕ) (p : ScriptPlan) (max_bytes : ℕ)
    (files : List (List ℕ)) (runs : List Saved) : Type 0 where
  pub first : ℕ
  pub end : ℕ
  pub follow : AreFollowing script p max_bytes first files runs end

-- Files that can't be joined, and their first problem.
pub record FirstJoinProblem (script : List ℕ) (p : ScriptPlan) (max_bytes : ℕ)
    (files : List (List ℕ)) (why : ReduceErr) : Type 0 where
  pub first : ℕ
  pub begins : Begins script p max_bytes files first
  pub problem : FirstFileProblem script p max_bytes 0 first files why

-- ---- several saved runs in one
-- Each saved run stands for the records of a part.
abbrev pub StandForParts : ScriptPlan → List (List Record) → List Saved → Type 0
StandForParts p parts runs = AllZip (SavedStandsFor p) parts runs

-- The number of the first record of the first saved run.
abbrev pub IsFirstOf : List Saved → ℕ → Type 0
IsFirstOf [] first = Unit {0}
IsFirstOf (run ∷ runs) first = first ≡ run.first

-- The number after the last record of the last saved run.
abbrev pub IsNextOf : List Saved → ℕ → Type 0
IsNextOf [] next = Unit {0}
IsNextOf (run ∷ []) next = next ≡ run.next
IsNextOf (run ∷ other ∷ runs) next = IsNextOf (other ∷ runs) next

-- Where there is one saved run alone, this is it.
abbrev pub IsOnlyOf : List Saved → Saved → Type 0
IsOnlyOf [] joined = Unit {0}
IsOnlyOf (run ∷ []) joined = joined ≡ run
IsOnlyOf (run ∷ other ∷ runs) joined = Unit {0}

-- Saved runs in one, which begins where the first one begins and ends where the last one ends.
-- Where each stands for the records of its part, whatever these are, it stands for the records of
-- all parts, in order, is lawful, and is tight for the limit if all are.
pub record IsJoinOf (p : ScriptPlan) (limit : ℕ) (runs : List Saved) (joined : Saved)
    : Type 0 where
  pub first : IsFirstOf runs joined.first
  pub next : IsNextOf runs joined.next
  pub only : IsOnlyOf runs joined
  pub stands : (parts : List (List Record)) → StandForParts p parts runs →
      SavedStandsFor p (flat_map (λ (part : List Record). part) parts) joined
  pub lawful : (parts : List (List Record)) → StandForParts p parts runs → IsLawfulSaved p joined
  pub tight : (parts : List (List Record)) → StandForParts p parts runs →
      All (λ (run : Saved). AreTight p limit run.groups) runs → AreTight p limit joined.groups

-- ---- files that names may hold
-- The join of the saved runs of files that the names may hold.
pub record JoinedAll (script : List ℕ) (p : ScriptPlan) (max_bytes limit : ℕ) (holds : Holds)
    (names : List (List ℕ)) (joined : Saved) : Type 0 where
  pub files : List (List ℕ)
  pub may : MayAll holds names files
  pub runs : List Saved
  pub are : AreRunFiles script p max_bytes files runs
  pub joins : IsJoinOf p limit runs joined

-- A read of the file with this number failed: a fault of its name was counted, and the files before
-- it can be joined.
pub record JoinFailsAt (script : List ℕ) (p : ScriptPlan) (max_bytes : ℕ) (holds : Holds)
    (names : List (List ℕ)) (before after : Counts) (file : ℕ) : Type 0 where
  pub files : List (List ℕ)
  pub may : MayAll holds names files
  pub runs : List Saved
  pub are : AreRunFiles script p max_bytes (take file files) runs
  pub name : List ℕ
  pub named : slice_get names file ≡ Some name
  pub rose : Rose (before name) (after name)

-- The first problem of files that the names may hold.
pub record HasJoinProblem (script : List ℕ) (p : ScriptPlan) (max_bytes : ℕ) (holds : Holds)
    (names : List (List ℕ)) (why : ReduceErr) : Type 0 where
  pub files : List (List ℕ)
  pub may : MayAll holds names files
  pub problem : FirstJoinProblem script p max_bytes files why

-- Why files aren't joined. `before` and `after` count each name's faults.
abbrev pub StopsJoin : List ℕ → ScriptPlan → ℕ → Holds → List (List ℕ) → Counts → Counts
    → ReduceErr → Type 0
StopsJoin script p max_bytes holds names before after (reduce_err.Read file) =
    JoinFailsAt script p max_bytes holds names before after file
StopsJoin script p max_bytes holds names before after (reduce_err.TooLarge file) =
    HasJoinProblem script p max_bytes holds names (reduce_err.TooLarge file)
StopsJoin script p max_bytes holds names before after (reduce_err.OtherScript file) =
    HasJoinProblem script p max_bytes holds names (reduce_err.OtherScript file)
StopsJoin script p max_bytes holds names before after (reduce_err.Malformed file) =
    HasJoinProblem script p max_bytes holds names (reduce_err.Malformed file)
StopsJoin script p max_bytes holds names before after (reduce_err.Apart file) =
    HasJoinProblem script p max_bytes holds names (reduce_err.Apart file)
StopsJoin script p max_bytes holds names before after (reduce_err.Gap file group) = ⊥
StopsJoin script p max_bytes holds names before after reduce_err.NoMemory = Unit {0}

-- ---- steps
-- The number at which a file has to begin, where there is one before it.
abbrev pub Follows : Option ℕ → ℕ → Type 0
Follows None first = Unit {0}
Follows (Some next) first = first ≡ next

-- What is wrong with a file that has to begin there; with the first one, wherever it should begin.
abbrev pub HasFaultAfter : List ℕ → ScriptPlan → Option ℕ → ℕ → List ℕ → ReduceErr → Type 0
HasFaultAfter script p None file bytes why = (next : ℕ) → HasRunFault script p next file bytes why
HasFaultAfter script p (Some next) file bytes why = HasRunFault script p next file bytes why

-- The number after the last record of the saved run of those before, where there is one.
abbrev pub next_of : Option Saved → Option ℕ
next_of None = None
next_of (Some saved) = Some saved.next

-- The saved run of those before can be joined, where there is one.
abbrev pub CanGoOn : ScriptPlan → Option Saved → Type 0
CanGoOn p None = Unit {0}
CanGoOn p (Some saved) = IsJoinable p saved

-- The saved run of those before and of one more.
abbrev pub JoinsNext : ScriptPlan → ℕ → Option Saved → Saved → Saved → Type 0
JoinsNext p limit None saved joined = joined ≡ saved
JoinsNext p limit (Some before) saved joined = IsSavedJoin p limit before saved joined

-- The saved run of those before, where there is one, and of a file that begins where it has to.
pub record IsFileJoined (script : List ℕ) (p : ScriptPlan) (limit : ℕ) (before : Option Saved)
    (bytes : List ℕ) (joined : Saved) : Type 0 where
  pub saved : Saved
  pub is : IsRunFile script p bytes saved
  pub follows : Follows (next_of before) saved.first
  pub joins : JoinsNext p limit before saved joined

-- What joining a file comes to, or what is wrong with it, unless memory ran out.
abbrev pub JoinsFile : List ℕ → ScriptPlan → ℕ → Option Saved → ℕ → List ℕ
    → Result Saved ReduceErr → Type 0
JoinsFile script p limit before file bytes (Ok joined) =
    IsFileJoined script p limit before bytes joined
JoinsFile script p limit before file bytes (Err why) =
    (why ≡ reduce_err.NoMemory) ⊎ HasFaultAfter script p (next_of before) file bytes why

-- The saved run of the files so far in one, where there are some.
abbrev pub SoFar : List ℕ → ScriptPlan → ℕ → ℕ → List (List ℕ) → List Saved → Option Saved → Type 0
SoFar script p max_bytes limit files runs None = (files ≡ []) × (runs ≡ [])
SoFar script p max_bytes limit files runs (Some joined) =
    (bytes : List ℕ) × (more : List (List ℕ)) × (run : Saved) × (others : List Saved) × (first : ℕ)
    × (files ≡ bytes ∷ more) × (runs ≡ run ∷ others)
    × AreFollowing script p max_bytes first files runs joined.next × IsJoinOf p limit runs joined

-- The saved runs of these files are joined.
pub record AreFilesJoined (script : List ℕ) (p : ScriptPlan) (max_bytes limit : ℕ)
    (files : List (List ℕ)) (joined : Option Saved) : Type 0 where
  pub runs : List Saved
  pub far : SoFar script p max_bytes limit files runs joined

-- The saved runs of so many files are joined, which the names may hold.
pub record IsJoining (script : List ℕ) (p : ScriptPlan) (max_bytes limit : ℕ) (holds : Holds)
    (names : List (List ℕ)) (count : ℕ) (joined : Option Saved) : Type 0 where
  pub told : List (List ℕ)
  pub may : MayAll holds (take count names) told
  pub runs : List Saved
  pub far : SoFar script p max_bytes limit told runs joined

-- The files before this one are joined, and it has a fault after them.
pub record IsFaultyAt (script : List ℕ) (p : ScriptPlan) (max_bytes limit : ℕ)
    (files : List (List ℕ)) (file : ℕ) (why : ReduceErr) : Type 0 where
  pub joined : Option Saved
  pub before : AreFilesJoined script p max_bytes limit (take file files) joined
  pub bytes : List ℕ
  pub here : slice_get files file ≡ Some bytes
  pub fault : HasFaultAfter script p (next_of joined) file bytes why

-- Why the saved runs of files aren't joined: one of them has a fault, unless memory ran out.
abbrev pub StopsFiles : List ℕ → ScriptPlan → ℕ → ℕ → List (List ℕ) → ReduceErr → Type 0
StopsFiles script p max_bytes limit files why =
    (why ≡ reduce_err.NoMemory)
    ⊎ ((file : ℕ) × IsFaultyAt script p max_bytes limit files file why)

-- The file of the name with this number wasn't read. `before` and `after` count each name's faults.
pub record IsUnreadAt (max_bytes : ℕ) (holds : Holds) (names : List (List ℕ))
    (before after : Counts) (file : ℕ) (why : ReduceErr) : Type 0 where
  pub name : List ℕ
  pub named : slice_get names file ≡ Some name
  pub unread : IsUnread max_bytes file (holds name) (before name) (after name) why
