-- Files of saved runs in order: the totals that they come to, or their first problem. The format, the
-- causes and their order are this project's profile.
use Rattle.std.specs.Prelude.{◌≡◌, ◌≢◌, ◌⊎◌, ℕ, ◌+◌, ◌<◌, ◌≤◌, List, [], ◌∷◌, length, take, Option, Some, IfSome, Result, Ok, Err, slice_get}
use Rattle.sym_base.specs.Counts.{Rose}
use Rattle.sym_check.specs.Plan.ScriptPlans.{ScriptPlan}
use Rattle.sym_files.specs.Passing.{Counts, Holds, MayAll}
use Rattle.sym_run.specs.declared.saved.Saved.{Saved}
use Rattle.sym_file.specs.SavedTexts.{IsMalformed, IsOfOtherScript}
use Rattle.sym_file.specs.TakenTexts.{IsRunFile, Pairs}
use Rattle.sym_file.specs.Totals.{taken}
use Rattle.sym_file.specs.declared.totals.Taken.TheVariants as taking
use Rattle.sym_reduce.specs.declared.error.ReduceErr.{ReduceErr}
use Rattle.sym_reduce.specs.declared.error.ReduceErr.TheVariants as reduce_err
use Rattle.sym_reduce.specs.declared.one_file.Step.{Step}

-- The file is that of a saved run whose first record has the number `next`, and its chains lead these
-- totals on to more.
pub record IsTakenFile (script : List ℕ) (p : ScriptPlan) (next : ℕ) (totals : Pairs)
    (bytes : List ℕ) (saved : Saved) (more : Pairs) : Type 0 where
  pub file : IsRunFile script p bytes saved
  pub follows : saved.first ≡ next
  pub led : taken p 0 saved.groups totals ≡ taking.Done more

-- What is wrong with the file of the number `file`, its size aside: it is of another script, or is
-- that of no saved run; else its first record isn't the next one; else the first of its groups,
-- counted from 1, without a path for how the group stands.
pub data HasFault (script : List ℕ) (p : ScriptPlan) (next file : ℕ) (totals : Pairs)
    (bytes : List ℕ) : ReduceErr → Type 0 where
  other_script : IsOfOtherScript script bytes
      → HasFault script p next file totals bytes (reduce_err.OtherScript file)
  malformed : IsMalformed script p bytes
      → HasFault script p next file totals bytes (reduce_err.Malformed file)
  apart : (saved : Saved)
      → IsRunFile script p bytes saved
      → saved.first ≢ next
      → HasFault script p next file totals bytes (reduce_err.Apart file)
  gap : (saved : Saved) (group : ℕ)
      → IsRunFile script p bytes saved
      → saved.first ≡ next
      → taken p 0 saved.groups totals ≡ taking.Gap group
      → HasFault script p next file totals bytes (reduce_err.Gap file (group + 1))

-- The first problem of the file of the number `file`: its size, else what is wrong with it.
pub data HasRunProblem (script : List ℕ) (p : ScriptPlan) (max_bytes next file : ℕ)
    (totals : Pairs) (bytes : List ℕ) : ReduceErr → Type 0 where
  too_large : max_bytes < length bytes
      → HasRunProblem script p max_bytes next file totals bytes (reduce_err.TooLarge file)
  faulty : (why : ReduceErr)
      → length bytes ≤ max_bytes
      → HasFault script p next file totals bytes why
      → HasRunProblem script p max_bytes next file totals bytes why

-- Files without a problem, and the totals after all of them. The first record of the first file has
-- the number `next`, that of each other one follows the last of the file before it, and after all of
-- them `end` follows.
pub data AreReduced (script : List ℕ) (p : ScriptPlan) (max_bytes : ℕ)
    : ℕ → Pairs → List (List ℕ) → ℕ → Pairs → Type 0 where
  no_file : (next : ℕ) (totals : Pairs) → AreReduced script p max_bytes next totals [] next totals
  one_more : (next : ℕ) (totals : Pairs) (bytes : List ℕ) (files : List (List ℕ)) (saved : Saved)
      (more : Pairs) (end : ℕ) (all : Pairs)
      → length bytes ≤ max_bytes
      → IsTakenFile script p next totals bytes saved more
      → AreReduced script p max_bytes saved.next more files end all
      → AreReduced script p max_bytes next totals (bytes ∷ files) end all

-- A file has a problem, and those before it have none. Files are numbered from `file` on.
pub data FirstRunProblem (script : List ℕ) (p : ScriptPlan) (max_bytes : ℕ)
    : ℕ → ℕ → Pairs → List (List ℕ) → ReduceErr → Type 0 where
  here : (file next : ℕ) (totals : Pairs) (bytes : List ℕ) (files : List (List ℕ))
      (why : ReduceErr)
      → HasRunProblem script p max_bytes next file totals bytes why
      → FirstRunProblem script p max_bytes file next totals (bytes ∷ files) why
  later : (file next : ℕ) (totals : Pairs) (bytes : List ℕ) (files : List (List ℕ))
      (saved : Saved) (more : Pairs) (why : ReduceErr)
      → length bytes ≤ max_bytes
      → IsTakenFile script p next totals bytes saved more
      → FirstRunProblem script p max_bytes (file + 1) saved.next more files why
      → FirstRunProblem script p max_bytes file next totals (bytes ∷ files) why

-- The totals of files that the names may hold, the first record of which has the number 1.
pub record ReducedAll (script : List ℕ) (p : ScriptPlan) (max_bytes : ℕ) (holds : Holds)
    (names : List (List ℕ)) (totals : Pairs) : Type 0 where
  pub files : List (List ℕ)
  pub may : MayAll holds names files
  pub end : ℕ
  pub reduced : AreReduced script p max_bytes 1 [] files end totals

-- A read of the file with this number failed: a fault of its name was counted, and no file before it
-- has a problem.
pub record FailsAt (script : List ℕ) (p : ScriptPlan) (max_bytes : ℕ) (holds : Holds)
    (names : List (List ℕ)) (before after : Counts) (file : ℕ) : Type 0 where
  pub files : List (List ℕ)
  pub may : MayAll holds names files
  pub end : ℕ
  pub totals : Pairs
  pub reduced : AreReduced script p max_bytes 1 [] (take file files) end totals
  pub name : List ℕ
  pub named : slice_get names file ≡ Some name
  pub rose : Rose (before name) (after name)

-- The first problem of files that the names may hold.
pub record HasFirstRunProblem (script : List ℕ) (p : ScriptPlan) (max_bytes : ℕ) (holds : Holds)
    (names : List (List ℕ)) (why : ReduceErr) : Type 0 where
  pub files : List (List ℕ)
  pub may : MayAll holds names files
  pub problem : FirstRunProblem script p max_bytes 0 1 [] files why

-- Why files have no totals. `before` and `after` count each name's faults.
abbrev pub StopsReduce : List ℕ → ScriptPlan → ℕ → Holds → List (List ℕ) → Counts → Counts
    → ReduceErr → Type 0
StopsReduce script p max_bytes holds names before after (reduce_err.Read file) =
    FailsAt script p max_bytes holds names before after file
StopsReduce script p max_bytes holds names before after (reduce_err.TooLarge file) =
    HasFirstRunProblem script p max_bytes holds names (reduce_err.TooLarge file)
StopsReduce script p max_bytes holds names before after (reduce_err.OtherScript file) =
    HasFirstRunProblem script p max_bytes holds names (reduce_err.OtherScript file)
StopsReduce script p max_bytes holds names before after (reduce_err.Malformed file) =
    HasFirstRunProblem script p max_bytes holds names (reduce_err.Malformed file)
StopsReduce script p max_bytes holds names before after (reduce_err.Apart file) =
    HasFirstRunProblem script p max_bytes holds names (reduce_err.Apart file)
StopsReduce script p max_bytes holds names before after (reduce_err.Gap file group) =
    HasFirstRunProblem script p max_bytes holds names (reduce_err.Gap file group)
StopsReduce script p max_bytes holds names before after reduce_err.NoMemory = Unit {0}

-- Why a file wasn't read: a read failed, or the file has more than `max` bytes.
abbrev pub IsUnread : ℕ → ℕ → Option (List ℕ) → ℕ → ℕ → ReduceErr → Type 0
IsUnread max file told before after (reduce_err.Read n) = (n ≡ file) × Rose before after
IsUnread max file told before after (reduce_err.TooLarge n) =
    (n ≡ file) × IfSome told (λ bytes. max < length bytes)
IsUnread max file told before after (reduce_err.OtherScript n) = ⊥
IsUnread max file told before after (reduce_err.Malformed n) = ⊥
IsUnread max file told before after (reduce_err.Apart n) = ⊥
IsUnread max file told before after (reduce_err.Gap n group) = ⊥
IsUnread max file told before after reduce_err.NoMemory = Unit {0}

-- What taking a file comes to: the totals after it and the number of the next record, or what is
-- wrong with it, unless memory ran out.
abbrev pub TakesFile : List ℕ → ScriptPlan → ℕ → ℕ → Pairs → List ℕ → Result Step ReduceErr
    → Type 0
TakesFile script p next file totals bytes (Ok step) =
    (saved : Saved) × IsTakenFile script p next totals bytes saved step.totals
    × (step.next ≡ saved.next)
TakesFile script p next file totals bytes (Err why) =
    (why ≡ reduce_err.NoMemory) ⊎ HasFault script p next file totals bytes why
