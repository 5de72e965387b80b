-- What a pass over named files comes to. A store may tell what a file holds or not.
use Rattle.std.specs.Prelude.{◌≡◌, ℕ, ◌+◌, List, length, take, Option, Some, None, slice_get}
use Rattle.std.specs.List.{AllZip}
use Rattle.sym_base.specs.Counts.{Rose}
use Rattle.sym_base.specs.declared.values.record.Record.{Record}
use Rattle.sym_check.specs.Plan.ScriptPlans.{ScriptPlan}
use Rattle.sym_files.specs.declared.error.PassErr.{PassErr}
use Rattle.sym_files.specs.declared.error.PassErr.TheVariants as pass_err
use Rattle.sym_files.specs.FileRecords.{FileRules}
use Rattle.sym_files.specs.FirstProblems.{AllFine, FirstProblem}
use Rattle.sym_files.specs.Rounds.{Extends}

-- The bytes of the file of each name, where a store tells them.
abbrev pub Holds : Type 0
Holds = List ℕ → Option (List ℕ)

-- A count for each name.
abbrev pub Counts : Type 0
Counts = List ℕ → ℕ

-- The bytes that a file may hold: those that the store tells, where it tells them; else any.
abbrev pub May : Option (List ℕ) → List ℕ → Type 0
May None bytes = Unit {0}
May (Some told) bytes = bytes ≡ told

-- The bytes that the files of these names may hold, name by name.
abbrev pub MayAll : Holds → List (List ℕ) → List (List ℕ) → Type 0
MayAll holds names files = AllZip (λ name bytes. May (holds name) bytes) names files

-- There are files that the names may hold, all of them without a problem, and their records,
-- numbered from `first` on, are so.
pub record AllRead (p : ScriptPlan) (rules : FileRules) (holds : Holds)
    (names : List (List ℕ)) (first : ℕ) (AreSo : List Record → Type 0) : Type 0 where
  pub files : List (List ℕ)
  pub may : MayAll holds names files
  pub records : List Record
  pub fine : AllFine p rules first files records
  pub stands : AreSo records

-- What stood for records before stands for these and then those of the files, after which the
-- number `next` follows.
abbrev pub TakenAll : {S : Type 0} → (S → List Record → Type 0) → ScriptPlan → FileRules → Holds
    → List (List ℕ) → ℕ → S → S → ℕ → Type 0
TakenAll stands p rules holds names first old new next =
    AllRead p rules holds names first
    (λ records. (next ≡ first + length records) × Extends stands old new records)

-- A read of the file with this number failed: a fault of its name was counted, and no file before
-- it has a problem.
pub record FailsAt (p : ScriptPlan) (rules : FileRules) (holds : Holds)
    (names : List (List ℕ)) (first : ℕ) (before after : Counts) (file : ℕ) : Type 0 where
  pub files : List (List ℕ)
  pub may : MayAll holds names files
  pub records : List Record
  pub fine : AllFine p rules first (take file files) records
  pub name : List ℕ
  pub named : slice_get names file ≡ Some name
  pub rose : Rose (before name) (after name)

-- The first problem of files that the names may hold.
pub record HasFirstProblem (p : ScriptPlan) (rules : FileRules) (holds : Holds)
    (names : List (List ℕ)) (first : ℕ) (why : PassErr) : Type 0 where
  pub files : List (List ℕ)
  pub may : MayAll holds names files
  pub problem : FirstProblem p rules 0 first files why

-- Why files aren't taken, whose records are numbered from `first` on. `before` and `after` count
-- each name's faults.
abbrev pub StopsFrom : ℕ → ScriptPlan → FileRules → Holds → List (List ℕ) → Counts → Counts
    → PassErr → Type 0
StopsFrom first p rules holds names before after (pass_err.Read file) =
    FailsAt p rules holds names first before after file
StopsFrom first p rules holds names before after (pass_err.TooLarge file) =
    HasFirstProblem p rules holds names first (pass_err.TooLarge file)
StopsFrom first p rules holds names before after (pass_err.Head file fault) =
    HasFirstProblem p rules holds names first (pass_err.Head file fault)
StopsFrom first p rules holds names before after (pass_err.Bad file bad) =
    HasFirstProblem p rules holds names first (pass_err.Bad file bad)
StopsFrom first p rules holds names before after pass_err.NoMemory = Unit {0}

-- Why a pass gives no groups.
abbrev pub StopsPass : ScriptPlan → FileRules → Holds → List (List ℕ) → Counts → Counts
    → PassErr → Type 0
StopsPass p rules holds names before after why = StopsFrom 1 p rules holds names before after why
