-- What is told of rounds, by whatever takes them.
use Rattle.std.specs.Prelude.{◌≡◌, ℕ, ◌+◌, List, [], ◌∷◌, ◌++◌, length, map, ◌⊎◌, Result, Ok, Err}
use Rattle.sym_base.specs.declared.values.memory.NoMemory.{NoMemory}
use Rattle.sym_base.specs.declared.values.record.Record.{Record}
use Rattle.sym_check.specs.Plan.ScriptPlans.{ScriptPlan}
use Rattle.sym_table.specs.declared.bad.Bad.{Bad}
use Rattle.sym_table.specs.declared.header.Header.{Header}
use Rattle.sym_table.specs.Reading.{Row}
use Rattle.sym_table.specs.RowRecords.{records_or_bad}
use Rattle.sym_files.specs.declared.error.PassErr.{PassErr}
use Rattle.sym_files.specs.declared.error.PassErr.TheVariants as pass_err
use Rattle.sym_files.specs.declared.rounds.Took.{Took}
use Rattle.sym_files.specs.declared.rounds.Took.TheVariants as took
use Rattle.sym_files.specs.FileRecords.{row_records}
use Rattle.sym_files.specs.FileRounds.{AreDone, AreFull, AreRounds, FileBegins, IsWithin, rounds_records}

-- Where a value that takes rounds stands: between two rounds, at a row that is no record, or where
-- an allocation failed.
pub data Point : Type 0 where
  between : Point
  at_bad : Point
  at_refusal : Point

-- What a value has told of rounds, by where it stands.
abbrev pub Tells : Type 0 → Type 1
Tells S = S → Point → List (List Record) → Type 0

-- What a value has told of rounds since it was an earlier one, by a script.
abbrev pub tells_by : {S : Type 0}
    → (S → S → ScriptPlan → Point → List (List Record) → Type 0) → ScriptPlan → S → Tells S
tells_by told p start x point rounds = told start x p point rounds

-- What a value has told after a round, by what its rows are read as, after other rounds.
abbrev pub HasTold : {S : Type 0} → Tells S → Result (List Record) Bad → List (List Record) → S
    → Result Took NoMemory → Type 0
HasTold told read rounds new (Ok took.Done) =
    (records : List Record) → read ≡ Ok records → told new between (rounds ++ records ∷ [])
HasTold told read rounds new (Ok (took.Bad bad)) = told new at_bad rounds
HasTold told read rounds new (Err e) = told new at_refusal rounds

-- What a round comes to, by what its rows are read as, after other rounds. Where an allocation
-- failed, its records may be taken or not.
abbrev pub TellsRound : {S : Type 0} → Tells S → Result (List Record) Bad → List (List Record) → S
    → Result Took NoMemory → Type 0
TellsRound told read rounds new (Ok took.Done) =
    (records : List Record) × (read ≡ Ok records) × told new between (rounds ++ records ∷ [])
TellsRound told read rounds new (Ok (took.Bad bad)) = (read ≡ Err bad) × told new at_bad rounds
TellsRound told read rounds new (Err e) =
    told new at_refusal rounds
    ⊎ ((records : List Record) × (read ≡ Ok records) × told new between (rounds ++ records ∷ []))

-- The first of some rows are the records of rounds.
pub record BeginWith (p : ScriptPlan) (header : Header) (shown : Row → Row) (first : ℕ)
    (rows : List Row) (rounds : List (List Record)) : Type 0 where
  pub taken : List Row
  pub rest : List Row
  pub are : rows ≡ taken ++ rest
  pub read : records_or_bad p header first (map shown taken) ≡ Ok (rounds_records rounds)

-- The first of some rows are the records of the rounds that were done.
pub record DoneWith (p : ScriptPlan) (header : Header) (shown : Row → Row) (per first : ℕ)
    (rows : List Row) (rounds : List (List Record)) : Type 0 where
  pub begin : BeginWith p header shown first rows rounds
  pub done : AreDone per rounds begin.rest

-- The rows of a file are rounds, which are told of.
pub record TellsAllRows {S : Type 0} (told : Tells S) (per : ℕ)
    (read : Result (List Record) Bad) (before : List (List Record)) (new : S) : Type 0 where
  pub rounds : List (List Record)
  pub are : AreRounds per rounds
  pub read_as : read ≡ Ok (rounds_records rounds)
  pub told_of : told new between (before ++ rounds)

-- A row of a file is no record, and the rounds before it are told of.
pub record TellsBefore {S : Type 0} (told : Tells S) (per first : ℕ)
    (Begins : List (List Record) → Type 0) (number : ℕ) (before : List (List Record)) (new : S)
    : Type 0 where
  pub rounds : List (List Record)
  pub full : AreFull per rounds
  pub begins : Begins rounds
  pub within : IsWithin (first + length (rounds_records rounds)) per number
  pub told_of : told new at_bad (before ++ rounds)

-- An allocation failed, and so some rounds of a file are told of.
pub record TellsSome {S : Type 0} (told : Tells S) (Begins : List (List Record) → Type 0)
    (before : List (List Record)) (new : S) : Type 0 where
  pub rounds : List (List Record)
  pub begins : Begins rounds
  pub point : Point
  pub told_of : told new point (before ++ rounds)

-- What the rows of a file come to, after other rounds.
abbrev pub TellsRows : {S : Type 0} → Tells S → ScriptPlan → Header → (Row → Row) → ℕ → ℕ
    → List Row → List (List Record) → S → Result Took NoMemory → Type 0
TellsRows told p header shown per first rows before new (Ok took.Done) =
    TellsAllRows told per (records_or_bad p header first (map shown rows)) before new
TellsRows told p header shown per first rows before new (Ok (took.Bad bad)) =
    TellsBefore told per first (BeginWith p header shown first rows) bad.no before new
TellsRows told p header shown per first rows before new (Err e) =
    TellsSome told (DoneWith p header shown per first rows) before new

-- The file's rows are rounds, which are told of.
pub record TellsAllFile {S : Type 0} (told : Tells S) (per : ℕ)
    (read : Result (List Record) PassErr) (before : List (List Record)) (new : S) : Type 0 where
  pub rounds : List (List Record)
  pub are : AreRounds per rounds
  pub read_as : read ≡ Ok (rounds_records rounds)
  pub told_of : told new between (before ++ rounds)

-- The rows of a file begin with the rounds that were done.
pub record DoneOf (p : ScriptPlan) (per first : ℕ) (rows : List Row) (rounds : List (List Record))
    : Type 0 where
  pub begins : FileBegins p first rows (rounds_records rounds)
  pub done : AreDone per rounds begins.rest

-- The same, or no round was done.
abbrev pub MayBegin : ScriptPlan → ℕ → ℕ → List Row → List (List Record) → Type 0
MayBegin p per first rows rounds = (rounds ≡ []) ⊎ DoneOf p per first rows rounds

-- What a file with these rows comes to, after other rounds.
abbrev pub TellsFile : {S A : Type 0} → Tells S → ScriptPlan → ℕ → ℕ → ℕ → List Row
    → List (List Record) → S → Result A PassErr → Type 0
TellsFile told p per file first rows before new (Ok x) =
    TellsAllFile told per (row_records p file first rows) before new
TellsFile told p per file first rows before new (Err (pass_err.Read n)) = ⊥
TellsFile told p per file first rows before new (Err (pass_err.TooLarge n)) = ⊥
TellsFile told p per file first rows before new (Err (pass_err.Head n fault)) =
    (n ≡ file) × told new between before
TellsFile told p per file first rows before new (Err (pass_err.Bad n bad)) =
    (n ≡ file)
    × TellsBefore told per first (λ rounds. FileBegins p first rows (rounds_records rounds)) bad.no
    before new
TellsFile told p per file first rows before new (Err pass_err.NoMemory) =
    TellsSome told (MayBegin p per first rows) before new

-- Some rounds are told of, wherever the value stands.
abbrev pub TellsAnywhere : {S : Type 0} → Tells S → S → List (List Record) → Type 0
TellsAnywhere told new rounds = (point : Point) × told new point rounds
