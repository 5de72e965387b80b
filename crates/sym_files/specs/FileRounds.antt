-- The rounds of files, and those of them that were done.
use Rattle.std.specs.Prelude.{◌≡◌, ◌≤◌, ◌<◌, ℕ, ◌+◌, List, [], ◌∷◌, ◌++◌, length, take, slice_get, Some, ◌⊎◌}
use Rattle.std.specs.List.{All, flat_map}
use Rattle.sym_base.specs.declared.values.record.Record.{Record}
use Rattle.sym_check.specs.Plan.ScriptPlans.{ScriptPlan}
use Rattle.sym_table.specs.declared.header.Header.{Header}
use Rattle.sym_table.specs.Reading.{Row}
use Rattle.sym_table.specs.RowRecords.{HaveRecords}
use Rattle.sym_files.specs.declared.error.PassErr.{PassErr}
use Rattle.sym_files.specs.declared.error.PassErr.TheVariants as pass_err
use Rattle.sym_files.specs.FileRecords.{FileRules, IsFine, IsHeader, rows_by}
use Rattle.sym_files.specs.Passing.{Holds, May, MayAll}
use Rattle.sym_files.specs.Taking.{full_round}

-- The records of rounds, in order.
abbrev pub rounds_records : List (List Record) → List Record
rounds_records rounds = flat_map (λ (round : List Record). round) rounds

-- Rounds that have `per` records each.
abbrev pub AreFull : ℕ → List (List Record) → Type 0
AreFull per rounds = All (λ (round : List Record). length round ≡ per) rounds

-- The rounds of a file: each has `per` records, but the last one may have fewer; none is empty.
pub data AreRounds (per : ℕ) : List (List Record) → Type 0 where
  no_round : AreRounds per []
  last_one : (round : List Record) → 1 ≤ length round → length round ≤ per
      → AreRounds per (round ∷ [])
  one_more : (round : List Record) (rounds : List (List Record)) → length round ≡ per
      → AreRounds per rounds → AreRounds per (round ∷ rounds)

-- Rounds that were done of a file, by what is left of it: full ones, or all of its rounds where
-- nothing is left.
abbrev pub AreDone : {A : Type 0} → ℕ → List (List Record) → List A → Type 0
AreDone per rounds left = AreFull per rounds ⊎ (AreRounds per rounds × (left ≡ []))

-- Files without a problem and the rounds of all of them, whose records' numbers run on from
-- `first`. No round has records of two files.
pub data AreFilesRounds (p : ScriptPlan) (rules : FileRules) (per : ℕ)
    : ℕ → List (List ℕ) → List (List Record) → Type 0 where
  no_file : (first : ℕ) → AreFilesRounds p rules per first [] []
  one_more : (first : ℕ) (bytes : List ℕ) (files : List (List ℕ))
      (rounds others : List (List Record))
      → IsFine p rules first bytes (rounds_records rounds)
      → AreRounds per rounds
      → AreFilesRounds p rules per (first + length (rounds_records rounds)) files others
      → AreFilesRounds p rules per first (bytes ∷ files) (rounds ++ others)

-- The first of these rows is a header, and the next ones are these records, numbered from `first`
-- on.
pub record FileBegins (p : ScriptPlan) (first : ℕ) (rows : List Row) (records : List Record)
    : Type 0 where
  pub row : Row
  pub header : Header
  pub taken : List Row
  pub rest : List Row
  pub reads : rows ≡ row ∷ (taken ++ rest)
  pub is_header : IsHeader p row header
  pub have : HaveRecords p header first taken records

-- A full round, whose first record has the number `first`, would hold the one with this number.
pub record IsWithin (first per number : ℕ) : Type 0 where
  pub low : first ≤ number
  pub high : number < first + per

-- Named files whose rounds are taken: the script's plan, how files are read, how many records a full
-- round has, what the files hold, and the number of the first record.
pub record NamedFiles : Type 0 where
  pub plan : ScriptPlan
  pub rules : FileRules
  pub per : ℕ
  pub holds : Holds
  pub names : List (List ℕ)
  pub first : ℕ

abbrev pub named_files : ScriptPlan → FileRules → ℕ → Holds → List (List ℕ) → ℕ → NamedFiles
named_files p rules chunk holds names first = record {
  plan = p;
  rules = rules;
  per = full_round chunk;
  holds = holds;
  names = names;
  first = first;
}

-- These are all rounds of the first `file` files, which have no problem.
pub record DoneFiles (w : NamedFiles) (file : ℕ) (rounds : List (List Record)) : Type 0 where
  pub files : List (List ℕ)
  pub may : MayAll w.holds (take file w.names) files
  pub are : AreFilesRounds w.plan w.rules w.per w.first files rounds

-- These are the first rounds of the file with the number `file`, which isn't too large. Its first
-- record has the number `first`.
pub record FirstRounds (w : NamedFiles) (file first : ℕ) (rounds : List (List Record))
    : Type 0 where
  pub name : List ℕ
  pub named : slice_get w.names file ≡ Some name
  pub bytes : List ℕ
  pub may : May (w.holds name) bytes
  pub small : length bytes ≤ w.rules.max_bytes
  pub begins : FileBegins w.plan first (rows_by w.rules bytes) (rounds_records rounds)

-- These are the rounds that were done of that file.
pub record DoneRounds (w : NamedFiles) (file first : ℕ) (rounds : List (List Record))
    : Type 0 where
  pub begins : FirstRounds w file first rounds
  pub done : AreDone w.per rounds begins.begins.rest

-- All rounds of the first `file` files are so.
pub record OfFiles (w : NamedFiles) (file : ℕ) (So : List (List Record) → Type 0) : Type 0 where
  pub rounds : List (List Record)
  pub done : DoneFiles w file rounds
  pub so : So rounds

-- All rounds of the files before this one, and then those of this file before the one that holds the
-- record with this number, are so.
pub record OfBefore (w : NamedFiles) (file number : ℕ) (So : List (List Record) → Type 0)
    : Type 0 where
  pub rounds : List (List Record)
  pub done : DoneFiles w file rounds
  pub others : List (List Record)
  pub full : AreFull w.per others
  pub begins : FirstRounds w file (w.first + length (rounds_records rounds)) others
  pub within : IsWithin (w.first + length (rounds_records (rounds ++ others))) w.per number
  pub so : So (rounds ++ others)

-- Some rounds that were done, all of the files before one and then those of that file, are so.
pub record OfSome (w : NamedFiles) (So : List (List Record) → Type 0) : Type 0 where
  pub file : ℕ
  pub rounds : List (List Record)
  pub done : DoneFiles w file rounds
  pub others : List (List Record)
  pub begins :
      (others ≡ []) ⊎ DoneRounds w file (w.first + length (rounds_records rounds)) others
  pub so : So (rounds ++ others)

-- The rounds that were done where files weren't taken, by why they weren't: those of all files
-- before, and of a file with a row that is no record those before that row. Where an allocation
-- failed, they are some rounds.
abbrev pub UntilStop : (w : NamedFiles) → (AtFile AtBad AtRefusal : List (List Record) → Type 0)
    → PassErr → Type 0
UntilStop w AtFile AtBad AtRefusal (pass_err.Read file) = OfFiles w file AtFile
UntilStop w AtFile AtBad AtRefusal (pass_err.TooLarge file) = OfFiles w file AtFile
UntilStop w AtFile AtBad AtRefusal (pass_err.Head file fault) = OfFiles w file AtFile
UntilStop w AtFile AtBad AtRefusal (pass_err.Bad file bad) = OfBefore w file bad.no AtBad
UntilStop w AtFile AtBad AtRefusal pass_err.NoMemory = OfSome w AtRefusal
