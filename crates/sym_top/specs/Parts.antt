-- Parts of the files of a run, each of which is summarised apart, and which may be joined.
use Rattle.std.specs.Prelude.{◌≡◌, ℕ, ◌+◌, ◌≤◌, List, [], ◌∷◌, ◌++◌, length, Some}
use Rattle.std.specs.List.{All, AllZip}
use Rattle.sym_base.specs.declared.values.record.Record.{Record}
use Rattle.sym_check.specs.Meaning.Validity.{IsRecord}
use Rattle.sym_files.specs.FirstProblems.{AllFine}
use Rattle.sym_parse.specs.Printed.{script_text}
use Rattle.sym_file.specs.TakenTexts.{IsRunFile}
use Rattle.sym_run.specs.SavedRuns.{SavedStandsFor}
use Rattle.sym_run.specs.declared.saved.Saved.{Saved}
use Rattle.sym_table.specs.Reading.{Row}
use Rattle.sym_command.specs.Commands.{Asked, Join, Joins, Map, Maps, Reduce, Reduces, Run, Runs, command_of, file_rules, texts_of}
use Rattle.sym_message.specs.declared.status.Status.TheVariants as status
use Rattle.sym_top.specs.Ends.{Held}
use Rattle.sym_top.specs.Programs.{Program, IsProgram}
use Rattle.sym_top.specs.Promises.{HasReport}

-- A call of `map` with this script over these files, whose records are numbered from `first` on,
-- wrote this text.
pub record IsPart (program : Program) (shown : Row → Row) (first : ℕ) (files : List (List ℕ))
    (records : List Record) (text : List ℕ) : Type 0 where
  pub asked : Asked
  pub held : Held
  pub part : Map
  pub asks : command_of asked ≡ Some (Maps part)
  pub likewise : asked.shown ≡ shown
  pub is_program : IsProgram held.script program
  pub first_is : part.first ≡ first
  pub files_are : held.files ≡ files
  pub fine : AllFine program.plan (file_rules asked (Maps part)) first files records
  pub wrote : HasReport asked held status.Done text

-- The files are cut, in order, into consecutive parts, and these are the texts of the parts.
pub data AreParts (program : Program) (shown : Row → Row)
    : ℕ → List (List ℕ) → List (List ℕ) → Type 0 where
  no_part : (first : ℕ) → AreParts program shown first [] []
  one_more : (first : ℕ) (files others texts : List (List ℕ)) (records : List Record)
      (text : List ℕ)
      → IsPart program shown first files records text
      → AreParts program shown (first + length records) others texts
      → AreParts program shown first (files ++ others) (text ∷ texts)

-- A call of `run` over files, and one of `reduce` over the texts of their parts, with the same script
-- and the same form. Each text is within the size that `reduce` allows.
pub record IsReportedApart (whole : Asked) (held : Held) (apart : Asked) (runs : Held)
    : Type 0 where
  pub program : Program
  pub run : Run
  pub reduce : Reduce
  pub asks_run : command_of whole ≡ Some (Runs run)
  pub asks_reduce : command_of apart ≡ Some (Reduces reduce)
  pub of_run : IsProgram held.script program
  pub of_reduce : IsProgram runs.script program
  pub form : texts_of whole.forms run.form ≡ texts_of apart.forms reduce.form
  pub parts : AreParts program whole.shown 1 held.files runs.files
  pub few : All (λ text. length text ≤ reduce.max_bytes) runs.files

-- ---- joined parts
-- The bytes are those of a file of a saved run of this script. It stands for these records.
pub record IsRunFileOf (program : Program) (records : List Record) (bytes : List ℕ)
    : Type 0 where
  pub saved : Saved
  pub file : IsRunFile (script_text program.tree) program.plan bytes saved
  pub stands : SavedStandsFor program.plan records saved
  pub are : All (IsRecord program.plan) records

-- A call of `join` with this script over these texts, by any limit, wrote this text.
pub record IsJoinOfTexts (program : Program) (texts : List (List ℕ)) (text : List ℕ)
    : Type 0 where
  pub asked : Asked
  pub held : Held
  pub join : Join
  pub asks : command_of asked ≡ Some (Joins join)
  pub is_program : IsProgram held.script program
  pub files_are : held.files ≡ texts
  pub wrote : HasReport asked held status.Done text

-- Texts of consecutive parts, and those to which they were joined in any bracketing: each of these
-- is one of them as it is, or what `join` wrote over one or more that consecutive ones were joined
-- to.
pub data AreJoinedTo (program : Program) : List (List ℕ) → List (List ℕ) → Type 0 where
  no_text : AreJoinedTo program [] []
  as_it_is : (text : List ℕ) (texts joined : List (List ℕ))
      → AreJoinedTo program texts joined
      → AreJoinedTo program (text ∷ texts) (text ∷ joined)
  in_one : (inner outer texts joined : List (List ℕ)) (text : List ℕ)
      → AreJoinedTo program inner outer
      → IsJoinOfTexts program outer text
      → 1 ≤ length outer
      → AreJoinedTo program texts joined
      → AreJoinedTo program (inner ++ texts) (text ∷ joined)

-- A call of `reduce` over texts, each of a saved run that stands for records, and one over those to
-- which they were joined, with the same script and the same form. Each text that was joined is
-- within the size that the second call allows.
pub record IsReportedJoined (parts : Asked) (texts : Held) (joined : Asked) (runs : Held)
    : Type 0 where
  pub program : Program
  pub reduce : Reduce
  pub other : Reduce
  pub asks_parts : command_of parts ≡ Some (Reduces reduce)
  pub asks_joined : command_of joined ≡ Some (Reduces other)
  pub of_parts : IsProgram texts.script program
  pub of_joined : IsProgram runs.script program
  pub form : texts_of parts.forms reduce.form ≡ texts_of joined.forms other.form
  pub records : List (List Record)
  pub stand : AllZip (IsRunFileOf program) records texts.files
  pub joins : AreJoinedTo program texts.files runs.files
  pub few : All (λ text. length text ≤ other.max_bytes) runs.files

-- A call of `run` over files, and one of `reduce` over what the texts of their parts were joined
-- to, with the same script and the same form.
pub record IsReportedInOne (whole : Asked) (held : Held) (joined : Asked) (runs : Held)
    : Type 0 where
  pub program : Program
  pub run : Run
  pub reduce : Reduce
  pub asks_run : command_of whole ≡ Some (Runs run)
  pub asks_reduce : command_of joined ≡ Some (Reduces reduce)
  pub of_run : IsProgram held.script program
  pub of_reduce : IsProgram runs.script program
  pub form : texts_of whole.forms run.form ≡ texts_of joined.forms reduce.form
  pub texts : List (List ℕ)
  pub parts : AreParts program whole.shown 1 held.files texts
  pub joins : AreJoinedTo program texts runs.files
  pub few : All (λ text. length text ≤ reduce.max_bytes) runs.files
