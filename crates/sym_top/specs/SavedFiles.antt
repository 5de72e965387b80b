-- The texts that `map` and `join` write. The method of summaries is that of the SYMPLE paper (SOSP
-- 2015); the format is this project's profile.
use Rattle.std.specs.Prelude.{◌≡◌, ℕ, List}
use Rattle.sym_base.specs.declared.values.record.Record.{Record}
use Rattle.sym_parse.specs.Printed.{script_text}
use Rattle.sym_run.specs.declared.saved.Saved.{Saved}
use Rattle.sym_run.specs.Runs.{AreTight}
use Rattle.sym_run.specs.SavedRuns.{SavedStandsFor}
use Rattle.sym_file.specs.Stored.{IsStored}
use Rattle.sym_file.specs.Texts.{saved_text}
use Rattle.sym_reduce.specs.Joining.{IsJoinOf}
use Rattle.sym_file.specs.TakenTexts.{IsRunFile}
use Rattle.sym_top.specs.Programs.{Program}

-- The bytes are the text of a lawful saved run of these records, the first of which has the number
-- `first`. Its chains are tight for the limit.
pub record IsMapped (program : Program) (first limit : ℕ) (records : List Record)
    (bytes : List ℕ) : Type 0 where
  pub saved : Saved
  pub file : IsRunFile (script_text program.tree) program.plan bytes saved
  pub first_is : saved.first ≡ first
  pub stands : SavedStandsFor program.plan records saved
  pub tight : AreTight program.plan limit saved.groups

-- The bytes are the text of one saved run that these come to, each of which may stand for records
-- or not. So where each stands for the records of its part, they are the text of a lawful saved run
-- of the records of all parts.
pub record IsJoined (program : Program) (limit : ℕ) (runs : List Saved)
    (bytes : List ℕ) : Type 0 where
  pub saved : Saved
  pub text : bytes ≡ saved_text (script_text program.tree) saved
  pub stored : IsStored saved
  pub joins : IsJoinOf program.plan limit runs saved
