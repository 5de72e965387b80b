-- The refusals of a call as a table: the causes of each status but Done and Faulted, and what is
-- written then. Causes, statuses and their order are this project's profile.
use Rattle.std.specs.Prelude.{◌≡◌, ◌⊎◌, ◌<◌, ◌≤◌, ℕ, List, [], length, Some, Err}
use Rattle.sym_base.specs.declared.limits.TheConstants as limit
use Rattle.sym_base.specs.Trees.{ScriptTree}
use Rattle.sym_lex.specs.declared.error.LexFault.TheVariants as lex_fault
use Rattle.sym_lex.specs.Rules.{Reads}
use Rattle.sym_parse.specs.declared.error.LimitKind.{LimitKind}
use Rattle.sym_parse.specs.Answers.{IsScriptOf}
use Rattle.sym_parse.specs.Places.{IsUnexpected, IsPassed}
use Rattle.sym_parse.specs.Printed.{script_text}
use Rattle.sym_check.specs.Rules.Scripts.{BreaksScript}
use Rattle.sym_check.specs.declared.elaborate.error.CheckErr.{CheckErr}
use Rattle.sym_check.specs.declared.elaborate.error.CheckErr.TheVariants as check_error
use Rattle.sym_table.specs.declared.bad.Bad.{Bad}
use Rattle.sym_table.specs.declared.header.HeadFault.{HeadFault}
use Rattle.sym_files.specs.declared.error.PassErr.{PassErr}
use Rattle.sym_files.specs.declared.error.PassErr.TheVariants as pass_error
use Rattle.sym_files.specs.FirstProblems.{FirstProblem}
use Rattle.sym_reduce.specs.declared.error.ReduceErr.{ReduceErr}
use Rattle.sym_reduce.specs.declared.error.ReduceErr.TheVariants as reduce_error
use Rattle.sym_reduce.specs.Joining.{FirstJoinProblem}
use Rattle.sym_reduce.specs.Reducing.{FirstRunProblem}
use Rattle.sym_command.specs.declared.place.Place.{Place}
use Rattle.sym_command.specs.declared.place.Place.TheVariants as place
use Rattle.sym_command.specs.Commands.{Command, Join, Joins, Reduce, Reduces, command_of, file_rules, first_no}
use Rattle.sym_message.specs.declared.refusal.Refusal.{Refusal}
use Rattle.sym_message.specs.declared.refusal.Refusal.TheVariants as refusal
use Rattle.sym_message.specs.declared.refusal.ScriptFault.TheVariants as fault
use Rattle.sym_message.specs.declared.status.Status.{Status}
use Rattle.sym_message.specs.declared.status.Status.TheVariants as status
use Rattle.sym_message.specs.Telling.{Sunk, Tells}
use Rattle.sym_top.specs.Ends.{Held, files_of, script_of}
use Rattle.sym_top.specs.Programs.{Program, IsProgram}
use Rattle.sym_top.specs.Promises.{Call, HasReport, IsStop, IsUntouched, IsUsage, MayHold, ReadFailed, Told, WriteFails, call_line}

-- ---- what is looked at

-- The call asks for a command, and this is so of the text of its script.
pub record ScriptIs (call : Call) (held : Held) (IsSo : List ℕ → Type 0) : Type 0 where
  pub command : Command
  pub asks : command_of call.asked ≡ Some command
  pub is_so : IsSo (script_of command held)

-- The script is accepted, and this is the first problem of the command's files of records.
pub record FilesHave (call : Call) (held : Held) (why : PassErr) : Type 0 where
  pub command : Command
  pub asks : command_of call.asked ≡ Some command
  pub program : Program
  pub accepted : IsProgram (script_of command held) program
  pub first : FirstProblem program.plan (file_rules call.asked command) 0 (first_no command)
      (files_of command held) why

-- The script of a reduction is accepted, and this is the first problem of its files of saved runs.
pub record RunFilesHave (call : Call) (held : Held) (why : ReduceErr) : Type 0 where
  pub reduce : Reduce
  pub asks : command_of call.asked ≡ Some (Reduces reduce)
  pub program : Program
  pub accepted : IsProgram held.script program
  pub first : FirstRunProblem (script_text program.tree) program.plan reduce.max_bytes 0 1 []
      held.files why

-- The script of a join is accepted, and this is the first problem of its files of saved runs.
pub record JoinedFilesHave (call : Call) (held : Held) (why : ReduceErr) : Type 0 where
  pub join : Join
  pub asks : command_of call.asked ≡ Some (Joins join)
  pub program : Program
  pub accepted : IsProgram held.script program
  pub first : FirstJoinProblem (script_text program.tree) program.plan join.max_bytes held.files
      why

-- The text is that of a script, and this is the first rule that the script breaks.
pub record BreaksRule (text : List ℕ) (why : CheckErr) : Type 0 where
  pub tree : ScriptTree
  pub script : IsScriptOf text tree
  pub breaks : BreaksScript tree why

-- ---- the causes of each status, one for each refusal, with the line that is told after `symple: `

-- Usage: the arguments are those of no command, or the form isn't handed in.
pub data IsNoCommand (call : Call) (held : Held) : Refusal → Type 0 where
  -- `usage`
  no_command : IsUsage call → IsNoCommand call held refusal.Usage

-- TooLarge: the script has more than 65,536 bytes; or the first problem of the files is that one
-- has more bytes than the command takes.
pub data IsTooLarge (call : Call) (held : Held) : Refusal → Type 0 where
  -- `SCRIPT: too large`
  large_script : ScriptIs call held (λ text. limit.SCRIPT_MAX < length text)
      → IsTooLarge call held (refusal.TooLarge place.Script)
  -- `FILE: too large`
  large_file : (file : ℕ)
      → FilesHave call held (pass_error.TooLarge file)
      → IsTooLarge call held (refusal.TooLarge (place.File file))
  -- `FILE: too large`
  large_run_file : (file : ℕ)
      → RunFilesHave call held (reduce_error.TooLarge file)
      → IsTooLarge call held (refusal.TooLarge (place.File file))
  -- `FILE: too large`
  large_joined_file : (file : ℕ)
      → JoinedFilesHave call held (reduce_error.TooLarge file)
      → IsTooLarge call held (refusal.TooLarge (place.File file))

-- Why a text isn't that of an accepted script. If it has a lexical fault, the first one; else the
-- first token that passes a limit; else the first at which no sentence goes on; else the first
-- rule that is broken.
pub data IsUnaccepted (text : List ℕ) : Refusal → Type 0 where
  -- `script: bad byte at byte AT`
  bad_byte : (at : ℕ)
      → Reads 0 text (Err (lex_fault.BadByte at))
      → IsUnaccepted text (refusal.Script fault.BadByte at)
  -- `script: bad number at byte AT`
  bad_number : (at : ℕ)
      → Reads 0 text (Err (lex_fault.BadNumber at))
      → IsUnaccepted text (refusal.Script fault.BadNumber at)
  -- `script: long name at byte AT`
  long_name : (at : ℕ)
      → Reads 0 text (Err (lex_fault.LongName at))
      → IsUnaccepted text (refusal.Script fault.LongName at)
  -- `script: bad text at byte AT`
  bad_text : (at : ℕ)
      → Reads 0 text (Err (lex_fault.BadText at))
      → IsUnaccepted text (refusal.Script fault.BadText at)
  -- `script: limit of WHICH at byte AT`
  limit_passed : (at : ℕ) (which : LimitKind)
      → IsPassed text at which
      → IsUnaccepted text (refusal.Script (fault.Limit which) at)
  -- `script: unexpected token at byte AT`
  unexpected_token : (at : ℕ)
      → IsUnexpected text at
      → ((other : ℕ) (which : LimitKind) → IsPassed text other which → ⊥)
      → IsUnaccepted text (refusal.Script fault.Unexpected at)
  -- `script: unknown name at byte AT`
  unknown_name : (at : ℕ)
      → BreaksRule text (check_error.Name at)
      → IsUnaccepted text (refusal.Script fault.UnknownName at)
  -- `script: name taken at byte AT`
  name_taken : (at : ℕ)
      → BreaksRule text (check_error.Twice at)
      → IsUnaccepted text (refusal.Script fault.NameTaken at)
  -- `script: wrong kind at byte AT`
  wrong_kind : (at : ℕ)
      → BreaksRule text (check_error.Kind at)
      → IsUnaccepted text (refusal.Script fault.WrongKind at)
  -- `script: wrong range at byte AT`
  wrong_range : (at : ℕ)
      → BreaksRule text (check_error.Range at)
      → IsUnaccepted text (refusal.Script fault.WrongRange at)
  -- `script: not linear at byte AT`
  not_linear : (at : ℕ)
      → BreaksRule text (check_error.NotLinear at)
      → IsUnaccepted text (refusal.Script fault.NotLinear at)
  -- `script: PATHS paths`
  many_paths : (paths : ℕ)
      → BreaksRule text (check_error.Branchy paths)
      → IsUnaccepted text (refusal.Branchy paths)

-- Script: the script has at most 65,536 bytes, and isn't accepted.
abbrev pub IsNoScript : Call → Held → Refusal → Type 0
IsNoScript call held why =
    ScriptIs call held (λ text. (length text ≤ limit.SCRIPT_MAX) × IsUnaccepted text why)

-- Input: the first problem of the files is a header or a row; of files of saved runs, that one is
-- of another script, is no run file, doesn't follow the one before it, or has a group without a
-- path. `join` looks for no path, and its first file follows none.
pub data IsBadInput (call : Call) (held : Held) : Refusal → Type 0 where
  -- `FILE: header: WHAT`
  bad_header : (file : ℕ) (what : HeadFault)
      → FilesHave call held (pass_error.Head file what)
      → IsBadInput call held (refusal.Head file what)
  -- `FILE: record NUMBER: CAUSE`
  bad_row : (file : ℕ) (bad : Bad)
      → FilesHave call held (pass_error.Bad file bad)
      → IsBadInput call held (refusal.Bad file bad)
  -- `FILE: run of another script`
  other_script : (file : ℕ)
      → RunFilesHave call held (reduce_error.OtherScript file)
      → IsBadInput call held (refusal.OtherScript file)
  -- `FILE: not a run file`
  malformed : (file : ℕ)
      → RunFilesHave call held (reduce_error.Malformed file)
      → IsBadInput call held (refusal.Malformed file)
  -- `FILE: records do not follow`
  apart : (file : ℕ)
      → RunFilesHave call held (reduce_error.Apart file)
      → IsBadInput call held (refusal.Apart file)
  -- `FILE: no path for group GROUP`
  gap : (file group : ℕ)
      → RunFilesHave call held (reduce_error.Gap file group)
      → IsBadInput call held (refusal.Gap file group)
  -- `FILE: run of another script`
  other_script_joined : (file : ℕ)
      → JoinedFilesHave call held (reduce_error.OtherScript file)
      → IsBadInput call held (refusal.OtherScript file)
  -- `FILE: not a run file`
  malformed_joined : (file : ℕ)
      → JoinedFilesHave call held (reduce_error.Malformed file)
      → IsBadInput call held (refusal.Malformed file)
  -- `FILE: records do not follow`
  apart_joined : (file : ℕ)
      → JoinedFilesHave call held (reduce_error.Apart file)
      → IsBadInput call held (refusal.Apart file)

-- ReadFault: a read of the script failed, whose count rose; or the script is accepted, and a read
-- of a file failed, whose count rose and before which no file has a problem (`IsStop`). The line is
-- `FILE: read fault`, with the name of the script or of that file.
pub record IsReadFault (call : Call) (held : Held) (why : Refusal) : Type 0 where
  pub at : Place
  pub why_is : why ≡ refusal.Read at
  pub failed : ReadFailed call at
  pub stop : IsStop call held why

-- ---- what is written

-- Nothing was written to `out`, and the line of this refusal was told on `err`, whole or in part as
-- `Tells` says.
pub record IsToldOf (call : Call) (held : Held) (out err : Sunk) (why : Refusal) : Type 0 where
  pub untouched : IsUntouched out
  pub line : Tells err (call_line call held why)

-- There are bytes that the files may hold, by which a refusal has such a cause. It was told.
pub record HasCause (call : Call) (out err : Sunk) (Causes : Held → Refusal → Type 0)
    : Type 0 where
  pub held : Held
  pub may : MayHold call held
  pub why : Refusal
  pub cause : Causes held why
  pub told : IsToldOf call held out err why

-- There are bytes that the files may hold, by which the call comes to a text. The writing of it was
-- cut for this reason, which was told.
pub record IsWritingCut (call : Call) (out err : Sunk) (why : Refusal) : Type 0 where
  pub held : Held
  pub may : MayHold call held
  pub status : Status
  pub text : List ℕ
  pub report : HasReport call.asked held status text
  pub fails : WriteFails out text why
  pub line : Tells err (call_line call held why)

-- A read failed, or memory ran out.
abbrev pub IsStopped : Status → Type 0
IsStopped result = (result ≡ status.ReadFault) ⊎ (result ≡ status.NoMemory)

-- The status `own` is returned exactly for these causes.
pub record IsExactly (call : Call) (out err : Sunk) (result own : Status)
    (Causes : Held → Refusal → Type 0) : Type 0 where
  -- It is returned only for one of them.
  pub only : result ≡ own → HasCause call out err Causes
  -- If the files are visible and one of them is there, it is returned, and this one is told, unless
  -- a read fails or memory runs out.
  pub always : (held : Held) (why : Refusal)
      → Told call held
      → Causes held why
      → ((result ≡ own) × IsToldOf call held out err why) ⊎ IsStopped result

-- ---- the table

-- What each refusing status is returned for.
pub record RefusalsHaveCauses (call : Call) (out err : Sunk) (result : Status) : Type 0 where
  pub usage : IsExactly call out err result status.Usage (IsNoCommand call)
  pub too_large : IsExactly call out err result status.TooLarge (IsTooLarge call)
  pub script : IsExactly call out err result status.Script (IsNoScript call)
  pub input : IsExactly call out err result status.Input (IsBadInput call)
  pub read_fault : result ≡ status.ReadFault → HasCause call out err (IsReadFault call)
  pub write_fault : result ≡ status.WriteFault → IsWritingCut call out err refusal.Write
  pub no_memory : result ≡ status.NoMemory
      → HasCause call out err (λ held why. why ≡ refusal.NoMemory)
      ⊎ IsWritingCut call out err refusal.NoMemory
