-- Refusals: the status of each, and the refusal that each error of the layers below comes to.
-- Causes and statuses are this project's profile.
use Rattle.sym_base.specs.declared.edge.read.ReadErr.{ReadErr}
use Rattle.sym_base.specs.declared.edge.read.ReadErr.TheVariants as read_error
use Rattle.sym_base.specs.declared.edge.sink.SinkErr.{SinkErr}
use Rattle.sym_base.specs.declared.edge.sink.SinkErr.TheVariants as sink_error
use Rattle.sym_lex.specs.declared.error.LexFault.{LexFault}
use Rattle.sym_lex.specs.declared.error.LexFault.TheVariants as lex_fault
use Rattle.sym_parse.specs.declared.error.ParseErr.{ParseErr}
use Rattle.sym_parse.specs.declared.error.ParseErr.TheVariants as parse_error
use Rattle.sym_check.specs.declared.elaborate.error.CheckErr.{CheckErr}
use Rattle.sym_check.specs.declared.elaborate.error.CheckErr.TheVariants as check_error
use Rattle.sym_files.specs.declared.error.PassErr.{PassErr}
use Rattle.sym_files.specs.declared.error.PassErr.TheVariants as pass_error
use Rattle.sym_command.specs.declared.place.Place.{Place}
use Rattle.sym_command.specs.declared.place.Place.TheVariants as place
use Rattle.sym_message.specs.declared.refusal.Refusal.{Refusal}
use Rattle.sym_message.specs.declared.refusal.Refusal.TheVariants as refusal
use Rattle.sym_message.specs.declared.refusal.ScriptFault.TheVariants as fault
use Rattle.sym_message.specs.declared.refusal.StartErr.{StartErr}
use Rattle.sym_message.specs.declared.refusal.StartErr.TheVariants as start_error
use Rattle.sym_message.specs.declared.status.Status.{Status}
use Rattle.sym_message.specs.declared.status.Status.TheVariants as status

-- The status with which a run that is refused ends.
abbrev pub status_of_refusal : Refusal → Status
status_of_refusal refusal.Usage = status.Usage
status_of_refusal (refusal.Script what at) = status.Script
status_of_refusal (refusal.Branchy paths) = status.Script
status_of_refusal (refusal.Head file what) = status.Input
status_of_refusal (refusal.Bad file bad) = status.Input
status_of_refusal (refusal.OtherScript file) = status.Input
status_of_refusal (refusal.Malformed file) = status.Input
status_of_refusal (refusal.Apart file) = status.Input
status_of_refusal (refusal.Gap file group) = status.Input
status_of_refusal (refusal.Read place) = status.ReadFault
status_of_refusal refusal.Write = status.WriteFault
status_of_refusal (refusal.TooLarge place) = status.TooLarge
status_of_refusal refusal.NoMemory = status.NoMemory

-- A process that begins no run.
abbrev pub start_refusal : StartErr → Refusal
start_refusal start_error.NotUtf8 = refusal.Usage
start_refusal start_error.NoMemory = refusal.NoMemory

-- A text that breaks the lexical rules.
abbrev pub lex_refusal : LexFault → Refusal
lex_refusal (lex_fault.BadByte at) = refusal.Script fault.BadByte at
lex_refusal (lex_fault.BadNumber at) = refusal.Script fault.BadNumber at
lex_refusal (lex_fault.LongName at) = refusal.Script fault.LongName at
lex_refusal (lex_fault.BadText at) = refusal.Script fault.BadText at

-- A text that is no script.
abbrev pub parse_refusal : ParseErr → Refusal
parse_refusal (parse_error.Lex what) = lex_refusal what
parse_refusal (parse_error.Expected at) = refusal.Script fault.Unexpected at
parse_refusal (parse_error.Limit at which) = refusal.Script (fault.Limit which) at
parse_refusal parse_error.NoMemory = refusal.NoMemory

-- A script that breaks a rule.
abbrev pub check_refusal : CheckErr → Refusal
check_refusal (check_error.Name at) = refusal.Script fault.UnknownName at
check_refusal (check_error.Twice at) = refusal.Script fault.NameTaken at
check_refusal (check_error.Kind at) = refusal.Script fault.WrongKind at
check_refusal (check_error.Range at) = refusal.Script fault.WrongRange at
check_refusal (check_error.NotLinear at) = refusal.Script fault.NotLinear at
check_refusal (check_error.Branchy paths) = refusal.Branchy paths
check_refusal check_error.NoMemory = refusal.NoMemory

-- A file that isn't read whole.
abbrev pub read_refusal : Place → ReadErr → Refusal
read_refusal at read_error.Failed = refusal.Read at
read_refusal at read_error.TooLarge = refusal.TooLarge at
read_refusal at read_error.NoMemory = refusal.NoMemory

-- Files of records that have no groups.
abbrev pub pass_refusal : PassErr → Refusal
pass_refusal (pass_error.Read file) = refusal.Read (place.File file)
pass_refusal (pass_error.TooLarge file) = refusal.TooLarge (place.File file)
pass_refusal (pass_error.Head file what) = refusal.Head file what
pass_refusal (pass_error.Bad file bad) = refusal.Bad file bad
pass_refusal pass_error.NoMemory = refusal.NoMemory

-- A report that isn't written whole.
abbrev pub write_refusal : SinkErr → Refusal
write_refusal sink_error.Failed = refusal.Write
write_refusal sink_error.NoMemory = refusal.NoMemory
