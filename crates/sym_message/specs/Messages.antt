-- The line that is written to the sink for errors where a call is refused.
-- Its texts are this project's profile.
use Rattle.std.specs.Prelude.{ℕ, List, [], ◌++◌, map, codes, decimal, slice_index_or}
use Rattle.sym_parse.specs.declared.error.LimitKind.{LimitKind}
use Rattle.sym_parse.specs.declared.error.LimitKind.TheVariants as limit
use Rattle.sym_check.specs.declared.plan.script.FieldPlan.{FieldPlan}
use Rattle.sym_table.specs.declared.bad.BadCause.{BadCause}
use Rattle.sym_table.specs.declared.bad.BadCause.TheVariants as cause
use Rattle.sym_table.specs.declared.header.HeadFault.{HeadFault}
use Rattle.sym_table.specs.declared.header.HeadFault.TheVariants as head
use Rattle.sym_command.specs.declared.place.Place.TheVariants as place
use Rattle.sym_command.specs.Commands.{FileNames, file_name}
use Rattle.sym_message.specs.declared.refusal.Refusal.{Refusal}
use Rattle.sym_message.specs.declared.refusal.Refusal.TheVariants as refusal
use Rattle.sym_message.specs.declared.refusal.ScriptFault.{ScriptFault}
use Rattle.sym_message.specs.declared.refusal.ScriptFault.TheVariants as fault

-- The header texts of a script's fields.
abbrev pub headers_of : List FieldPlan → List (List ℕ)
headers_of fields = map (λ field. field.header) fields

-- The header text of the field with this number.
abbrev pub header_text : List (List ℕ) → ℕ → List ℕ
header_text headers which = slice_index_or headers which []

abbrev pub limit_text : LimitKind → List ℕ
limit_text limit.Enums = codes "enums"
limit_text limit.Labels = codes "labels"
limit_text limit.Fields = codes "fields"
limit_text limit.Cells = codes "cells"
limit_text limit.Tests = codes "tests"
limit_text limit.Parameters = codes "parameters"
limit_text limit.Parts = codes "parts"
limit_text limit.Statements = codes "statements"
limit_text limit.Depth = codes "depth"
limit_text limit.Operands = codes "operands"
limit_text limit.Columns = codes "columns"
limit_text limit.GroupFields = codes "group fields"

abbrev pub fault_text : ScriptFault → List ℕ
fault_text fault.BadByte = codes "bad byte"
fault_text fault.BadNumber = codes "bad number"
fault_text fault.LongName = codes "long name"
fault_text fault.BadText = codes "bad text"
fault_text fault.Unexpected = codes "unexpected token"
fault_text (fault.Limit kind) = codes "limit of " ++ limit_text kind
fault_text fault.UnknownName = codes "unknown name"
fault_text fault.NameTaken = codes "name taken"
fault_text fault.WrongKind = codes "wrong kind"
fault_text fault.WrongRange = codes "wrong range"
fault_text fault.NotLinear = codes "not linear"

-- What is wrong with a header.
abbrev pub head_fault_text : List (List ℕ) → HeadFault → List ℕ
head_fault_text headers (head.NoField which) = codes "no field " ++ header_text headers which
head_fault_text headers (head.Twice which) =
    codes "field " ++ header_text headers which ++ codes " twice"

-- What is wrong with a row.
abbrev pub cause_text : List (List ℕ) → BadCause → List ℕ
cause_text headers (cause.Fields count) = decimal count ++ codes " fields"
cause_text headers (cause.Number which) =
    codes "field " ++ header_text headers which ++ codes " is not a number"
cause_text headers (cause.Label which) =
    codes "field " ++ header_text headers which ++ codes " is not a label"
cause_text headers (cause.Utf8 which) =
    codes "field " ++ header_text headers which ++ codes " is not UTF-8"

-- What a line says of a refusal.
abbrev pub refusal_text : FileNames → List (List ℕ) → Refusal → List ℕ
refusal_text names headers refusal.Usage = codes "usage"
refusal_text names headers (refusal.Script what at) =
    codes "script: " ++ fault_text what ++ codes " at byte " ++ decimal at
refusal_text names headers (refusal.Branchy paths) =
    codes "script: " ++ decimal paths ++ codes " paths"
refusal_text names headers (refusal.Head file what) =
    file_name names (place.File file) ++ codes ": header: " ++ head_fault_text headers what
refusal_text names headers (refusal.Bad file bad) =
    file_name names (place.File file) ++ codes ": record " ++ decimal bad.no ++ codes ": "
    ++ cause_text headers bad.cause
refusal_text names headers (refusal.OtherScript file) =
    file_name names (place.File file) ++ codes ": run of another script"
refusal_text names headers (refusal.Malformed file) =
    file_name names (place.File file) ++ codes ": not a run file"
refusal_text names headers (refusal.Apart file) =
    file_name names (place.File file) ++ codes ": records do not follow"
refusal_text names headers (refusal.Gap file group) =
    file_name names (place.File file) ++ codes ": no path for group " ++ decimal group
refusal_text names headers (refusal.Read at) = file_name names at ++ codes ": read fault"
refusal_text names headers refusal.Write = codes "write fault"
refusal_text names headers (refusal.TooLarge at) = file_name names at ++ codes ": too large"
refusal_text names headers refusal.NoMemory = codes "out of memory"

-- The line of a refusal, of a command that reads the files of these names, and of a script whose
-- fields have these header texts.
abbrev pub line_of : FileNames → List (List ℕ) → Refusal → List ℕ
line_of names headers why = codes "symple: " ++ refusal_text names headers why ++ codes "\n"
