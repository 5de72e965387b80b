-- Lines of refusals, byte by byte.
use Rattle.std.proofs.Common.{◌≡◌, List, ℕ, [], ◌∷◌, Some, codes, refl}
use Rattle.std.specs.Fmt.{digits}
use Rattle.sym_parse.specs.declared.error.LimitKind.TheVariants as limit
use Rattle.sym_table.specs.declared.bad.Bad.{Bad}
use Rattle.sym_table.specs.declared.bad.BadCause.{BadCause}
use Rattle.sym_table.specs.declared.bad.BadCause.TheVariants as cause
use Rattle.sym_table.specs.declared.header.HeadFault.TheVariants as head
use Rattle.sym_command.specs.declared.place.Place.TheVariants as place
use Rattle.sym_command.specs.Commands.{FileNames}
use Rattle.sym_message.specs.declared.refusal.Refusal.TheVariants as refusal
use Rattle.sym_message.specs.declared.refusal.ScriptFault.TheVariants as fault
use Rattle.sym_message.specs.Messages.{line_of}

-- A command over two files of records, of a script with two fields.
names : FileNames
names = record { script = Some (codes "s.symple"); files = codes "a.csv" ∷ codes "b.csv" ∷ [] }

headers : List (List ℕ)
headers = codes "ts" ∷ codes "User ID" ∷ []

usage : line_of names headers refusal.Usage ≡ codes "symple: usage\n"
usage = refl

bad_byte : line_of names headers (refusal.Script fault.BadByte 54)
    ≡ codes "symple: script: bad byte at byte 54\n"
unfolding digits
bad_byte = refl

bad_number : line_of names headers (refusal.Script fault.BadNumber 54)
    ≡ codes "symple: script: bad number at byte 54\n"
unfolding digits
bad_number = refl

long_name : line_of names headers (refusal.Script fault.LongName 54)
    ≡ codes "symple: script: long name at byte 54\n"
unfolding digits
long_name = refl

bad_text : line_of names headers (refusal.Script fault.BadText 54)
    ≡ codes "symple: script: bad text at byte 54\n"
unfolding digits
bad_text = refl

unexpected : line_of names headers (refusal.Script fault.Unexpected 54)
    ≡ codes "symple: script: unexpected token at byte 54\n"
unfolding digits
unexpected = refl

unknown_name : line_of names headers (refusal.Script fault.UnknownName 54)
    ≡ codes "symple: script: unknown name at byte 54\n"
unfolding digits
unknown_name = refl

name_taken : line_of names headers (refusal.Script fault.NameTaken 54)
    ≡ codes "symple: script: name taken at byte 54\n"
unfolding digits
name_taken = refl

wrong_kind : line_of names headers (refusal.Script fault.WrongKind 54)
    ≡ codes "symple: script: wrong kind at byte 54\n"
unfolding digits
wrong_kind = refl

wrong_range : line_of names headers (refusal.Script fault.WrongRange 54)
    ≡ codes "symple: script: wrong range at byte 54\n"
unfolding digits
wrong_range = refl

not_linear : line_of names headers (refusal.Script fault.NotLinear 54)
    ≡ codes "symple: script: not linear at byte 54\n"
unfolding digits
not_linear = refl

limit_of_enums : line_of names headers (refusal.Script (fault.Limit limit.Enums) 54)
    ≡ codes "symple: script: limit of enums at byte 54\n"
unfolding digits
limit_of_enums = refl

limit_of_labels : line_of names headers (refusal.Script (fault.Limit limit.Labels) 54)
    ≡ codes "symple: script: limit of labels at byte 54\n"
unfolding digits
limit_of_labels = refl

limit_of_fields : line_of names headers (refusal.Script (fault.Limit limit.Fields) 54)
    ≡ codes "symple: script: limit of fields at byte 54\n"
unfolding digits
limit_of_fields = refl

limit_of_cells : line_of names headers (refusal.Script (fault.Limit limit.Cells) 54)
    ≡ codes "symple: script: limit of cells at byte 54\n"
unfolding digits
limit_of_cells = refl

limit_of_tests : line_of names headers (refusal.Script (fault.Limit limit.Tests) 54)
    ≡ codes "symple: script: limit of tests at byte 54\n"
unfolding digits
limit_of_tests = refl

limit_of_parameters : line_of names headers (refusal.Script (fault.Limit limit.Parameters) 54)
    ≡ codes "symple: script: limit of parameters at byte 54\n"
unfolding digits
limit_of_parameters = refl

limit_of_parts : line_of names headers (refusal.Script (fault.Limit limit.Parts) 54)
    ≡ codes "symple: script: limit of parts at byte 54\n"
unfolding digits
limit_of_parts = refl

limit_of_statements : line_of names headers (refusal.Script (fault.Limit limit.Statements) 54)
    ≡ codes "symple: script: limit of statements at byte 54\n"
unfolding digits
limit_of_statements = refl

limit_of_depth : line_of names headers (refusal.Script (fault.Limit limit.Depth) 54)
    ≡ codes "symple: script: limit of depth at byte 54\n"
unfolding digits
limit_of_depth = refl

limit_of_operands : line_of names headers (refusal.Script (fault.Limit limit.Operands) 54)
    ≡ codes "symple: script: limit of operands at byte 54\n"
unfolding digits
limit_of_operands = refl

limit_of_columns : line_of names headers (refusal.Script (fault.Limit limit.Columns) 54)
    ≡ codes "symple: script: limit of columns at byte 54\n"
unfolding digits
limit_of_columns = refl

limit_of_group_fields : line_of names headers (refusal.Script (fault.Limit limit.GroupFields) 71)
    ≡ codes "symple: script: limit of group fields at byte 71\n"
unfolding digits
limit_of_group_fields = refl

branchy : line_of names headers (refusal.Branchy 1025)
    ≡ codes "symple: script: 1025 paths\n"
unfolding digits
branchy = refl

no_column : line_of names headers (refusal.Head 0 (head.NoField 1))
    ≡ codes "symple: a.csv: header: no field User ID\n"
unfolding names headers
no_column = refl

a_column_twice : line_of names headers (refusal.Head 0 (head.Twice 0))
    ≡ codes "symple: a.csv: header: field ts twice\n"
unfolding names headers
a_column_twice = refl

-- Record 7 of the second file.
bad : BadCause → Bad
bad cause = record { no = 7; cause = cause }

too_many_fields : line_of names headers (refusal.Bad 1 (bad (cause.Fields 3)))
    ≡ codes "symple: b.csv: record 7: 3 fields\n"
unfolding names headers bad digits
too_many_fields = refl

no_number : line_of names headers (refusal.Bad 1 (bad (cause.Number 0)))
    ≡ codes "symple: b.csv: record 7: field ts is not a number\n"
unfolding names headers bad digits
no_number = refl

no_label : line_of names headers (refusal.Bad 1 (bad (cause.Label 1)))
    ≡ codes "symple: b.csv: record 7: field User ID is not a label\n"
unfolding names headers bad digits
no_label = refl

not_utf8 : line_of names headers (refusal.Bad 1 (bad (cause.Utf8 1)))
    ≡ codes "symple: b.csv: record 7: field User ID is not UTF-8\n"
unfolding names headers bad digits
not_utf8 = refl

another_script : line_of names headers (refusal.OtherScript 0)
    ≡ codes "symple: a.csv: run of another script\n"
unfolding names
another_script = refl

no_run_file : line_of names headers (refusal.Malformed 1)
    ≡ codes "symple: b.csv: not a run file\n"
unfolding names
no_run_file = refl

records_apart : line_of names headers (refusal.Apart 1)
    ≡ codes "symple: b.csv: records do not follow\n"
unfolding names
records_apart = refl

no_path : line_of names headers (refusal.Gap 1 54)
    ≡ codes "symple: b.csv: no path for group 54\n"
unfolding names digits
no_path = refl

unread_script : line_of names headers (refusal.Read place.Script)
    ≡ codes "symple: s.symple: read fault\n"
unfolding names
unread_script = refl

unread_file : line_of names headers (refusal.Read (place.File 0))
    ≡ codes "symple: a.csv: read fault\n"
unfolding names
unread_file = refl

unwritten : line_of names headers refusal.Write
    ≡ codes "symple: write fault\n"
unwritten = refl

a_large_script : line_of names headers (refusal.TooLarge place.Script)
    ≡ codes "symple: s.symple: too large\n"
unfolding names
a_large_script = refl

a_large_file : line_of names headers (refusal.TooLarge (place.File 1))
    ≡ codes "symple: b.csv: too large\n"
unfolding names
a_large_file = refl

out_of_memory : line_of names headers refusal.NoMemory
    ≡ codes "symple: out of memory\n"
out_of_memory = refl
