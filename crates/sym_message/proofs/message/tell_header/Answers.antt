use Rattle.std.proofs.Common.{◌++◌, append_assoc, codes}
use Rattle.sym_message.specs.Messages.{head_fault_text, headers_of}
use Rattle.sym_message.proofs.TellingLemmas.{told-along}
use Rattle.sym_message.proofs.message.tell_header.Goals as goal

pub returns-in-NoField-clause-told : goal.returns-in-NoField-clause-told
returns-in-NoField-clause-told g c =
    told-along _
    (codes "symple: "
    ++ (c.args.file.now
    ++ (codes ": header: no field " ++ (c.header_text-name.result.now ++ codes "\n"))))
    (codes "symple: "
    ++ (c.args.file.now ++ codes ": header: "
    ++ head_fault_text (headers_of c.args.fields.now) c.args.fault) ++ codes "\n")
    c.tell_column.ensures.told
    (simp (c.in-NoField.is, c.header_text-name.ensures, append_assoc))

pub returns-in-Twice-clause-told : goal.returns-in-Twice-clause-told
returns-in-Twice-clause-told g c =
    told-along _
    (codes "symple: "
    ++ (c.args.file.now
    ++ (codes ": header: field "
    ++ (c.header_text-name-in-Twice.result.now ++ codes " twice\n"))))
    (codes "symple: "
    ++ (c.args.file.now ++ codes ": header: "
    ++ head_fault_text (headers_of c.args.fields.now) c.args.fault) ++ codes "\n")
    c.tell_column-in-Twice.ensures.told
    (simp (c.in-Twice.is, c.header_text-name-in-Twice.ensures, append_assoc))
