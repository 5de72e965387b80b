use Rattle.std.proofs.Common.{◌++◌, append_assoc, codes, decimal}
use Rattle.sym_message.specs.Messages.{cause_text, headers_of}
use Rattle.sym_message.proofs.TellingLemmas.{told-along}
use Rattle.sym_message.proofs.message.tell_row.Goals as goal

pub returns-in-Utf8-clause-told : goal.returns-in-Utf8-clause-told
returns-in-Utf8-clause-told g c =
    told-along _
    (codes "symple: "
    ++ (c.args.file.now
    ++ (codes ": record "
    ++ (decimal c.args.bad.no
    ++ (codes ": field "
    ++ (c.header_text-name-in-Utf8.result.now ++ codes " is not UTF-8\n"))))))
    (codes "symple: "
    ++ (c.args.file.now ++ codes ": record " ++ decimal c.args.bad.no ++ codes ": "
    ++ cause_text (headers_of c.args.fields.now) c.args.bad.cause) ++ codes "\n")
    c.tell_field-in-Utf8.ensures.told
    (simp (c.in-Utf8.is, c.header_text-name-in-Utf8.ensures, append_assoc))
