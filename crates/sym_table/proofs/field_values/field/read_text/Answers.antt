use Rattle.std.proofs.Common.{◌∙◌, sym, ap, Ok}
use Rattle.sym_table.proofs.FieldFacts.{is_text, is_no_text}
use Rattle.sym_table.proofs.field_values.field.read_text.Goals as goal

pub returns-in_ok-copy_from-in-Some : goal.returns-in_ok-copy_from-in-Some
returns-in_ok-copy_from-in-Some c =
    is_text c.args.enums.now c.args.which c.args.field.now c.args.bytes.now c.in-Ok.ensures.cases.1
    ∙ rw (← c.in-Some.ensures) (ap Ok (sym c.in_ok-copy_from-in-Some.ensures.ok))

pub returns-in-None : goal.returns-in-None
returns-in-None c =
    rw (is_text c.args.enums.now c.args.which c.args.field.now c.args.bytes.now c.in-Ok.ensures.cases.1, ← c.in-None.ensures)
    (rw c.in-Ok.ensures.cases.0 at c.set_said.ensures)

pub returns-in-Err : goal.returns-in-Err
returns-in-Err c = is_no_text c.args.enums.now c.args.which c.args.field.now c.args.bytes.now c.in-Err.ensures.cases.0
