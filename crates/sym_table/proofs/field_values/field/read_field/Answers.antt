use Rattle.std.proofs.Common.{rules}
use Rattle.sym_table.proofs.NumbersAscii.{number_is_read}
use Rattle.sym_table.proofs.field_values.field.read_field.Goals as goal

pub returns-in-Some : goal.returns-in-Some
returns-in-Some c =
    let is = number_is_read c.args.enums.now c.args.which c.args.field.now c.args.bytes.now c.in-Some.number c.in-Some.ensures.is c.in-Some.ensures.says in
    search (is, rules)
