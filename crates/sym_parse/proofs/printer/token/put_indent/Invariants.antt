use Rattle.std.proofs.Common.{◌≡◌, ◌++◌}
use Rattle.sym_parse.specs.Printed.{indent}
use Rattle.sym_parse.proofs.printer.token.put_indent.Given as goal

abbrev pub invariant-levels : goal.invariant-levels
invariant-levels l = l.out.items ≡ l.fn.out.items ++ indent l.block
