use Rattle.std.proofs.Common.{◌≡◌, ◌++◌, drop}
use Rattle.sym_parse.specs.Printed.{further, text}
use Rattle.sym_parse.proofs.printer.item.print_further.Given as goal

abbrev pub invariant-items : goal.invariant-items
invariant-items g l =
    l.out.items ++ text (further g.T.Item.pieces (drop l.item-index l.items))
    ≡ l.fn.out.items ++ text (further g.T.Item.pieces l.items)
