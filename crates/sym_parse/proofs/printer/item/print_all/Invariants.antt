use Rattle.std.proofs.Common.{◌≡◌, ◌++◌, drop}
use Rattle.std.specs.List.{flat_map}
use Rattle.sym_parse.specs.Printed.{text}
use Rattle.sym_parse.proofs.printer.item.print_all.Given as goal

abbrev pub invariant-items : goal.invariant-items
invariant-items g l =
    l.out.items ++ text (flat_map g.T.Item.pieces (drop l.item-index l.items))
    ≡ l.fn.out.items ++ text (flat_map g.T.Item.pieces l.items)
