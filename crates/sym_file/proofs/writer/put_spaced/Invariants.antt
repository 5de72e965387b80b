-- The items so far are appended, each after a space.
use Rattle.std.proofs.Common.{◌++◌, codes}
use Rattle.sym_file.proofs.Appending.{AreAppended}
use Rattle.sym_file.proofs.writer.put_spaced.Given as goal

abbrev pub invariant-items : goal.invariant-items
invariant-items g l = AreAppended (λ item. codes " " ++ g.T.Item.text item) g.T.Item.stored l.items l.item-index l.fn.out.items l.out.items
