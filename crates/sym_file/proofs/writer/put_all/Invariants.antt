-- The items so far are appended.
use Rattle.sym_file.proofs.Appending.{AreAppended}
use Rattle.sym_file.proofs.writer.put_all.Given as goal

abbrev pub invariant-items : goal.invariant-items
invariant-items g l = AreAppended g.T.Item.text g.T.Item.stored l.items l.item-index l.fn.out.items l.out.items
