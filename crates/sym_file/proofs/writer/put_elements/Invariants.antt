-- The elements so far are appended, each after a space.
use Rattle.std.proofs.Common.{◌++◌, codes}
use Rattle.sym_file.proofs.Appending.{AreAppended}
use Rattle.sym_file.proofs.writer.put_elements.Given as goal

abbrev pub invariant-elements : goal.invariant-elements
invariant-elements g l = AreAppended (λ item. codes " " ++ g.E.Item.text item) g.E.Item.stored l.form l.index l.fn.out.items l.out.items
