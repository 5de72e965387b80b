use Rattle.std.proofs.Common.{◌++◌, codes}
use Rattle.sym_file.proofs.Appending.{all_stored}
use Rattle.sym_file.proofs.writer.put_spaced.Goals as goal

pub returns-clause-stored : goal.returns-clause-stored
returns-clause-stored g c =
    all_stored (λ item. codes " " ++ g.T.Item.text item) g.T.Item.stored c.args.items.now c.items.item-index c.args.out.now.items c.items.out.items c.items-test.false c.items.invariant
