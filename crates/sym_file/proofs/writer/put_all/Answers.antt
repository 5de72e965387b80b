use Rattle.sym_file.proofs.Appending.{all_stored, appended_more}
use Rattle.sym_file.proofs.writer.put_all.Goals as goal

pub items-preserved : goal.items-preserved
items-preserved g c =
    appended_more g.T.Item.text g.T.Item.stored c.args.items.now c.items.item-index c.item-item.result c.args.out.now.items c.items.out.items c.put.new.out.items
    c.items-test.true c.item-item.is c.in_ok-put.ensures.text c.in_ok-put.ensures.stored c.items.invariant

pub returns-clause-stored : goal.returns-clause-stored
returns-clause-stored g c = all_stored g.T.Item.text g.T.Item.stored c.args.items.now c.items.item-index c.args.out.now.items c.items.out.items c.items-test.false c.items.invariant
