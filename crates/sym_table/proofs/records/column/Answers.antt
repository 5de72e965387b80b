use Rattle.std.proofs.Common.{sym, []}
use Rattle.sym_table.proofs.Cells.{item_there, no_item, not_missing}
use Rattle.sym_table.proofs.records.column.Goals as goal

pub returns-in-None-get : goal.returns-in-None-get
returns-in-None-get c =
    let place = c.in-Some.place.now in
    rw (item_there c.args.header.now.places c.args.which place 0 c.in-Some.ensures)
    (sym (no_item c.args.row.now place [] (rw c.in-None-get.is at c.get-in-Some.ensures)))

pub returns-in-None : goal.returns-in-None
returns-in-None c =
    absurd (not_missing c.args.header.now.places c.args.which c.requires (rw c.in-None.is at c.get.ensures))
