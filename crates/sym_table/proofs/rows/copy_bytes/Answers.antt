use Rattle.sym_table.proofs.Raws.{closed_by_quote}
use Rattle.sym_table.proofs.rows.copy_bytes.Goals as goal

pub returns-in_ok-push : goal.returns-in_ok-push
returns-in_ok-push c =
    closed_by_quote c.args.quoted c.args.bytes.now c.clear.new.self.items c.extend_from_slice.new.self.items c.push.new.self.items c.if-quoted.true c.requires.quoted c.requires.begins
    c.clear.ensures.items c.in_ok-extend_from_slice.ensures.items c.in_ok-push.ensures.items
