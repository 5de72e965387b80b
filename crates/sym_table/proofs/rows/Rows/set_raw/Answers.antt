use Rattle.sym_table.proofs.Raws.{all_closed, no_raw}
use Rattle.sym_table.proofs.rows.Rows.set_raw.Goals as goal

pub returns-in-Ok-clause-ok : goal.returns-in-Ok-clause-ok
returns-in-Ok-clause-ok c = all_closed c.args.bytes.now c.copy_bytes.new.raw.items c.clear.new.self.items c.clear.ensures.items c.in-Ok.ensures

pub invariant_of-self-in-Err : goal.invariant_of-self-in-Err
invariant_of-self-in-Err c = no_raw c.clear-in-Err.new.self.items c.clear-in-Err.ensures.items
