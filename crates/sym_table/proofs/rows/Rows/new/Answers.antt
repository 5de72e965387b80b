use Rattle.sym_table.proofs.Raws.{no_raw, nothing_there}
use Rattle.sym_table.proofs.rows.Rows.new.Goals as goal

pub invariant_of-result : goal.invariant_of-result
invariant_of-result c = no_raw c.new.result.items c.new.ensures.items

pub returns : goal.returns
returns c = nothing_there c.new.result.items c.new-2.result.items c.new.ensures.items c.new-2.ensures.items
