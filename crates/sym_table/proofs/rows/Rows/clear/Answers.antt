use Rattle.sym_table.proofs.Raws.{no_raw, nothing_there}
use Rattle.sym_table.proofs.rows.Rows.clear.Goals as goal

pub invariant_of-self : goal.invariant_of-self
invariant_of-self c = no_raw c.clear.new.self.items c.clear.ensures.items

pub returns : goal.returns
returns c = nothing_there c.clear.new.self.items c.clear-2.new.self.items c.clear.ensures.items c.clear-2.ensures.items
