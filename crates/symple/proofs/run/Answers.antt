use Rattle.std.proofs.Common.{inr}
use Rattle.symple.proofs.run.Goals as goal

pub returns-in-Ok-carry_out-clause-reported : goal.returns-in-Ok-carry_out-clause-reported
returns-in-Ok-carry_out-clause-reported g c is = record { words = _; wrote = c.in-Ok-carry_out.ensures.carried.reported is }

pub returns-in-Ok-carry_out-clause-refused : goal.returns-in-Ok-carry_out-clause-refused
returns-in-Ok-carry_out-clause-refused g c is = inr (record { words = _; refuses = c.in-Ok-carry_out.ensures.carried.refused is })

pub returns-in-Ok-carry_out-clause-unread : goal.returns-in-Ok-carry_out-clause-unread
returns-in-Ok-carry_out-clause-unread g c usage = c.in-Ok-carry_out.ensures.leaves.unread (c.in-Ok-carry_out.ensures.carried.usage usage)

pub returns-in-Ok-carry_out-clause-unwritten : goal.returns-in-Ok-carry_out-clause-unwritten
returns-in-Ok-carry_out-clause-unwritten g c = c.in-Ok-carry_out.ensures.leaves.unwritten

pub returns-in-Ok-carry_out-clause-memory : goal.returns-in-Ok-carry_out-clause-memory
returns-in-Ok-carry_out-clause-memory g c = c.in-Ok-carry_out.ensures.leaves.memory

pub returns-in-Ok-carry_out-clause-quiet : goal.returns-in-Ok-carry_out-clause-quiet
returns-in-Ok-carry_out-clause-quiet g c = c.in-Ok-carry_out.ensures.leaves.quiet
