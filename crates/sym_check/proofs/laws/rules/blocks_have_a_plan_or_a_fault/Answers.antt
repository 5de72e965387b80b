use Rattle.sym_check.proofs.BlocksAgree.{block_planned, planned_block, breaks_block_planned, planned_breaks_block}
use Rattle.sym_check.proofs.laws.rules.blocks_have_a_plan_or_a_fault.Goals as goal

pub returns-clause-plan : goal.returns-clause-plan
returns-clause-plan c out s n m b p = (block_planned out s n b p m, planned_block out s n b (record { plan = p; next = m }))

pub returns-clause-fault : goal.returns-clause-fault
returns-clause-fault c out s n b f = (breaks_block_planned out s n b f, planned_breaks_block out s n b f)
