use Rattle.sym_check.proofs.ScriptsAgree.{accepted_planned, planned_accepted, breaks_planned, planned_breaks, one_or_other}
use Rattle.sym_check.proofs.laws.scripts.scripts_have_a_plan_or_a_fault.Goals as goal

pub returns-clause-plan : goal.returns-clause-plan
returns-clause-plan c t p = (accepted_planned t p, planned_accepted t p)

pub returns-clause-fault : goal.returns-clause-fault
returns-clause-fault c t f = (breaks_planned t f, planned_breaks t f)

pub returns-clause-either : goal.returns-clause-either
returns-clause-either c t = one_or_other t
