use Rattle.std.proofs.Common.{codes}
use Rattle.sym_report.specs.Pairs.{fault_pair}
use Rattle.sym_report.specs.ValueTexts.{over_fault, arith_fault}
use Rattle.sym_report.proofs.Joining.{one_more}
use Rattle.sym_report.proofs.pairs.push_body.Goals as goal

pub returns-in_ok-push_over_fault-in-Over : goal.returns-in_ok-push_over_fault-in-Over
returns-in_ok-push_over_fault-in-Over c =
    rw c.in-Over.is
    (one_more c.args.into.now.items c.push_lead.new.into.items c.push_over_fault.new.into.items
    (codes " ") (fault_pair (over_fault c.in-Over.cell c.in-Over.no)) c.args.started
    c.in_ok-push_lead-in-Over.ensures c.in_ok-push_over_fault-in-Over.ensures)

pub returns-in_ok-push_arith_fault-in-Arith : goal.returns-in_ok-push_arith_fault-in-Arith
returns-in_ok-push_arith_fault-in-Arith c =
    rw c.in-Arith.is
    (one_more c.args.into.now.items c.push_lead-in-Arith.new.into.items
    c.push_arith_fault.new.into.items (codes " ") (fault_pair (arith_fault c.in-Arith.no))
    c.args.started c.in_ok-push_lead-in-Arith.ensures
    c.in_ok-push_arith_fault-in-Arith.ensures)
