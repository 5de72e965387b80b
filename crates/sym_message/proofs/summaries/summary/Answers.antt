use Rattle.std.proofs.Common.{Bool, map, nat_lt, ap, ◌∙◌}
use Rattle.std.specs.Prelude.{if◌then◌else◌}
use Rattle.sym_check.specs.Checking.CheckedScripts.{checked_tree, checked_plan}
use Rattle.sym_report.specs.ReportRows.{row_of}
use Rattle.sym_message.specs.declared.status.Status.TheVariants.{Done, Faulted}
use Rattle.sym_message.proofs.TotalsMore.{some_faulty-counted}
use Rattle.sym_message.proofs.summaries.summary.Goals as goal

pub returns-clause-status : goal.returns-clause-status
returns-clause-status c =
    let row = row_of (checked_tree c.args.checked.now) (checked_plan c.args.checked.now) in
    c.report_status.ensures
    ∙ ap (λ (faulty : Bool). if faulty then Faulted else Done)
    (ap (nat_lt 0) c.in_ok-totals.ensures.faults ∙ some_faulty-counted (map row c.args.groups.now))
