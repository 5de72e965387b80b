use Rattle.sym_check.specs.Checking.CheckedScripts.{checked_tree, checked_plan}
use Rattle.sym_report.specs.ReportRows.{row_of}
use Rattle.sym_watched.proofs.PartialLists.{rows_more}
use Rattle.sym_watched.proofs.watched.report_rows.Goals as goal

pub groups-preserved : goal.groups-preserved
groups-preserved c =
    let row = row_of (checked_tree c.args.checked.now) (checked_plan c.args.checked.now) in
    rows_more row c.args.groups.now c.groups.index _ _ c.groups.invariant c.in_ok-push_row.ensures
