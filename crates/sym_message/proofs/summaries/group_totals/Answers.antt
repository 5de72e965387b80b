use Rattle.std.proofs.Common.{arith}
use Rattle.sym_check.specs.Checking.CheckedScripts.{checked_tree, checked_plan}
use Rattle.sym_report.specs.ReportRows.{row_of}
use Rattle.sym_message.proofs.TotalsMore.{faults_in-more, sessions_in-more}
use Rattle.sym_message.proofs.summaries.group_totals.Goals as goal

pub groups-preserved : goal.groups-preserved
groups-preserved c =
    let row = row_of (checked_tree c.args.checked.now) (checked_plan c.args.checked.now) in
    let before = c.groups.invariant in
    let here = c.in_ok-totals.ensures in
    record {
      faults = faults_in-more row c.args.groups.now c.groups.index _ _ before.faults here.faults;
      sessions = sessions_in-more row c.args.groups.now c.groups.index _ _ before.sessions here.sessions;
      few = omega arith;
      small = omega arith;
    }
