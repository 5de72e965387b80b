-- The totals of the groups so far. Each group adds one fault at most, and less than 2^64 sessions.
use Rattle.std.proofs.Common.{◌≡◌, ◌*◌, ◌≤◌, map, take}
use Rattle.sym_check.specs.Checking.CheckedScripts.{checked_tree, checked_plan}
use Rattle.sym_report.specs.ReportRows.{row_of}
use Rattle.sym_message.specs.Summaries.{faults_in, sessions_in}
use Rattle.sym_message.proofs.summaries.group_totals.Given as goal

abbrev pub invariant-groups : goal.invariant-groups
invariant-groups l =
    let row = row_of (checked_tree l.fn.checked) (checked_plan l.fn.checked) in
    record {
      faults : l.totals.faults ≡ faults_in (map row (take l.index l.fn.groups));
      sessions : l.totals.sessions ≡ sessions_in (map row (take l.index l.fn.groups));
      few : l.totals.faults ≤ l.index;
      small : l.totals.sessions ≤ l.index * 18446744073709551615;
    }
