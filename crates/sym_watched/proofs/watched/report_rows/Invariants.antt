-- The rows of the groups so far.
use Rattle.std.proofs.Common.{◌≡◌, map, take}
use Rattle.sym_check.specs.Checking.CheckedScripts.{checked_tree, checked_plan}
use Rattle.sym_report.specs.ReportRows.{row_of}
use Rattle.sym_watched.proofs.watched.report_rows.Given as goal

abbrev pub invariant-groups : goal.invariant-groups
invariant-groups l =
    let row = row_of (checked_tree l.checked) (checked_plan l.checked) in
    l.rows.items ≡ map row (take l.index l.groups)
