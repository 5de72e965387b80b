use Rattle.std.proofs.Common.{◌∙◌, refl}
use Rattle.sym_check.specs.Checking.CheckedScripts.{checked_tree, checked_plan}
use Rattle.sym_report.specs.ReportRows.{row_of}
use Rattle.sym_report.proofs.Reports.{rows_more, faulty_more}
use Rattle.sym_report.proofs.report.write_rows.Goals as goal

pub groups-preserved : goal.groups-preserved
groups-preserved g c =
    let row = row_of (checked_tree c.args.checked.now) (checked_plan c.args.checked.now) in
    let before = c.groups.invariant in
    let found = c.in_ok-found.ensures in
    record {
      text =
          rows_more _ _ c.args.heads.now row c.args.groups.now c.groups.index _ _ _ before.texts
          before.text found.text;
      faulty =
          faulty_more row c.args.groups.now c.groups.index c.groups.faulty c.in_ok-found.found
          _ before.faulty found.faulty refl;
      texts = found.texts ∙ before.texts;
      called = found.called ∙ before.called;
    }
