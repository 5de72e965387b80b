use Rattle.sym_check.specs.Checking.CheckedScripts.{checked_plan, checked_tree}
use Rattle.sym_trace.proofs.TraceTexts.{report_by}
use Rattle.sym_trace.proofs.files.trace_files.Goals as goal

pub returns-clause-traced : goal.returns-clause-traced
returns-clause-traced g c =
    let all = c.in_ok-traced.ensures.traced in
    record {
      files = all.files;
      may = all.may;
      records = all.records;
      fine = all.fine;
      stands =
          report_by (checked_tree c.args.checked.now) (checked_plan c.args.checked.now) c.args.trace.every c.in_ok-heads.heads _ _ _ _ _ _ _ _ all.records
          c.in_ok-heads.ensures c.in_ok-begin_report.ensures.texts c.in_ok-traced.ensures.texts c.in_ok-begin_report.ensures.ok all.stands
          c.in_ok-end_report.ensures.ok;
    }
