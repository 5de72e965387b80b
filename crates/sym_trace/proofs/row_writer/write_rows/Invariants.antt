-- The rows so far, through the form that was given.
use Rattle.std.proofs.Common.{◌≡◌, ◌++◌, map, take}
use Rattle.sym_check.specs.Checking.CheckedScripts.{checked_plan, checked_tree}
use Rattle.sym_report.specs.Forms.{rows_text}
use Rattle.sym_report.specs.ReportRows.{some_faulty}
use Rattle.sym_trace.specs.TraceReports.{trace_row}
use Rattle.sym_trace.proofs.row_writer.write_rows.Given as goal

abbrev pub invariant-rows : goal.invariant-rows
invariant-rows g l =
    let now = goal.ReportForm-dyn g (l.form.vtable, l.form.value) in
    let first = goal.ReportForm-dyn g (l.initial.form.vtable, l.initial.form.value) in
    let shown = trace_row (checked_tree l.checked) (checked_plan l.checked) in
    record {
      text :
          now.gathered l.form.value
          ≡ first.gathered l.initial.form.value
          ++ rows_text (first.texts l.initial.form.value) l.heads (map shown (take l.row-index l.rows));
      faulty : l.faulty ≡ some_faulty (map shown (take l.row-index l.rows));
      texts : now.texts l.form.value ≡ first.texts l.initial.form.value;
    }
