-- The rows of the groups so far, through the form that was given.
use Rattle.std.proofs.Common.{◌≡◌, ◌++◌, map, take}
use Rattle.sym_check.specs.Checking.CheckedScripts.{checked_tree, checked_plan}
use Rattle.sym_report.specs.Forms.{rows_text}
use Rattle.sym_report.specs.ReportRows.{row_of, some_faulty}
use Rattle.sym_report.proofs.report.write_rows.Given as goal

abbrev pub invariant-groups : goal.invariant-groups
invariant-groups g l =
    let now = goal.ReportForm-dyn g (l.form.vtable, l.form.value) in
    let first = goal.ReportForm-dyn g (l.initial.form.vtable, l.initial.form.value) in
    let row = row_of (checked_tree l.checked) (checked_plan l.checked) in
    record {
      text :
          now.gathered l.form.value
          ≡ first.gathered l.initial.form.value
          ++ rows_text (first.texts l.initial.form.value) l.heads (map row (take l.index l.groups));
      faulty : l.faulty ≡ some_faulty (map row (take l.index l.groups));
      texts : now.texts l.form.value ≡ first.texts l.initial.form.value;
      called : now.called l.form.value ≡ first.called l.initial.form.value;
    }
