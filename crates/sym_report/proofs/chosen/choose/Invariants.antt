-- The form that is looked for is the first of its name among the forms that are left.
use Rattle.std.proofs.Common.{◌≡◌, drop}
use Rattle.sym_report.specs.Forms.{form_named}
use Rattle.sym_report.proofs.chosen.choose.Given as goal

abbrev pub invariant-forms : goal.invariant-forms
invariant-forms g l =
    form_named (λ f. (goal.ReportForm-dyn g (f.vtable, f.value)).called f.value) l.name
    (drop l.index l.forms.items)
    ≡ form_named (λ f. (goal.ReportForm-dyn g (f.vtable, f.value)).called f.value) l.name
    l.initial.forms.items
