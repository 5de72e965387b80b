use Rattle.std.proofs.Common.{ap, ◌∙◌, List, map}
use Rattle.sym_check.specs.declared.plan.script.FieldPlan.{FieldPlan}
use Rattle.sym_check.specs.Checking.CheckedScripts.{checked_plan}
use Rattle.sym_reads.specs.Agreement.{kinds_of, blank_value}
use Rattle.sym_reads.proofs.FilledRecords.{blank_values_fit}
use Rattle.sym_reads.proofs.blank.blank_record.Goals as goal

pub returns-clause-of_script : goal.returns-clause-of_script
returns-clause-of_script c =
    let values = c.in_ok-fields.ensures ∙ ap (λ (fs : List FieldPlan). map blank_value (kinds_of fs)) c.as_slice.ensures in
    blank_values_fit _ (checked_plan c.args.checked.now) _ c.plan.ensures.well_formed c.plan.ensures.same values
