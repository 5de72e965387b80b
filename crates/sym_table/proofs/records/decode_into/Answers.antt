use Rattle.sym_check.specs.Checking.CheckedScripts.{checked_plan}
use Rattle.sym_check.specs.Plan.ScriptPlans.{script_plan}
use Rattle.sym_table.proofs.FieldKinds.{answer_fits}
use Rattle.sym_table.proofs.records.decode_into.Goals as goal

pub returns-clause-fits : goal.returns-clause-fits
returns-clause-fits c =
    answer_fits (script_plan c.plan.result.now) (checked_plan c.args.checked.now) c.args.header.now c.args.row.now c.args.no
    c.decode_by.result c.decode_by.new.into c.plan.ensures.same c.plan.ensures.well_formed c.requires.count c.decode_by.ensures
