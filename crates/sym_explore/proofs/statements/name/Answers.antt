use Rattle.std.proofs.Common.{ap, subst, ◌≡◌, ◌∙◌, Result, Ok, Err}
use Rattle.sym_base.specs.declared.values.value.Value.{Value}
use Rattle.sym_check.specs.Plan.FixedPlans.{fixed_plan}
use Rattle.sym_check.specs.Meaning.FixedValues.{Environment, fixed_value}
use Rattle.sym_check.specs.Checking.KnownValues.{known_values}
use Rattle.sym_check.specs.Meaning.Updates.{environment, or_fault}
use Rattle.sym_plain.specs.Running.{Gives}
use Rattle.sym_plain.specs.declared.update.stop.Stop.{Stop}
use Rattle.sym_plain.specs.declared.update.stop.Stop.TheVariants as stop
use Rattle.sym_explore.proofs.AssignedLists.{on_ok, on_ok_both}
use Rattle.sym_explore.proofs.Blocks.{let_fault, let_value}
use Rattle.sym_explore.proofs.statements.name.Goals as goal

pub returns-in-Ok-clause-run : goal.returns-in-Ok-clause-run
returns-in-Ok-clause-run c = λ p ready.
    let value = fixed_plan c.args.value.now in
    let k = environment c.args.rec.now c.args.scratch.now.locals in
    let meaning : or_fault (fixed_value k value) ≡ Ok c.in-Ok.value = subst (λ (e : Environment). or_fault (fixed_value e value) ≡ Ok c.in-Ok.value) c.known_in.ensures c.in-Ok.ensures in
    on_ok c.name_local.result (λ more. let_value p c.args.rec.now.no k c.args.local value c.args.lists.now.paths.items c.args.lists.now.ended.items ready c.in-Ok.value meaning) c.name_local.ensures

pub returns-in-Err-Fault-clause-run : goal.returns-in-Err-Fault-clause-run
returns-in-Err-Fault-clause-run c = λ p ready.
    let value = fixed_plan c.args.value.now in
    let k = environment c.args.rec.now c.args.scratch.now.locals in
    let is : c.fixed_value.result ≡ Err (stop.Fault c.in-Err-Fault.kind) = c.in-Err-Fault.is ∙ ap Err c.in-Err-Fault.field-0-is in
    let given : or_fault (fixed_value (known_values c.known_in.result) value) ≡ Err c.in-Err-Fault.kind = subst (λ (r : Result Value Stop). Gives r (or_fault (fixed_value (known_values c.known_in.result) value))) is c.fixed_value.ensures in
    let meaning : or_fault (fixed_value k value) ≡ Err c.in-Err-Fault.kind = subst (λ (e : Environment). or_fault (fixed_value e value) ≡ Err c.in-Err-Fault.kind) c.known_in.ensures given in
    on_ok_both c.fail_all.result c.fail_all.ensures.paths c.fail_all.ensures.ended
    (λ none more. let_fault p c.args.rec.now.no k c.args.local value c.args.lists.now.paths.items c.args.lists.now.ended.items ready c.in-Err-Fault.kind c.fail_all.new.paths.items c.fail_all.new.ended.items meaning none more)
