use Rattle.std.proofs.Common.{Option, subst}
use Rattle.sym_check.specs.Plan.ScriptPlans.{ScriptPlan, script_plan}
use Rattle.sym_int.specs.declared.wide.Wide.{Wide}
use Rattle.sym_explore.proofs.TermRanges.{if_ok_as, ready_ranges}
use Rattle.sym_explore.specs.Placing.{TargetRanges}
use Rattle.sym_explore.specs.Storing.{ReadyStores}
use Rattle.sym_explore.specs.Terms.{IsReadyForm, IsReadyOver}
use Rattle.sym_explore.proofs.ranges.range_ready.Goals as goal

pub returns-clause-exact : goal.returns-clause-exact
returns-clause-exact c =
    let p : ScriptPlan = script_plan c.args.plan.now in
    let over : IsReadyOver p c.args.ready.now c.args.path.now c.in-Some.wide = subst (λ (o : Option Wide). IsReadyForm p c.args.ready.now c.args.path.now o) c.in-Some.is c.ready_form.ensures in
    if_ok_as c.range_wide.result
    (TargetRanges p c.args.target.now c.in-Some.wide c.args.path.now c.args.out.now.items c.range_wide.new.path c.range_wide.new.out.items)
    (ReadyStores p c.args.target.now c.args.ready.now c.args.path.now c.args.out.now.items c.range_wide.new.path c.range_wide.new.out.items)
    (λ number. ready_ranges p c.args.ready.now c.args.target.now c.in-Some.wide c.args.path.now c.range_wide.new.path c.args.out.now.items c.range_wide.new.out.items number c.requires.target over)
    c.range_wide.ensures.exact
