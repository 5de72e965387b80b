use Rattle.std.proofs.Common.{Option, Some, None, subst}
use Rattle.std.specs.Prelude.{IfSome}
use Rattle.sym_check.specs.Plan.ScriptPlans.{ScriptPlan, script_plan}
use Rattle.sym_int.specs.declared.form.IntForm.{IntForm}
use Rattle.sym_path.specs.declared.path.Path.{Path}
use Rattle.sym_explore.specs.Ranging.{NumberFitsOn}
use Rattle.sym_explore.specs.Storing.{ReadyStores}
use Rattle.sym_explore.proofs.StoredPaths.{number_stored}
use Rattle.sym_explore.proofs.stores.store.Goals as goal

pub put-requires-clause-number : goal.put-requires-clause-number
put-requires-clause-number c =
    let mid : Path = c.range_ready.new.path in
    record {
      range = _;
      is = c.requires.target.range;
      on = subst (λ (o : Option IntForm). IfSome o (NumberFitsOn c.args.target.now.ends.lo c.args.target.now.ends.hi mid)) c.in-Some.is c.in_ok-form.ensures.number;
    }

pub returns-in_ok-put-clause-exact : goal.returns-in_ok-put-clause-exact
returns-in_ok-put-clause-exact c =
    let p : ScriptPlan = script_plan c.args.plan.now in
    let ranges : ReadyStores p c.args.target.now c.args.ready.now c.args.path.now c.args.out.now.items c.range_ready.new.path c.range_ready.new.out.items (Some c.in-Some.form) = subst (λ (o : Option IntForm). ReadyStores p c.args.target.now c.args.ready.now c.args.path.now c.args.out.now.items c.range_ready.new.path c.range_ready.new.out.items o) c.in-Some.is c.in_ok-form.ensures.exact in
    number_stored p c.args.target.now c.args.ready.now c.args.path.now c.range_ready.new.path c.put.new.path c.args.out.now.items c.range_ready.new.out.items c.in-Some.form c.in_ok-put.ensures.gives ranges

pub returns-in_default-clause-exact : goal.returns-in_default-clause-exact
returns-in_default-clause-exact c =
    let p : ScriptPlan = script_plan c.args.plan.now in
    let ranges : ReadyStores p c.args.target.now c.args.ready.now c.args.path.now c.args.out.now.items c.range_ready.new.path c.range_ready.new.out.items None = subst (λ (o : Option IntForm). ReadyStores p c.args.target.now c.args.ready.now c.args.path.now c.args.out.now.items c.range_ready.new.path c.range_ready.new.out.items o) c.in_default.is c.in_ok-form.ensures.exact in
    ranges
