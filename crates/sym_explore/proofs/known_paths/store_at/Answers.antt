use Rattle.std.proofs.Common.{[], Option, None, subst}
use Rattle.sym_check.specs.Plan.ScriptPlans.{ScriptPlan, script_plan}
use Rattle.sym_int.specs.declared.form.IntForm.{IntForm}
use Rattle.sym_path.specs.declared.path.Path.{Path}
use Rattle.sym_explore.specs.Storing.{ReadyStores, after_store}
use Rattle.sym_explore.proofs.StoredPaths.{number_stored}
use Rattle.sym_explore.proofs.SureSteps.{goes_ends, parted_alone}
use Rattle.sym_explore.proofs.known_paths.store_at.Goals as goal

pub put-requires-clause-number : goal.put-requires-clause-number
put-requires-clause-number c = record {
  range = _;
  is = c.requires.target.range;
  on = c.in-Some.ensures.number;
}

pub returns-in_ok-put : goal.returns-in_ok-put
returns-in_ok-put c =
    let p : ScriptPlan = script_plan c.args.plan.now in
    let target = c.args.target.now in
    let old : Path = c.args.path.now in
    let mid : Path = c.range_on.new.path in
    let new : Path = c.put.new.path in
    record {
      becomes = parted_alone p target.clamps (after_store p target.fault.no target.place c.args.ready.now) old new (number_stored p target c.args.ready.now old mid new [] [] c.in-Some.form c.in_ok-put.ensures.gives c.in-Some.ensures.exact);
      fits = c.in_ok-put.ensures.fits;
      sure = c.in_ok-put.ensures.sure c.in-Some.ensures.constant c.in-Some.ensures.sure;
      ends = goes_ends target.fault.no new.end c.in_ok-put.ensures.next;
    }

pub returns-in_default : goal.returns-in_default
returns-in_default c =
    let p : ScriptPlan = script_plan c.args.plan.now in
    let target = c.args.target.now in
    let old : Path = c.args.path.now in
    let new : Path = c.range_on.new.path in
    let stores : ReadyStores p target c.args.ready.now old [] new [] None = subst (λ (o : Option IntForm). ReadyStores p target c.args.ready.now old [] new [] o) c.in_default.is c.range_on.ensures.exact in
    record {
      becomes = parted_alone p target.clamps (after_store p target.fault.no target.place c.args.ready.now) old new stores;
      fits = c.range_on.ensures.fits;
      sure = c.range_on.ensures.sure;
      ends = c.range_on.ensures.ends;
    }
