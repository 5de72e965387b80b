use Rattle.std.proofs.Common.{ℤ, lit<}
use Rattle.sym_check.specs.Plan.Ranges.{kept}
use Rattle.sym_check.specs.Plan.ScriptPlans.{ScriptPlan, script_plan}
use Rattle.sym_int.proofs.Products.{shown}
use Rattle.sym_int.specs.Bounds.{wide_max}
use Rattle.sym_int.specs.declared.wide.WideNumber.{WideNumber}
use Rattle.sym_explore.specs.Ranging.{KnownRanges, ranged}
use Rattle.sym_explore.proofs.SureSteps.{ranged_stores}
use Rattle.sym_explore.proofs.known_paths.range_on.Goals as goal

pub invariant_of-range_known : goal.invariant_of-range_known
invariant_of-range_known c =
    record { value_in = rw (shown c.term_on-value.result wide_max c.term_on-value.ensures.small (lit< tt)) c.term_on-value.ensures.small }

pub returns-clause-exact : goal.returns-clause-exact
returns-clause-exact c =
    let p : ScriptPlan = script_plan c.args.plan.now in
    let v : ℤ = c.term_on-value.result in
    let x : WideNumber = record { value = v; value_in = c.term_on-value.ensures.small } in
    let known : KnownRanges (kept (ranged c.args.target.now.clamps c.args.target.now.ends) v) c.args.target.now.fault c.args.path.now c.range_known.new.path c.range_known.result = rw (shown v wide_max c.term_on-value.ensures.small (lit< tt)) at c.range_known.ensures in
    ranged_stores p c.args.target.now x c.args.ready.now c.args.path.now c.range_known.new.path c.range_known.result c.requires.target c.requires.sure known c.term_on-value.ensures.value
