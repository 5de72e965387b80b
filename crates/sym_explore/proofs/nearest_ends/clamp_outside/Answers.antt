use Rattle.std.proofs.Common.{◌≡◌, None}
use Rattle.sym_check.specs.Plan.ScriptPlans.{ScriptPlan, script_plan}
use Rattle.sym_path.specs.Changing.{GoesOn}
use Rattle.sym_path.specs.Fitting.{PathFits}
use Rattle.sym_path.specs.Standing.{EndsAmong}
use Rattle.sym_path.specs.declared.path.Path.{Path}
use Rattle.sym_explore.proofs.ClampedPaths.{parts_below, stored_all, whole_below}
use Rattle.sym_explore.proofs.PathCuts.{none_of}
use Rattle.sym_explore.proofs.PathRanges.{goes_among}
use Rattle.sym_explore.proofs.TermRanges.{constant_fits}
use Rattle.sym_explore.proofs.nearest_ends.clamp_outside.Goals as goal

pub returns-in_default-clause-exact : goal.returns-in_default-clause-exact
returns-in_default-clause-exact c =
    let no_above : c.args.fitted.now.above ≡ None = none_of c.args.fitted.now.above c.in_default.not-Some in
    whole_below (script_plan c.args.line.now.plan.now) c.args.line.now.cell c.args.path.now c.args.path.now c.args.own.now c.args.line.now.wide.now c.args.line.now.target.now c.args.fitted.now c.requires.clamps c.requires.own c.requires.cell c.requires.fitted
    c.least.result c.least.ensures.is c.requires.outside c.args.out.now.items no_above

pub returns-in_default-clause-number : goal.returns-in_default-clause-number
returns-in_default-clause-number c = constant_fits c.args.line.now.target.now.ends c.args.path.now c.least.result c.least.ensures.within c.requires.goes_on

pub returns-clause-exact : goal.returns-clause-exact
returns-clause-exact c =
    parts_below (script_plan c.args.line.now.plan.now) c.args.line.now.cell c.args.path.now c.narrow_within.new.path c.args.own.now c.args.line.now.wide.now c.args.line.now.target.now c.args.fitted.now c.requires.clamps c.requires.own c.requires.cell c.requires.fitted
    c.least-2.result c.least-2.ensures.is c.requires.outside c.greatest.result c.greatest.ensures.is c.in-Some.above c.args.out.now.items c.push_part.new.out.items c.in-Some.is c.in_ok-push_part.ensures c.narrow_within.ensures.gives

pub returns-clause-number : goal.returns-clause-number
returns-clause-number c = constant_fits c.args.line.now.target.now.ends c.narrow_within.new.path c.greatest.result c.greatest.ensures.within (c.narrow_within.ensures.next c.requires.goes_on)

pub returns-clause-others : goal.returns-clause-others
returns-clause-others c =
    let p : ScriptPlan = script_plan c.args.line.now.plan.now in
    stored_all p c.args.line.now.cell c.args.line.now.target.now.place c.least-2.result c.args.path.now (PathFits p) (λ q fits goes. fits) c.args.fitted.now.below c.args.out.now.items c.push_part.new.out.items c.in_ok-push_part.ensures c.requires.others

pub returns-clause-faults : goal.returns-clause-faults
returns-clause-faults c = λ records here ends others. (
  goes_among records c.narrow_within.new.path.end (c.narrow_within.ensures.next c.requires.goes_on),
  stored_all (script_plan c.args.line.now.plan.now) c.args.line.now.cell c.args.line.now.target.now.place c.least-2.result c.args.path.now (λ (q : Path). EndsAmong records q.end) (λ q fits goes. goes_among records q.end goes) c.args.fitted.now.below c.args.out.now.items c.push_part.new.out.items c.in_ok-push_part.ensures others,
)

pub returns-clause-next : goal.returns-clause-next
returns-clause-next c = λ all.
    stored_all (script_plan c.args.line.now.plan.now) c.args.line.now.cell c.args.line.now.target.now.place c.least-2.result c.args.path.now (λ (q : Path). GoesOn q.end) (λ q fits goes. goes) c.args.fitted.now.below c.args.out.now.items c.push_part.new.out.items c.in_ok-push_part.ensures all
