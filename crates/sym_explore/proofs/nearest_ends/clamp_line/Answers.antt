use Rattle.std.proofs.Common.{◌≡◌, Some}
use Rattle.std.specs.Prelude.{slice_get}
use Rattle.sym_check.specs.Plan.ScriptPlans.{ScriptPlan, script_plan}
use Rattle.sym_path.specs.Changing.{GoesOn}
use Rattle.sym_path.specs.Fitting.{PathFits}
use Rattle.sym_path.specs.Standing.{EndsAmong}
use Rattle.sym_path.specs.declared.part.Part.TheVariants as part
use Rattle.sym_path.specs.declared.path.Path.{Path}
use Rattle.sym_explore.proofs.ClampedPaths.{parts_around, two_stored}
use Rattle.sym_explore.proofs.PathNumbers.{span_is}
use Rattle.sym_explore.proofs.PathRanges.{above_narrows, below_narrows, goes_among, parts_number}
use Rattle.sym_explore.proofs.nearest_ends.clamp_line.Goals as goal

pub push_part-requires-clause-narrower : goal.push_part-requires-clause-narrower
push_part-requires-clause-narrower c =
    below_narrows c.in-Some.span c.args.line.now.target.now.ends c.args.line.now.wide.now c.fit-fitted.result c.fit-fitted.ensures (slice_get c.args.path.now.when c.args.line.now.cell)
    (span_is (slice_get c.args.path.now.when c.args.line.now.cell) c.in-Some.span c.in-Some.ensures)

pub push_part-requires-2-clause-narrower : goal.push_part-requires-2-clause-narrower
push_part-requires-2-clause-narrower c =
    above_narrows c.in-Some.span c.args.line.now.target.now.ends c.args.line.now.wide.now c.fit-fitted.result c.fit-fitted.ensures (slice_get c.args.path.now.when c.args.line.now.cell)
    (span_is (slice_get c.args.path.now.when c.args.line.now.cell) c.in-Some.span c.in-Some.ensures)

pub returns-clause-exact : goal.returns-clause-exact
returns-clause-exact c =
    let own : slice_get c.args.path.now.when c.args.line.now.cell ≡ Some (part.Span c.in-Some.span) = span_is (slice_get c.args.path.now.when c.args.line.now.cell) c.in-Some.span c.in-Some.ensures in
    parts_around (script_plan c.args.line.now.plan.now) c.args.line.now.cell c.args.path.now c.narrow_within.new.path c.in-Some.span c.args.line.now.wide.now c.args.line.now.target.now c.fit-fitted.result c.requires.clamps own c.requires.cell c.fit-fitted.ensures
    c.least.result c.least.ensures.is c.greatest.result c.greatest.ensures.is c.in-Some-inside.inside c.args.out.now.items c.push_part.new.out.items c.push_part-2.new.out.items c.in-Some-inside.is c.in_ok-push_part.ensures c.in_ok-push_part-2.ensures c.narrow_within.ensures.gives

pub returns-clause-others : goal.returns-clause-others
returns-clause-others c =
    let p : ScriptPlan = script_plan c.args.line.now.plan.now in
    two_stored p c.args.line.now.cell c.args.line.now.target.now.place c.args.path.now c.least.result c.greatest.result c.fit-fitted.result.below c.fit-fitted.result.above c.args.out.now.items c.push_part.new.out.items c.push_part-2.new.out.items
    c.in_ok-push_part.ensures c.in_ok-push_part-2.ensures (PathFits p) (λ q fits goes. fits) c.requires.others

pub returns-clause-number : goal.returns-clause-number
returns-clause-number c =
    parts_number c.args.line.now.cell c.in-Some.span c.args.line.now.target.now.ends c.args.line.now.wide.now c.fit-fitted.result c.in-Some-inside.inside c.requires.cell c.fit-fitted.ensures c.in-Some-inside.is c.narrow_within.new.path
    (c.narrow_within.ensures.next c.requires.goes_on) c.narrow_within.ensures.span

pub returns-clause-faults : goal.returns-clause-faults
returns-clause-faults c = λ records here ends others. (
  goes_among records c.narrow_within.new.path.end (c.narrow_within.ensures.next c.requires.goes_on),
  two_stored (script_plan c.args.line.now.plan.now) c.args.line.now.cell c.args.line.now.target.now.place c.args.path.now c.least.result c.greatest.result c.fit-fitted.result.below c.fit-fitted.result.above c.args.out.now.items c.push_part.new.out.items c.push_part-2.new.out.items
      c.in_ok-push_part.ensures c.in_ok-push_part-2.ensures (λ (q : Path). EndsAmong records q.end) (λ q fits goes. goes_among records q.end goes) others,
)

pub returns-clause-next : goal.returns-clause-next
returns-clause-next c = λ all.
    two_stored (script_plan c.args.line.now.plan.now) c.args.line.now.cell c.args.line.now.target.now.place c.args.path.now c.least.result c.greatest.result c.fit-fitted.result.below c.fit-fitted.result.above c.args.out.now.items c.push_part.new.out.items c.push_part-2.new.out.items
    c.in_ok-push_part.ensures c.in_ok-push_part-2.ensures (λ (q : Path). GoesOn q.end) (λ q fits goes. goes) all
