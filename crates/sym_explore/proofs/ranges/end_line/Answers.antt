use Rattle.std.proofs.Common.{◌≡◌, Option, None, Some, sym, subst}
use Rattle.std.specs.Prelude.{slice_get}
use Rattle.sym_check.specs.Plan.ScriptPlans.{ScriptPlan, script_plan}
use Rattle.sym_int.specs.Fits.{inside_span}
use Rattle.sym_int.specs.Parts.{Within}
use Rattle.sym_int.specs.Points.{IsPart}
use Rattle.sym_int.specs.declared.fits.Inside.{Inside}
use Rattle.sym_path.specs.declared.part.Part.TheVariants as part
use Rattle.sym_path.specs.declared.path.Path.{Path}
use Rattle.sym_explore.proofs.PathCuts.{none_of}
use Rattle.sym_explore.proofs.PathNumbers.{span_is}
use Rattle.sym_explore.proofs.PathRanges.{above_narrows, none_inside, parts_range, parts_fit, parts_number, parts_few, parts_faults}
use Rattle.sym_explore.specs.Placing.{TargetRanges}
use Rattle.sym_explore.proofs.ranges.end_line.Goals as goal

pub returns-in_default-inside-clause-exact : goal.returns-in_default-inside-clause-exact
returns-in_default-inside-clause-exact c =
    let p : ScriptPlan = script_plan c.args.line.now.plan.now in
    let own : slice_get c.args.path.now.when c.args.line.now.cell ≡ Some (part.Span c.in-Some.span) = span_is (slice_get c.args.path.now.when c.args.line.now.cell) c.in-Some.span c.in-Some.ensures in
    let none : c.fit-fitted.result.inside ≡ None = none_of c.fit-fitted.result.inside c.in_default-inside.not-Some in
    let outside : IsPart (Within c.in-Some.span c.args.line.now.wide.now c.args.line.now.target.now.ends) None = subst (λ (o : Option Inside). IsPart (Within c.in-Some.span c.args.line.now.wide.now c.args.line.now.target.now.ends) (inside_span o)) none c.fit-fitted.ensures.inside in
    subst (λ (path : Path). TargetRanges p c.args.line.now.target.now c.args.line.now.wide.now c.args.path.now c.args.out.now.items path c.args.out.now.items None) (sym c.fail.ensures)
    (none_inside p c.args.line.now.cell c.args.path.now c.in-Some.span c.args.line.now.wide.now c.args.line.now.target.now c.requires.ends own c.requires.cell c.args.out.now.items outside)

pub push_part-requires-2-clause-narrower : goal.push_part-requires-2-clause-narrower
push_part-requires-2-clause-narrower c =
    above_narrows c.in-Some.span c.args.line.now.target.now.ends c.args.line.now.wide.now c.fit-fitted.result c.fit-fitted.ensures (slice_get c.args.path.now.when c.args.line.now.cell)
    (span_is (slice_get c.args.path.now.when c.args.line.now.cell) c.in-Some.span c.in-Some.ensures)

pub returns-clause-exact : goal.returns-clause-exact
returns-clause-exact c =
    parts_range (script_plan c.args.line.now.plan.now) c.args.line.now.cell c.args.path.now c.narrow_within.new.path c.in-Some.span c.args.line.now.wide.now c.args.line.now.target.now c.fit-fitted.result c.in-Some-inside.inside c.args.out.now.items c.push_part.new.out.items c.push_part-2.new.out.items
    c.requires.ends (span_is (slice_get c.args.path.now.when c.args.line.now.cell) c.in-Some.span c.in-Some.ensures)
    c.requires.cell c.fit-fitted.ensures c.in-Some-inside.is c.in_ok-push_part.ensures c.in_ok-push_part-2.ensures c.narrow_within.ensures.gives

pub returns-clause-others : goal.returns-clause-others
returns-clause-others c =
    parts_fit (script_plan c.args.line.now.plan.now) c.args.line.now.cell c.args.path.now c.args.line.now.target.now.fault c.fit-fitted.result c.args.out.now.items c.push_part.new.out.items c.push_part-2.new.out.items
    c.in_ok-push_part.ensures c.in_ok-push_part-2.ensures c.requires.others

pub returns-clause-number : goal.returns-clause-number
returns-clause-number c =
    parts_number c.args.line.now.cell c.in-Some.span c.args.line.now.target.now.ends c.args.line.now.wide.now c.fit-fitted.result c.in-Some-inside.inside c.requires.cell c.fit-fitted.ensures c.in-Some-inside.is c.narrow_within.new.path
    (c.narrow_within.ensures.next c.requires.goes_on) c.narrow_within.ensures.span

pub returns-clause-few : goal.returns-clause-few
returns-clause-few c =
    parts_few (script_plan c.args.line.now.plan.now) c.args.line.now.cell c.args.path.now c.args.line.now.target.now.fault c.fit-fitted.result c.args.out.now.items c.push_part.new.out.items c.push_part-2.new.out.items
    c.in_ok-push_part.ensures c.in_ok-push_part-2.ensures

pub returns-clause-faults : goal.returns-clause-faults
returns-clause-faults c =
    parts_faults (script_plan c.args.line.now.plan.now) c.args.line.now.cell c.args.path.now c.args.line.now.target.now.fault c.fit-fitted.result c.args.out.now.items c.push_part.new.out.items c.push_part-2.new.out.items
    c.in_ok-push_part.ensures c.in_ok-push_part-2.ensures c.narrow_within.new.path c.requires.goes_on (c.narrow_within.ensures.next c.requires.goes_on)
