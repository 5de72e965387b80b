use Rattle.std.proofs.Common.{◌≡◌, Some, sym, ap, subst}
use Rattle.sym_check.specs.Plan.ScriptPlans.{script_plan}
use Rattle.sym_int.specs.Lines.{wide_cell}
use Rattle.sym_int.specs.declared.wide.Wide.{Wide}
use Rattle.sym_explore.proofs.PathRanges.{whole_number, whole_ranges}
use Rattle.sym_explore.proofs.TermRanges.{known_ranges, known_number, known_stored}
use Rattle.sym_explore.specs.Placing.{TargetRanges}
use Rattle.sym_explore.proofs.ranges.range_wide.Goals as goal

pub returns-in-Const-clause-exact : goal.returns-in-Const-clause-exact
returns-in-Const-clause-exact c =
    subst (λ (w : Wide). TargetRanges (script_plan c.args.plan.now) c.args.target.now w c.args.path.now c.args.out.now.items c.range_known.new.path c.args.out.now.items c.range_known.result) (sym c.in-Const.is)
    (known_ranges c.args.target.now c.in-Const.number c.args.path.now c.range_known.new.path (script_plan c.args.plan.now) c.args.out.now.items c.range_known.result c.range_known.ensures)

pub returns-in-Const-clause-number : goal.returns-in-Const-clause-number
returns-in-Const-clause-number c =
    known_number c.args.target.now c.in-Const.number c.args.path.now c.range_known.new.path c.range_known.result c.range_known.ensures c.requires.goes_on

pub returns-in-Const-clause-stored : goal.returns-in-Const-clause-stored
returns-in-Const-clause-stored c =
    known_stored c.args.target.now c.in-Const.number c.args.path.now c.range_known.new.path c.range_known.result c.args.out.now.items c.range_known.ensures

pub returns-in-Some-clause-exact : goal.returns-in-Some-clause-exact
returns-in-Some-clause-exact c =
    let names : wide_cell c.args.wide.now ≡ Some c.in-Line.line.cell = ap wide_cell c.in-Line.is in
    whole_ranges c.in-Line.line.cell c.args.path.now c.args.target.now c.args.wide.now c.in-Some.form names c.in-Some.ensures (script_plan c.args.plan.now) c.args.out.now.items

pub returns-in-Some-clause-number : goal.returns-in-Some-clause-number
returns-in-Some-clause-number c =
    let names : wide_cell c.args.wide.now ≡ Some c.in-Line.line.cell = ap wide_cell c.in-Line.is in
    whole_number c.in-Line.line.cell c.args.path.now c.args.target.now c.args.wide.now c.in-Some.form names c.in-Some.ensures c.requires.goes_on
