use Rattle.std.proofs.Common.{ℕ, Bool, ap}
use Rattle.sym_check.specs.Plan.ScriptPlans.{ScriptPlan, script_plan}
use Rattle.sym_int.specs.Cuts.{count_with, most_with}
use Rattle.sym_int.specs.Lines.{wide_cell}
use Rattle.sym_explore.proofs.ComparedPaths.{if_ok_both, was_compared}
use Rattle.sym_explore.proofs.JudgedBranches.{fewer_branches}
use Rattle.sym_explore.specs.Branches.{AreFewBranches}
use Rattle.sym_explore.specs.Comparing.{CutsPath, WasCompared}
use Rattle.sym_explore.proofs.comparisons.compare_wide.Goals as goal

pub returns-in-Some-clause-exact : goal.returns-in-Some-clause-exact
returns-in-Some-clause-exact c =
    let p : ScriptPlan = script_plan c.args.plan.now in
    if_ok_both c.cut_path.result
    (λ (last : Bool). CutsPath p c.in-Line.line.cell c.pieces_of-pieces.result c.args.path.now c.args.out.now.items c.cut_path.new.path c.cut_path.new.out.items last)
    (WasCompared p c.args.wide.now c.args.bound.now c.args.path.now c.args.out.now.items c.cut_path.new.path c.cut_path.new.out.items)
    (λ last cuts. was_compared p c.args.wide.now c.args.bound.now c.in-Line.line.cell c.in-Some.span c.pieces_of-pieces.result c.args.path.now c.cut_path.new.path c.args.out.now.items c.cut_path.new.out.items (ap wide_cell c.in-Line.is) c.pieces_of-pieces.ensures last cuts)
    c.cut_path.ensures.exact

pub returns-in-Some-clause-few : goal.returns-in-Some-clause-few
returns-in-Some-clause-few c =
    let before = c.args.out.now.items in
    let after = c.cut_path.new.out.items in
    let counted : Bool → ℕ = λ x. count_with x c.pieces_of-pieces.result in
    if_ok_both c.cut_path.result (AreFewBranches counted before after) (AreFewBranches (most_with c.args.bound.now.compare) before after)
    (λ last few. fewer_branches counted (most_with c.args.bound.now.compare) before after last c.pieces_of-pieces.ensures.few few)
    c.cut_path.ensures.few
