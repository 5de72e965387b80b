use Rattle.std.proofs.Common.{ℕ, sym, subst}
use Rattle.std.specs.Prelude.{IfOk}
use Rattle.sym_check.specs.Plan.ScriptPlans.{script_plan}
use Rattle.sym_explore.specs.Evaluating.{tried_on_cell}
use Rattle.sym_explore.specs.Branches.{Splits}
use Rattle.sym_explore.specs.declared.parted_lists.CellCondition.{CellCondition}
use Rattle.sym_explore.proofs.parted_lists.split.Goals as goal

pub returns-in-Compare-clause-exact : goal.returns-in-Compare-clause-exact
returns-in-Compare-clause-exact c =
    let p = script_plan c.args.plan.now in
    subst (λ (q : CellCondition). (n : ℕ) → IfOk c.compare_ready.result (Splits p (tried_on_cell p c.args.args.now q n) c.args.path.now c.args.out.now.items c.compare_ready.new.path c.compare_ready.new.out.items)) (sym c.in-Compare.is) c.compare_ready.ensures.exact

pub returns-in-Label-clause-exact : goal.returns-in-Label-clause-exact
returns-in-Label-clause-exact c =
    let p = script_plan c.args.plan.now in
    subst (λ (q : CellCondition). (n : ℕ) → IfOk c.cell_is.result (Splits p (tried_on_cell p c.args.args.now q n) c.args.path.now c.args.out.now.items c.cell_is.new.path c.cell_is.new.out.items)) (sym c.in-Label.is) c.cell_is.ensures.exact

pub returns-in-Call-clause-exact : goal.returns-in-Call-clause-exact
returns-in-Call-clause-exact c =
    let p = script_plan c.args.plan.now in
    subst (λ (q : CellCondition). (n : ℕ) → IfOk c.call.result (Splits p (tried_on_cell p c.args.args.now q n) c.args.path.now c.args.out.now.items c.call.new.path c.call.new.out.items)) (sym c.in-Call.is) c.call.ensures.exact
