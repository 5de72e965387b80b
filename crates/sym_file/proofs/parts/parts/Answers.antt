use Rattle.std.proofs.Common.{◌≡◌, ◌<◌, ◌≤◌, List, get_or, length, subst}
use Rattle.std.proofs.lemmas.Result.{err_from_is_err_and}
use Rattle.sym_check.specs.declared.plan.script.CellPlan.{CellPlan}
use Rattle.sym_check.specs.Plan.ScriptPlans.{script_plan}
use Rattle.sym_file.specs.Reading.{apart, each, part_at}
use Rattle.sym_file.proofs.Loops.{each_done, each_goes_on, each_stops, left_from}
use Rattle.sym_file.proofs.parts.parts.Goals as goal

pub returns-in_err-part : goal.returns-in_err-part
returns-in_err-part c =
    let p = err_from_is_err_and c.from_residual-in_err-part.result c.from_residual-in_err-part.ensures.1 in
    let cells : List CellPlan = (script_plan c.args.plan.now).cells in
    let within : c.cells.cell-index < length cells = subst (λ (xs : List CellPlan). c.cells.cell-index < length xs) c.as_slice-cell-items.ensures c.cells-test.true in
    let is : c.cell-item.result ≡ get_or cells c.cells.cell-index c.cell-item.result =
    subst (λ (xs : List CellPlan). c.cell-item.result ≡ get_or xs c.cells.cell-index c.cell-item.result) c.as_slice-cell-items.ensures c.cell-item.is in
    let there = left_from cells c.cells.cell-index c.cell-item.result within is in
    rw (p.1, p.2) (each_stops (λ cell. apart (part_at (script_plan c.args.plan.now) cell)) c.cells.parts.items (script_plan c.args.plan.now).cells c.cells.cell-index c.cells.rest.now (each (λ cell. apart (part_at (script_plan c.args.plan.now) cell)) (script_plan c.args.plan.now).cells c.args.bytes.now) c.cell-item.result c.in_err-part.field-0.0 there c.in_err-part.ensures c.cells.invariant)

pub cells-preserved : goal.cells-preserved
cells-preserved c =
    let cells : List CellPlan = (script_plan c.args.plan.now).cells in
    let within : c.cells.cell-index < length cells = subst (λ (xs : List CellPlan). c.cells.cell-index < length xs) c.as_slice-cell-items.ensures c.cells-test.true in
    let is : c.cell-item.result ≡ get_or cells c.cells.cell-index c.cell-item.result =
    subst (λ (xs : List CellPlan). c.cell-item.result ≡ get_or xs c.cells.cell-index c.cell-item.result) c.as_slice-cell-items.ensures c.cell-item.is in
    let there = left_from cells c.cells.cell-index c.cell-item.result within is in
    rw c.in_ok-push.ensures.items (each_goes_on (λ cell. apart (part_at (script_plan c.args.plan.now) cell)) c.cells.parts.items (script_plan c.args.plan.now).cells c.cells.cell-index c.cells.rest.now (each (λ cell. apart (part_at (script_plan c.args.plan.now) cell)) (script_plan c.args.plan.now).cells c.args.bytes.now) c.cell-item.result c.in_ok-part.part c.in_ok-part.after.now there c.in_ok-part.ensures c.cells.invariant)

pub returns : goal.returns
returns c = rw c.of.ensures (each_done (λ cell. apart (part_at (script_plan c.args.plan.now) cell)) c.cells.parts.items (script_plan c.args.plan.now).cells c.cells.cell-index c.cells.rest.now (each (λ cell. apart (part_at (script_plan c.args.plan.now) cell)) (script_plan c.args.plan.now).cells c.args.bytes.now) (subst (λ (xs : List CellPlan). length xs ≤ c.cells.cell-index) c.as_slice-cell-items.ensures c.cells-test.false) c.cells.invariant)
