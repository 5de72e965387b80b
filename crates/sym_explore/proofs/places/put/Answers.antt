use Rattle.std.proofs.Common.{sym, subst}
use Rattle.std.specs.Prelude.{OnOk}
use Rattle.sym_check.specs.Plan.CellKinds.{IsIntCell, IsNumsCell}
use Rattle.sym_check.specs.Plan.ScriptPlans.{ScriptPlan, script_plan}
use Rattle.sym_path.specs.Changing.{GoesOn, form_of}
use Rattle.sym_path.specs.Fitting.{PathFits}
use Rattle.sym_path.specs.declared.form.Form.TheVariants as form
use Rattle.sym_path.specs.declared.path.Path.{Path}
use Rattle.sym_explore.specs.Assigning.{one_number_more}
use Rattle.sym_explore.specs.Placing.{IsPut, PlaceFits, place_cell}
use Rattle.sym_explore.specs.Ranging.{NumberFitsCell}
use Rattle.sym_explore.specs.declared.places.Place.{Place}
use Rattle.sym_explore.proofs.AssignedFits.{number_fits, numbers_fit}
use Rattle.sym_explore.proofs.AssignedLists.{on_ok}
use Rattle.sym_explore.proofs.AssignedPaths.{form_goes}
use Rattle.sym_explore.proofs.StoredPaths.{cell_put, end_put}
use Rattle.sym_explore.proofs.SureSteps.{form_sure}
use Rattle.sym_explore.specs.Sure.{IsSureEnd}
use Rattle.sym_explore.proofs.places.put.Goals as goal

pub returns-in-Cell-clause-gives : goal.returns-in-Cell-clause-gives
returns-in-Cell-clause-gives c =
    let p : ScriptPlan = script_plan c.args._plan.now in
    subst (λ (at : Place). IsPut p at c.args.form c.args.path.now c.put_number.new.path) (sym c.in-Cell.is)
    (cell_put p c.in-Cell.cell c.args.form c.args.path.now c.put_number.new.path c.put_number.ensures)

pub returns-in-Cell-clause-fits : goal.returns-in-Cell-clause-fits
returns-in-Cell-clause-fits c =
    let p : ScriptPlan = script_plan c.args._plan.now in
    let old : Path = c.args.path.now in
    let cell : IsIntCell p.cells c.in-Cell.cell = subst (PlaceFits p) c.in-Cell.is c.requires.place in
    let number : NumberFitsCell p c.in-Cell.cell old c.args.form = subst (λ (at : Place). NumberFitsCell p (place_cell at) old c.args.form) c.in-Cell.is c.requires.number in
    subst (λ (q : Path). PathFits p q) (sym c.put_number.ensures) (number_fits p old c.in-Cell.cell c.args.form c.requires.fits cell number)

pub returns-in-Cell-clause-next : goal.returns-in-Cell-clause-next
returns-in-Cell-clause-next c =
    subst (λ (q : Path). GoesOn q.end) (sym c.put_number.ensures) (form_goes c.in-Cell.cell (form.Int c.args.form) c.args.path.now.end c.requires.number.on.goes_on)

pub returns-in-End-clause-gives : goal.returns-in-End-clause-gives
returns-in-End-clause-gives c =
    let p : ScriptPlan = script_plan c.args._plan.now in
    let old : Path = c.args.path.now in
    let new : Path = c.add_number.new.path in
    let cell : IsNumsCell p.cells c.in-End.cell = subst (PlaceFits p) c.in-End.is c.requires.place in
    subst (λ (at : Place). OnOk c.add_number.result (IsPut p at c.args.form old new)) (sym c.in-End.is)
    (on_ok c.add_number.result (end_put p c.in-End.cell c.args.form old new c.requires.fits cell) c.add_number.ensures)

pub returns-in-End-clause-fits : goal.returns-in-End-clause-fits
returns-in-End-clause-fits c =
    let p : ScriptPlan = script_plan c.args._plan.now in
    let old : Path = c.args.path.now in
    let cell : IsNumsCell p.cells c.in-End.cell = subst (PlaceFits p) c.in-End.is c.requires.place in
    let number : NumberFitsCell p c.in-End.cell old c.args.form = subst (λ (at : Place). NumberFitsCell p (place_cell at) old c.args.form) c.in-End.is c.requires.number in
    on_ok c.add_number.result
    (λ is. subst (λ (q : Path). PathFits p q) (sym is) (numbers_fit p old c.in-End.cell c.args.form c.requires.fits cell number))
    c.add_number.ensures

pub returns-in-End-clause-next : goal.returns-in-End-clause-next
returns-in-End-clause-next c =
    let old : Path = c.args.path.now in
    on_ok c.add_number.result
    (λ is. subst (λ (q : Path). GoesOn q.end) (sym is) (form_goes c.in-End.cell (one_number_more (form_of old.end c.in-End.cell) c.args.form) old.end c.requires.number.on.goes_on))
    c.add_number.ensures

pub returns-in-Cell-clause-sure : goal.returns-in-Cell-clause-sure
returns-in-Cell-clause-sure c = λ constant sure.
    subst (λ (q : Path). IsSureEnd q.end) (sym c.put_number.ensures) (form_sure c.in-Cell.cell (form.Int c.args.form) c.args.path.now.end constant sure)

pub returns-in-End-clause-sure : goal.returns-in-End-clause-sure
returns-in-End-clause-sure c = λ constant sure.
    let old : Path = c.args.path.now in
    on_ok c.add_number.result
    (λ is. subst (λ (q : Path). IsSureEnd q.end) (sym is) (form_sure c.in-End.cell (one_number_more (form_of old.end c.in-End.cell) c.args.form) old.end tt sure))
    c.add_number.ensures
