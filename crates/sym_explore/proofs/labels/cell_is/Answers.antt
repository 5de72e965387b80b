use Rattle.std.proofs.Common.{◌≡◌, Some, None}
use Rattle.sym_check.specs.Plan.ScriptPlans.{script_plan}
use Rattle.sym_enum.specs.declared.form.EnumForm.TheVariants as label
use Rattle.sym_explore.specs.Branches.{answered, Splits}
use Rattle.sym_explore.specs.Labels.{cell_has, label_form, WasSplit}
use Rattle.sym_explore.proofs.ComparedPaths.{if_ok_both}
use Rattle.sym_explore.proofs.LabelsHeld.{ended_without, copied_enum, const_splits, copy_splits}
use Rattle.sym_explore.proofs.labels.cell_is.Goals as goal

pub split_labels-requires-clause-enum_cell : goal.split_labels-requires-clause-enum_cell
split_labels-requires-clause-enum_cell c =
    let form : label_form c.args.path.now c.args.cell ≡ Some (label.Copy c.in-Some-Copy.from) = cc in
    (c.requires.enum_cell.0, copied_enum (script_plan c.args.plan.now) c.args.path.now c.args.cell c.requires.enum_cell.0 c.in-Some-Copy.from c.requires.enum_cell.1 c.requires.split.fits form)

pub unreachable-requires : goal.unreachable-requires
unreachable-requires c =
    let none : label_form c.args.path.now c.args.cell ≡ None = cc in
    ended_without (script_plan c.args.plan.now) c.args.path.now c.args.cell c.requires.enum_cell.0 c.requires.enum_cell.1 c.requires.split.fits none c.requires.split.goes_on

pub returns-in-Some-Const-clause-exact : goal.returns-in-Some-Const-clause-exact
returns-in-Some-Const-clause-exact c =
    let form : label_form c.args.path.now c.args.cell ≡ Some (label.Const c.in-Some-Const.own) = cc in
    λ n. const_splits (script_plan c.args.plan.now) c.args.path.now c.args.out.now.items c.args.cell c.requires.enum_cell.0 c.args.label c.in-Some-Const.own c.requires.enum_cell.1 c.requires.split.fits form n

pub returns-in-Some-Copy-clause-exact : goal.returns-in-Some-Copy-clause-exact
returns-in-Some-Copy-clause-exact c =
    let form : label_form c.args.path.now c.args.cell ≡ Some (label.Copy c.in-Some-Copy.from) = cc in
    λ n.
    let p = script_plan c.args.plan.now in
    if_ok_both c.split_labels.result
    (WasSplit p c.in-Some-Copy.from c.args.label c.args.path.now c.args.out.now.items c.split_labels.new.path c.split_labels.new.out.items)
    (Splits p (answered n (cell_has c.args.cell c.args.label)) c.args.path.now c.args.out.now.items c.split_labels.new.path c.split_labels.new.out.items)
    (λ last split. copy_splits (script_plan c.args.plan.now) c.args.path.now c.split_labels.new.path c.args.out.now.items c.split_labels.new.out.items c.args.cell c.requires.enum_cell.0 c.args.label c.in-Some-Copy.from last c.requires.enum_cell.1 c.requires.split.fits form split n)
    c.split_labels.ensures.exact
