use Rattle.std.proofs.Common.{◌≡◌, ◌+◌, List, [], ◌∷◌, ◌++◌, Some, length, refl, sym, ap, ◌∙◌, subst, arith}
use Rattle.std.proofs.lemmas.Option.{slice_get_read}
use Rattle.std.specs.Prelude.{slice_get}
use Rattle.sym_check.specs.declared.plan.script.CellPlan.{CellPlan}
use Rattle.sym_check.specs.Plan.ScriptPlans.{ScriptPlan, script_plan}
use Rattle.sym_path.specs.declared.form.Form.{Form}
use Rattle.sym_path.specs.declared.part.Part.{Part}
use Rattle.sym_path.specs.Identity.{AreWhole}
use Rattle.sym_path.proofs.WholePaths.{whole_next, all_fits, all_admits, all_leaves}
use Rattle.sym_path.proofs.path.Path.all_of.Goals as goal

pub cells-preserved : goal.cells-preserved
cells-preserved c =
    let p : ScriptPlan = script_plan c.args.plan.now in
    let xs : List CellPlan = c.as_slice-cells.result.now in
    let x : CellPlan = c.index-cells-index.result in
    let now : Part = c.whole_cell-part.result.0 in
    let f : Form = c.whole_cell-part.result.1 in
    let at : slice_get xs c.cells.index ≡ Some x = slice_get_read xs (length xs) c.cells.index x refl c.cells-test.true c.index-cells-index.is in
    let here : slice_get p.cells c.cells.index ≡ Some x = ap (λ (ys : List CellPlan). slice_get ys c.cells.index) (sym c.as_slice-cells.ensures) ∙ at in
    let more : AreWhole p (c.cells.index + 1) (c.cells.when.items ++ now ∷ []) (c.cells.forms.items ++ f ∷ []) = whole_next p c.cells.index c.cells.when.items c.cells.forms.items x now f here c.whole_cell-part.ensures c.cells.invariant in
    let parts : c.push.new.self.items ≡ c.cells.when.items ++ now ∷ [] = c.in_ok-push.ensures.items in
    let forms : c.push-in-cells.new.self.items ≡ c.cells.forms.items ++ f ∷ [] = c.in_ok-push-2.ensures.items in
    subst (λ (w : List Part). AreWhole p (c.cells.index + 1) w c.push-in-cells.new.self.items) (sym parts)
    (subst (λ (fs : List Form). AreWhole p (c.cells.index + 1) (c.cells.when.items ++ now ∷ []) fs) (sym forms) more)

whole : (c : goal.After-of-2) → AreWhole (script_plan c.args.plan.now) (length c.args.plan.now.cells) c.of.result c.of-2.result
whole c =
    let p : ScriptPlan = script_plan c.args.plan.now in
    let end = c.cells.auto.index-end in
    let same : length c.as_slice-cells.result.now ≡ length p.cells = ap (λ (ys : List CellPlan). length ys) c.as_slice-cells.ensures in
    let count : c.cells.index ≡ length p.cells = omega arith in
    rw (c.of.ensures, c.of-2.ensures, ← count) c.cells.invariant

pub returns-clause-fits : goal.returns-clause-fits
returns-clause-fits c = all_fits (script_plan c.args.plan.now) c.requires c.of.result c.of-2.result (whole c)

pub returns-clause-admits : goal.returns-clause-admits
returns-clause-admits c = all_admits (script_plan c.args.plan.now) c.requires c.of.result c.of-2.result (whole c)

pub returns-clause-leaves : goal.returns-clause-leaves
returns-clause-leaves c = all_leaves (script_plan c.args.plan.now) c.requires c.of.result c.of-2.result (whole c)

pub returns-clause-whole : goal.returns-clause-whole
returns-clause-whole c = whole c
