-- Paths in which a cell has another form fit the script where the form fits the cell.
use Rattle.std.proofs.Common.{◌≡◌, ℕ, ℤ, Bool, List, [], ◌∷◌, ◌++◌, Some, refl, sym, ap, ◌∙◌, subst}
use Rattle.std.proofs.lemmas.List.Elements.{All-append, All-cons}
use Rattle.std.specs.Prelude.{slice_get}
use Rattle.std.specs.List.{All}
use Rattle.sym_base.specs.declared.values.value.Value.{Value}
use Rattle.sym_check.specs.declared.plan.range.Range.{Range}
use Rattle.sym_check.specs.declared.plan.script.CellPlan.{CellPlan}
use Rattle.sym_check.specs.declared.plan.script.CellPlan.TheVariants as plan
use Rattle.sym_check.specs.declared.plan.script.KindPlan.{KindPlan}
use Rattle.sym_check.specs.Plan.CellKinds.{IsHoldCell, IsIntCell, IsNumsCell, IsWordsCell}
use Rattle.sym_check.specs.Plan.ScriptPlans.{ScriptPlan}
use Rattle.sym_check.specs.Meaning.Validity.{AreOfKinds}
use Rattle.sym_check.specs.Plan.WellFormed.{AreOfOneEnum, HaveSameKinds}
use Rattle.sym_enum.specs.declared.form.EnumForm.{EnumForm}
use Rattle.sym_enum.specs.declared.form.EnumForm.TheVariants as label
use Rattle.sym_int.specs.declared.form.IntForm.{IntForm}
use Rattle.sym_pred.specs.declared.form.HoldForm.{HoldForm}
use Rattle.sym_pred.specs.declared.form.HoldForm.TheVariants as hold
use Rattle.sym_path.proofs.Changed.{forms_fit}
use Rattle.sym_path.proofs.Lists.{all_at, all_from, zip_at, zip_both}
use Rattle.sym_path.proofs.NarrowedFits.{label_taken}
use Rattle.sym_path.specs.declared.form.Form.{Form}
use Rattle.sym_path.specs.declared.form.Form.TheVariants as form
use Rattle.sym_path.specs.declared.part.Part.{Part}
use Rattle.sym_path.specs.declared.path.PathEnd.{PathEnd}
use Rattle.sym_path.specs.declared.path.PathEnd.TheVariants.{Next, Ended}
use Rattle.sym_path.specs.declared.path.Path.{Path}
use Rattle.sym_path.specs.Changing.{GoesOn, form_of, with_form}
use Rattle.sym_path.specs.Fitting.{EndFits, FormFits, FormsFit, NumberFits, PathFits}
use Rattle.sym_path.specs.Fitting as fitting
use Rattle.sym_path.specs.Taking.{IsTakenOn, NumberIsTakenTo}
use Rattle.sym_explore.specs.Assigning.{HasLabel, added_numbers}
use Rattle.sym_explore.specs.Ranging.{NumberFitsCell}
use Rattle.sym_explore.proofs.AssignedForms.{nums_form}
use Rattle.sym_explore.proofs.AssignedKnown.{int_plan, nums_plan, same_range}

-- The forms of a path that goes on.
pub going_forms : (end : PathEnd) → GoesOn end → (forms : List Form) × (end ≡ Next forms)
going_forms (Next forms) h = (forms, refl)
going_forms (Ended fault) h = absurd h

pub going_fit : (p : ScriptPlan) (path : Path) (forms : List Form) → PathFits p path → path.end ≡ Next forms → FormsFit p path.when forms
going_fit p path forms fits is = subst (λ (e : PathEnd). EndFits p path.when e) is fits.end

-- A form of a path fits its cell and is taken.
form_fits_there : (p : ScriptPlan) (when : List Part) (end : PathEnd) (d : ℕ) (cp : CellPlan) (f : Form) → EndFits p when end → slice_get p.cells d ≡ Some cp → form_of end d ≡ Some f → FormFits p when cp f × IsTakenOn when f
form_fits_there p when (Next forms) d cp f fits at at_f = (zip_at (FormFits p when) p.cells forms d cp f fits.each at at_f, all_at (IsTakenOn when) forms d f fits.taken at_f)
form_fits_there p when (Ended fault) d cp f fits at at_f = absurd (cc)

-- ---- labels

pub label_set : (p : ScriptPlan) (path : Path) (c l : ℕ) → PathFits p path → HasLabel p c l → PathFits p (with_form path c (form.Enum (label.Const l)))
label_set p path c l fits has = forms_fit p path c (form.Enum (label.Const l)) fits (record {
  kind = plan.Enum has.of has.is_enum.first;
  is = has.is_enum.is;
  fits = fitting.of_label has.of has.is_enum.first l has.within;
  taken = label_taken path.when (label.Const l) (λ d m e o. cc);
})

other_first : (p : ScriptPlan) (when : List Part) (of first other : ℕ) (f : Form) → FormFits p when (plan.Enum of first) f → FormFits p when (plan.Enum of other) f
other_first p when _ _ other _ (fitting.of_label of first l h) = fitting.of_label of other l h
other_first p when _ _ other _ (fitting.copied_label of first c h) = fitting.copied_label of other c h

pub label_copy_fits : (p : ScriptPlan) (path : Path) (c d : ℕ) (f : EnumForm) → PathFits p path → AreOfOneEnum p.cells c d → form_of path.end d ≡ Some (form.Enum f) → PathFits p (with_form path c (form.Enum f))
label_copy_fits p path c d f fits cells at =
    let (here, taken) = form_fits_there p path.when path.end d (plan.Enum cells.enum cells.from.first) (form.Enum f) fits.end cells.from.is at in
    forms_fit p path c (form.Enum f) fits (record {
      kind = plan.Enum cells.enum cells.to.first;
      is = cells.to.is;
      fits = other_first p path.when cells.enum cells.from.first cells.to.first (form.Enum f) here;
      taken = taken;
    })

-- ---- parts

pub parts_fit : (p : ScriptPlan) (path : Path) (c : ℕ) (kinds : List KindPlan) (parts : List Value) → PathFits p path → IsHoldCell p.cells c kinds → AreOfKinds p.enums kinds parts → PathFits p (with_form path c (form.Hold (hold.Const parts)))
parts_fit p path c kinds parts fits cell of = forms_fit p path c (form.Hold (hold.Const parts)) fits (record {
  kind = plan.Hold kinds cell.first;
  is = cell.is;
  fits = fitting.of_parts kinds cell.first parts of;
  taken = refl;
})

other_parts : (p : ScriptPlan) (when : List Part) (kinds : List KindPlan) (first other : List Value) (f : Form) → FormFits p when (plan.Hold kinds first) f → FormFits p when (plan.Hold kinds other) f
other_parts p when _ _ other _ (fitting.of_parts kinds first parts h) = fitting.of_parts kinds other parts h
other_parts p when _ _ other _ (fitting.copied_parts kinds first c h) = fitting.copied_parts kinds other c h

pub parts_copy_fits : (p : ScriptPlan) (path : Path) (c d : ℕ) (f : HoldForm) → PathFits p path → HaveSameKinds p.cells c d → form_of path.end d ≡ Some (form.Hold f) → PathFits p (with_form path c (form.Hold f))
parts_copy_fits p path c d f fits cells at =
    let (here, taken) = form_fits_there p path.when path.end d (plan.Hold cells.parts cells.from.first) (form.Hold f) fits.end cells.from.is at in
    forms_fit p path c (form.Hold f) fits (record {
      kind = plan.Hold cells.parts cells.to.first;
      is = cells.to.is;
      fits = other_parts p path.when cells.parts cells.from.first cells.to.first (form.Hold f) here;
      taken = taken;
    })

-- ---- words and numbers

pub words_fit : (p : ScriptPlan) (path : Path) (c : ℕ) (added : List (List ℕ)) → PathFits p path → IsWordsCell p.cells c → PathFits p (with_form path c (form.Words added))
words_fit p path c added fits cell = forms_fit p path c (form.Words added) fits (record {
  kind = plan.Words;
  is = cell.is;
  fits = fitting.of_words added;
  taken = refl;
})

pub number_fits : (p : ScriptPlan) (path : Path) (c : ℕ) (f : IntForm) → PathFits p path → IsIntCell p.cells c → NumberFitsCell p c path f → PathFits p (with_form path c (form.Int f))
number_fits p path c f fits cell number =
    let same = same_range p.cells c (int_plan cell) _ number.range cell.is refl number.is in
    forms_fit p path c (form.Int f) fits (record {
      kind = int_plan cell;
      is = cell.is;
      fits = fitting.of_number cell.lo cell.hi cell.first f (subst (λ (r : Range). NumberFits r.lo r.hi path.when f) same number.on.fits);
      taken = number.on.taken;
    })

added_fit : (p : ScriptPlan) (when : List Part) (lo hi : ℤ) {clamp : Bool} (added : List IntForm) → FormFits p when (plan.Nums lo hi clamp) (form.Nums added) → All (NumberFits lo hi when) added
added_fit p when _ _ _ (fitting.of_numbers lo hi added h) = h

pub numbers_fit : (p : ScriptPlan) (path : Path) (c : ℕ) (f : IntForm) → PathFits p path → IsNumsCell p.cells c → NumberFitsCell p c path f → PathFits p (with_form path c (form.Nums (added_numbers (form_of path.end c) ++ f ∷ [])))
numbers_fit p path c f fits cell number =
    let same = same_range p.cells c (nums_plan cell) _ number.range cell.is refl number.is in
    let (forms, is) = going_forms path.end number.on.goes_on in
    let (added, at) = nums_form p path forms c fits is cell in
    let there : form_of path.end c ≡ Some (form.Nums added) = ap (λ (e : PathEnd). form_of e c) is ∙ at in
    let (here, taken) = form_fits_there p path.when path.end c (nums_plan cell) (form.Nums added) fits.end cell.is there in
    let last : NumberFits cell.lo cell.hi path.when f = subst (λ (r : Range). NumberFits r.lo r.hi path.when f) same number.on.fits in
    let more : List IntForm = added ++ f ∷ [] in
    let old : added_numbers (form_of path.end c) ≡ added = ap added_numbers there in
    subst (λ (xs : List IntForm). PathFits p (with_form path c (form.Nums (xs ++ f ∷ [])))) (sym old)
    (forms_fit p path c (form.Nums more) fits (record {
      kind = nums_plan cell;
      is = cell.is;
      fits = fitting.of_numbers cell.lo cell.hi more (All-append (NumberFits cell.lo cell.hi path.when) added (f ∷ []) (added_fit p path.when cell.lo cell.hi added here) (All-cons (NumberFits cell.lo cell.hi path.when) f [] last (all_from (NumberFits cell.lo cell.hi path.when) [] (λ i x e. absurd (cc)))));
      taken = zip_both (NumberIsTakenTo path.when) added added f f number.on.taken taken;
    }))
