-- Whether an enum cell holds a label, at the states that a path admits.
use Rattle.std.proofs.Common.{◌≡◌, ◌≢◌, ◌↔◌, ℕ, Bool, true, false, not, ◌==◌, inl, inr, List, [], ◌∷◌, ◌++◌, Option, Some, None, Ok, refl, sym, ap, ◌∙◌, subst}
use Rattle.std.proofs.lemmas.Bool.{cases_eq, eq-eqb, ne_eqb, false_from_ne_true}
use Rattle.std.specs.Prelude.{slice_get, IsTrue}
use Rattle.sym_base.specs.States.{label_at, cell_label}
use Rattle.sym_base.specs.declared.values.state.Cell.{Cell}
use Rattle.sym_base.specs.declared.values.state.Cell.TheVariants as cell
use Rattle.sym_base.specs.declared.values.state.State.{State}
use Rattle.sym_base.specs.Tests.{Truth}
use Rattle.sym_check.specs.declared.plan.script.CellPlan.{CellPlan}
use Rattle.sym_check.specs.declared.plan.script.CellPlan.TheVariants as plan
use Rattle.sym_check.specs.Plan.CellKinds.{IsEnumCell}
use Rattle.sym_check.specs.Meaning.Conditions.{test_truth}
use Rattle.sym_check.specs.Plan.ScriptPlans.{ScriptPlan}
use Rattle.sym_enum.specs.Labels.{has_label, label_value}
use Rattle.sym_enum.specs.declared.form.EnumForm.{EnumForm}
use Rattle.sym_enum.specs.declared.form.EnumForm.TheVariants as label
use Rattle.sym_enum.specs.declared.label_set.LabelSet.{LabelSet}
use Rattle.sym_path.specs.declared.part.Part.{Part}
use Rattle.sym_path.specs.declared.part.Part.TheVariants as part
use Rattle.sym_path.specs.declared.form.Form.{Form}
use Rattle.sym_path.specs.declared.form.Form.TheVariants as form
use Rattle.sym_path.specs.declared.path.PathEnd.{PathEnd}
use Rattle.sym_path.specs.declared.path.PathEnd.TheVariants.{Next, Ended}
use Rattle.sym_path.specs.declared.path.Path.{Path}
use Rattle.sym_path.specs.Admitting.{PartAdmits, admits}
use Rattle.sym_path.specs.Changing.{GoesOn, form_of}
use Rattle.sym_path.specs.Fitting.{PartFits, FormFits, EndFits, PathFits}
use Rattle.sym_path.specs.Fitting as fitting
use Rattle.sym_path.specs.Giving.{state_at}
use Rattle.sym_path.specs.Narrowing.{cell_admitted, GivesWhere, IsSubset, NarrowsLabels}
use Rattle.sym_path.proofs.Decided.{admits_decided}
use Rattle.sym_path.proofs.FollowedStates.{cells_at_get}
use Rattle.sym_path.proofs.Lists.{zip_get}
use Rattle.sym_path.proofs.Possibly.{some_label}
use Rattle.sym_explore.specs.declared.branch.Branch.{Branch}
use Rattle.sym_explore.specs.Branches.{judged, answered, Splits}
use Rattle.sym_explore.specs.Labels.{enum_form, label_form, set_in, set_of, cell_has, WasSplit}
use Rattle.sym_explore.proofs.JudgedBranches.{Judged, branch_of, known_truth, split_truth, going_answers}

-- ---- the labels and the form of an enum cell

enum_part : (p : ScriptPlan) (path : Path) (c of : ℕ) → IsEnumCell p.cells c of → PathFits p path → (set : LabelSet) × (slice_get path.when c ≡ Some (part.Set set))
enum_part p path c of h fits =
    let found = zip_get (PartFits p) p.cells path.when c (plan.Enum of h.first) fits.parts h.is in
    go (plan.Enum of h.first) found.0 refl found.1 found.2
  where
    go : (cp : CellPlan) (now : Part) → cp ≡ plan.Enum of h.first → slice_get path.when c ≡ Some now → PartFits p cp now → (set : LabelSet) × (slice_get path.when c ≡ Some (part.Set set))
    go _ _ e at (fitting.labels of' first set g) = (set, at)
    go _ _ e at (fitting.numbers lo hi first span g) = absurd (cc)
    go _ _ e at (fitting.parts kinds first known g) = absurd (cc)
    go _ _ e at (fitting.free_nums lo hi) = absurd (cc)
    go _ _ e at fitting.free_words = absurd (cc)

pub has_set : (p : ScriptPlan) (path : Path) (c of : ℕ) → IsEnumCell p.cells c of → PathFits p path → set_of path c ≡ None → ⊥
has_set p path c of h fits none = let found = enum_part p path c of h fits in let e : set_of path c ≡ Some found.0 = ap set_in found.1 in cc

pub set_is : (p : ScriptPlan) (path : Path) (c of : ℕ) (set : LabelSet) → IsEnumCell p.cells c of → PathFits p path → set_of path c ≡ Some set → slice_get path.when c ≡ Some (part.Set set)
set_is p path c of set h fits same =
    let found = enum_part p path c of h fits in
    let e : set_of path c ≡ Some found.0 = ap set_in found.1 in
    let both : found.0 ≡ set = cc in
    found.1 ∙ ap (λ (x : LabelSet). Some (part.Set x)) both

-- An enum cell of a path that goes on has the form of one.
record EnumFormOf (p : ScriptPlan) (path : Path) (c of : ℕ) : Type 0 where
  forms : List Form
  label : EnumForm
  end : path.end ≡ Next forms
  is : slice_get forms c ≡ Some (form.Enum label)
  known : label_form path c ≡ Some label
  first : ℕ
  fits : FormFits p path.when (plan.Enum of first) (form.Enum label)

end_is : (path : Path) (end : PathEnd) (c : ℕ) (f : Form) → path.end ≡ end → form_of end c ≡ Some f → label_form path c ≡ enum_form (Some f)
end_is path end c f e is = ap (λ (x : PathEnd). enum_form (form_of x c)) e ∙ ap enum_form is

enum_form_of : (p : ScriptPlan) (path : Path) (c of : ℕ) → IsEnumCell p.cells c of → PathFits p path → GoesOn path.end → EnumFormOf p path c of
enum_form_of p path c of h fits = go path.end refl fits.end
  where
    form_is : (forms : List Form) (cp : CellPlan) (f : Form) → path.end ≡ Next forms → cp ≡ plan.Enum of h.first → slice_get forms c ≡ Some f → FormFits p path.when cp f → EnumFormOf p path c of
    form_is forms _ _ e same at (fitting.of_label of' first l g) =
        let k : plan.Enum of' first ≡ plan.Enum of h.first = same in
        record { forms = forms; label = label.Const l; end = e; is = at; known = end_is path (Next forms) c _ e at; first = h.first; fits = subst (λ (x : CellPlan). FormFits p path.when x (form.Enum (label.Const l))) k (fitting.of_label of' first l g) }
    form_is forms _ _ e same at (fitting.copied_label of' first d g) =
        let k : plan.Enum of' first ≡ plan.Enum of h.first = same in
        record { forms = forms; label = label.Copy d; end = e; is = at; known = end_is path (Next forms) c _ e at; first = h.first; fits = subst (λ (x : CellPlan). FormFits p path.when x (form.Enum (label.Copy d))) k (fitting.copied_label of' first d g) }
    form_is forms _ _ e same at (fitting.of_number lo hi first f g) = absurd (cc)
    form_is forms _ _ e same at (fitting.of_parts kinds first parts g) = absurd (cc)
    form_is forms _ _ e same at (fitting.copied_parts kinds first d g) = absurd (cc)
    form_is forms _ _ e same at (fitting.of_numbers lo hi added g) = absurd (cc)
    form_is forms _ _ e same at (fitting.of_words added) = absurd (cc)

    go : (end : PathEnd) → path.end ≡ end → EndFits p path.when end → GoesOn end → EnumFormOf p path c of
    go (Next forms) e ends on =
        let found = zip_get (FormFits p path.when) p.cells forms c (plan.Enum of h.first) ends.each h.is in
        form_is forms (plan.Enum of h.first) found.0 e refl found.1 found.2
    go (Ended fault) e ends on = absurd on

pub goes_on_with : (path : Path) (c : ℕ) (f : EnumForm) → label_form path c ≡ Some f → GoesOn path.end
goes_on_with path c f = go path.end
  where
    go : (end : PathEnd) → enum_form (form_of end c) ≡ Some f → GoesOn end
    go (Next forms) e = tt
    go (Ended fault) e = absurd (cc)

pub ended_without : (p : ScriptPlan) (path : Path) (c of : ℕ) → IsEnumCell p.cells c of → PathFits p path → label_form path c ≡ None → ¬ (GoesOn path.end)
ended_without p path c of h fits none on = let found = enum_form_of p path c of h fits on in let e = found.known in cc

pub copied_enum : (p : ScriptPlan) (path : Path) (c of from : ℕ) → IsEnumCell p.cells c of → PathFits p path → label_form path c ≡ Some (label.Copy from) → IsEnumCell p.cells from of
copied_enum p path c of from h fits same =
    let found = enum_form_of p path c of h fits (goes_on_with path c (label.Copy from) same) in
    let known = found.known in
    let is : form.Enum found.label ≡ form.Enum (label.Copy from) = cc in
    go (plan.Enum of found.first) (form.Enum found.label) refl is found.fits
  where
    go : {first : ℕ} (cp : CellPlan) (f : Form) → cp ≡ plan.Enum of first → f ≡ form.Enum (label.Copy from) → FormFits p path.when cp f → IsEnumCell p.cells from of
    go _ _ e g (fitting.of_label of' first l k) = absurd (cc)
    go _ _ e g (fitting.copied_label of' first d k) =
        let cell : d ≡ from = cc in
        let enum : of' ≡ of = cc in
        subst (λ (x : ℕ). IsEnumCell p.cells from x) enum (subst (λ (x : ℕ). IsEnumCell p.cells x of') cell k)
    go _ _ e g (fitting.of_number lo hi first f k) = absurd (cc)
    go _ _ e g (fitting.of_parts kinds first parts k) = absurd (cc)
    go _ _ e g (fitting.copied_parts kinds first d k) = absurd (cc)
    go _ _ e g (fitting.of_numbers lo hi added k) = absurd (cc)
    go _ _ e g (fitting.of_words added) = absurd (cc)

-- ---- the label at a state that the path admits

record LabelHeld (set : LabelSet) (s : State) (c : ℕ) : Type 0 where
  holds : slice_get s.cells c ≡ Some (cell.Enum (label_at s c))
  has : has_label set (label_at s c) ≡ true

label_held : (tests : Truth) (when : List Part) (s : State) (c : ℕ) (set : LabelSet) → slice_get when c ≡ Some (part.Set set) → admits tests when s.cells ≡ true → LabelHeld set s c
label_held tests when s c set is admitted =
    let found = zip_get (PartAdmits tests) when s.cells c (part.Set set) ((admits_decided tests when s).0 admitted) is in
    go found.0 found.1 found.2
  where
    go : (x : Cell) → slice_get s.cells c ≡ Some x → PartAdmits tests (part.Set set) x → LabelHeld set s c
    go (cell.Enum l) e h =
        let at : label_at s c ≡ l = ap cell_label e in
        record { holds = e ∙ ap (λ (k : ℕ). Some (cell.Enum k)) (sym at); has = ap (has_label set) at ∙ h }
    go (cell.Int x) e h = absurd h
    go (cell.Hold ps) e h = absurd h
    go (cell.Nums xs) e h = absurd h
    go (cell.Words ts) e h = absurd h

-- The label after the path is that of the form.
pub label_after : (p : ScriptPlan) (tests : Truth) (path : Path) (s : State) (c of : ℕ) (f : EnumForm) → IsEnumCell p.cells c of → PathFits p path → label_form path c ≡ Some f → admits tests path.when s.cells ≡ true → (forms : List Form) → path.end ≡ Next forms → label_at (state_at forms s) c ≡ label_value f s
label_after p tests path s c of f h fits same admitted forms end =
    let found = enum_form_of p path c of h fits (goes_on_with path c f same) in
    let known = found.known in
    let its = found.end in
    let one : found.label ≡ f = cc in
    let lists : found.forms ≡ forms = cc in
    let set = enum_part p path c of h fits in
    let held = label_held tests path.when s c set.0 set.1 admitted in
    let is : slice_get forms c ≡ Some (form.Enum f) =
    ap (λ (x : List Form). slice_get x c) (sym lists) ∙ found.is ∙ ap (λ (x : EnumForm). Some (form.Enum x)) one in
    ap cell_label (cells_at_get forms s s.cells c (form.Enum f) (cell.Enum (label_at s c)) is held.holds)

-- ---- a set that is split by a label

abbrev IsOnly : LabelSet → ℕ → LabelSet → Type 0
IsOnly set l only = (other : ℕ) → IsTrue (has_label only other) ↔ (IsTrue (has_label set other) × (other ≡ l))

abbrev IsRest : LabelSet → ℕ → LabelSet → Type 0
IsRest set l rest = (other : ℕ) → IsTrue (has_label rest other) ↔ (IsTrue (has_label set other) × (other ≢ l))

only_has : (set only : LabelSet) (l m : ℕ) → IsOnly set l only → has_label set m ≡ true → has_label only m ≡ (m == l)
only_has set only l m h has = elim (cases_eq m l) [
  | inl e ↦ (h m).1 (has, e) ∙ sym (eq-eqb m l e)
  | inr e ↦ false_from_ne_true (has_label only m) (λ t. e ((h m).0 t).1) ∙ sym (ne_eqb m l e)
]

rest_has : (set rest : LabelSet) (l m : ℕ) → IsRest set l rest → has_label set m ≡ true → has_label rest m ≡ not (m == l)
rest_has set rest l m h has = elim (cases_eq m l) [
  | inl e ↦ false_from_ne_true (has_label rest m) (λ t. ((h m).0 t).1 e) ∙ sym (ap not (eq-eqb m l e))
  | inr e ↦ (h m).1 (has, e) ∙ sym (ap not (ne_eqb m l e))
]

turned_back : (x : Bool) → not x ≡ false → x ≡ true
turned_back true e = refl
turned_back false e = absurd (cc)

pub subset_only : (set only : LabelSet) (l : ℕ) (b : Bool) → IsOnly set l only → (IsTrue b ↔ ((m : ℕ) → has_label only m ≡ false)) → b ≡ false → IsSubset set only
subset_only set only l b h empty some = record {
  some = some_label only (λ none. let e : b ≡ true = empty.1 none in cc);
  within = λ m t. ((h m).0 t).0;
}

pub subset_rest : (set rest : LabelSet) (l : ℕ) (b : Bool) → IsRest set l rest → (IsTrue b ↔ ((m : ℕ) → has_label rest m ≡ false)) → b ≡ false → IsSubset set rest
subset_rest set rest l b h empty some = record {
  some = some_label rest (λ none. let e : b ≡ true = empty.1 none in cc);
  within = λ m t. ((h m).0 t).0;
}

pub narrows : (path : Path) (c : ℕ) (set new : LabelSet) → slice_get path.when c ≡ Some (part.Set set) → IsSubset set new → NarrowsLabels new (slice_get path.when c)
narrows path c set new is h = subst (λ (o : Option Part). NarrowsLabels new o) (sym is) h

-- ---- what comes of the split

-- The label is surely not held, or surely held.
pub split_never : (p : ScriptPlan) (path : Path) (branches : List Branch) (c l : ℕ) (set only : LabelSet) → slice_get path.when c ≡ Some (part.Set set) → IsOnly set l only → ((m : ℕ) → has_label only m ≡ false) → WasSplit p c l path branches path branches false
split_never p path branches c l set only is h none s =
    let tests = test_truth p.tests in
    ap (λ (js : Judged). judged tests branches s ++ js) (known_truth tests path s false (label_at s c == l) (λ admitted.
    let held = label_held tests path.when s c set is admitted in
    sym (none (label_at s c)) ∙ only_has set only l (label_at s c) h held.has))

pub split_always : (p : ScriptPlan) (path : Path) (branches : List Branch) (c l : ℕ) (set rest : LabelSet) → slice_get path.when c ≡ Some (part.Set set) → IsRest set l rest → ((m : ℕ) → has_label rest m ≡ false) → WasSplit p c l path branches path branches true
split_always p path branches c l set rest is h none s =
    let tests = test_truth p.tests in
    ap (λ (js : Judged). judged tests branches s ++ js) (known_truth tests path s true (label_at s c == l) (λ admitted.
    let held = label_held tests path.when s c set is admitted in
    sym (turned_back (label_at s c == l) (sym (rest_has set rest l (label_at s c) h held.has) ∙ none (label_at s c)))))

pub split_both : (p : ScriptPlan) (old copy path : Path) (branches : List Branch) (c l : ℕ) (set only rest : LabelSet) → slice_get old.when c ≡ Some (part.Set set) → IsOnly set l only → IsRest set l rest → GivesWhere old c (part.Set only) copy → GivesWhere old c (part.Set rest) path → WasSplit p c l old branches path (branches ++ branch_of copy true ∷ []) false
split_both p old copy path branches c l set only rest is h g one other s =
    let tests = test_truth p.tests in
    split_truth tests branches old copy path s (label_at s c == l)
    (cell_admitted tests (part.Set only) (slice_get s.cells c))
    (cell_admitted tests (part.Set rest) (slice_get s.cells c))
    (one tests s) (other tests s)
    (λ admitted.
    let held = label_held tests old.when s c set is admitted in
    ap (cell_admitted tests (part.Set only)) held.holds ∙ only_has set only l (label_at s c) h held.has)
    (λ admitted.
    let held = label_held tests old.when s c set is admitted in
    ap (cell_admitted tests (part.Set rest)) held.holds ∙ rest_has set rest l (label_at s c) g held.has)

-- ---- what comes of the question

-- A constant label is compared.
pub const_splits : (p : ScriptPlan) (path : Path) (branches : List Branch) (c of l own : ℕ) → IsEnumCell p.cells c of → PathFits p path → label_form path c ≡ Some (label.Const own) → (n : ℕ) → Splits p (answered n (cell_has c l)) path branches path branches (own == l)
const_splits p path branches c of l own h fits same n s =
    let tests = test_truth p.tests in
    ap (λ (js : Judged). judged tests branches s ++ js)
    (going_answers tests path s n (cell_has c l) (own == l) (goes_on_with path c (label.Const own) same)
    (λ admitted forms end. ap (λ (k : ℕ). Ok (k == l)) (label_after p tests path s c of (label.Const own) h fits same admitted forms end)))

-- A copied label is that before the path.
pub copy_splits : (p : ScriptPlan) (old path : Path) (before after : List Branch) (c of l from : ℕ) (last : Bool) → IsEnumCell p.cells c of → PathFits p old → label_form old c ≡ Some (label.Copy from) → WasSplit p from l old before path after last → (n : ℕ) → Splits p (answered n (cell_has c l)) old before path after last
copy_splits p old path before after c of l from last h fits same split n s =
    let tests = test_truth p.tests in
    split s
    ∙ ap (λ (js : Judged). judged tests before s ++ js)
    (going_answers tests old s n (cell_has c l) (label_at s from == l) (goes_on_with old c (label.Copy from) same)
    (λ admitted forms end. ap (λ (k : ℕ). Ok (k == l)) (label_after p tests old s c of (label.Copy from) h fits same admitted forms end)))
