-- What fits a script, at a valid state that a path admits.
use Rattle.std.proofs.Common.{◌≡◌, ◌<◌, ℕ, ℤ, Bool, List, [], ◌∷◌, ◌++◌, Option, Some, None, map, refl, sym, ap, ◌∙◌, arith}
use Rattle.std.proofs.lemmas.Int.{ints}
use Rattle.std.proofs.lemmas.List.Elements.{All-append, All-map}
use Rattle.std.specs.Prelude.{slice_get}
use Rattle.std.specs.List.{All, AllZip}
use Rattle.sym_base.specs.Limits.{IsNumber}
use Rattle.sym_base.specs.States.{number_at, cell_number, label_at, cell_label, parts_at, cell_parts}
use Rattle.sym_base.specs.declared.values.value.Value.{Value}
use Rattle.sym_base.specs.declared.values.state.Cell.{Cell}
use Rattle.sym_base.specs.declared.values.state.Cell.TheVariants as cell
use Rattle.sym_base.specs.declared.values.state.State.{State}
use Rattle.sym_check.specs.declared.plan.script.KindPlan.{KindPlan}
use Rattle.sym_check.specs.declared.plan.script.CellPlan.{CellPlan}
use Rattle.sym_check.specs.declared.plan.script.CellPlan.TheVariants as plan
use Rattle.sym_check.specs.Plan.ScriptPlans.{ScriptPlan}
use Rattle.sym_base.specs.States.{cell_nums, cell_words}
use Rattle.sym_check.specs.Plan.Ranges.{InRange}
use Rattle.sym_check.specs.Meaning.Validity.{label_count, AreOfKinds, IsValidCell, IsValid, IsValidOutcome}
use Rattle.sym_check.specs.Meaning.Validity as valid
use Rattle.sym_check.specs.Plan.WellFormed.{IsCell, IsWellFormed}
use Rattle.sym_int.specs.Lines.{form_on, form_value}
use Rattle.sym_int.specs.Points.{HasPoint}
use Rattle.sym_int.specs.declared.form.IntForm.{IntForm}
use Rattle.sym_int.specs.declared.form.IntForm.TheVariants as number
use Rattle.sym_int.specs.declared.form.Line.{Line}
use Rattle.sym_int.specs.declared.span.Span.{Span}
use Rattle.sym_base.specs.Tests.{Truth}
use Rattle.sym_path.specs.declared.part.Part.{Part}
use Rattle.sym_path.specs.declared.part.Part.TheVariants as part
use Rattle.sym_path.specs.declared.form.Form.{Form}
use Rattle.sym_path.specs.declared.path.PathEnd.{PathEnd}
use Rattle.sym_path.specs.declared.path.PathEnd.TheVariants.{Next, Ended}
use Rattle.sym_path.specs.Admitting.{PartAdmits, Admits}
use Rattle.sym_path.specs.Fitting.{StaysWithin, NumberFits, FormFits, FormsFit, EndFits, PathFits}
use Rattle.sym_path.specs.Fitting as fitting
use Rattle.sym_path.specs.Giving.{cell_at, cells_at, state_at, end_at, HasNumbers, nums_after}
use Rattle.sym_path.proofs.Lists.{zip_get, zip_get_right, all_from, all_at}

pub number_between : (lo hi x : ℤ) → IsNumber lo → IsNumber hi → InRange lo hi x → IsNumber x
number_between lo hi x l h r = let a = r.0 in let b = r.1 in omega (arith, ints)

-- What an admitted integer cell holds.
pub number_held : (truth : Truth) (when : List Part) (s : State) (c : ℕ) (span : Span) → Admits truth when s → slice_get when c ≡ Some (part.Span span) → (slice_get s.cells c ≡ Some (cell.Int (number_at s c))) × HasPoint span (number_at s c)
number_held truth when s c span h e = go (zip_get (PartAdmits truth) when s.cells c (part.Span span) h e)
  where
    go : (x : Cell) × (slice_get s.cells c ≡ Some x) × PartAdmits truth (part.Span span) x → (slice_get s.cells c ≡ Some (cell.Int (number_at s c))) × HasPoint span (number_at s c)
    go (cell.Enum l, is, a) = absurd a
    go (cell.Int x, is, a) = let same : number_at s c ≡ x = ap cell_number is in (is ∙ ap (λ (v : ℤ). Some (cell.Int v)) (sym same), rw same a)
    go (cell.Hold ps, is, a) = absurd a
    go (cell.Nums xs, is, a) = absurd a
    go (cell.Words ts, is, a) = absurd a

module _ (truth : Truth) (p : ScriptPlan) (when : List Part) (s : State) (admitted : Admits truth when s) where
  line_in_range : (lo hi : ℤ) (line : Line) (o : Option Part) → slice_get when line.cell ≡ o → StaysWithin lo hi (form_on (number.Line line)) o → InRange lo hi (form_value (number.Line line) s)
  line_in_range lo hi line None e h = absurd h
  line_in_range lo hi line (Some (part.Set set)) e h = absurd h
  line_in_range lo hi line (Some (part.Span span)) e h = h (number_at s line.cell) (number_held truth when s line.cell span admitted e).1
  line_in_range lo hi line (Some (part.Facts known)) e h = absurd h
  line_in_range lo hi line (Some part.Free) e h = absurd h

  -- A number form lies in its range at the state.
  number_in_range : (lo hi : ℤ) (f : IntForm) → NumberFits lo hi when f → InRange lo hi (form_value f s)
  number_in_range lo hi (number.Const n) h = h
  number_in_range lo hi (number.Line line) h = line_in_range lo hi line (slice_get when line.cell) refl h

  has_numbers : (cp : CellPlan) (f : Form) → IsCell p.enums cp → FormFits p when cp f → HasNumbers s f
  has_numbers _ _ w (fitting.of_label of first l h) = tt
  has_numbers _ _ w (fitting.copied_label of first c h) = tt
  has_numbers _ _ w (fitting.of_number lo hi first f h) = number_between lo hi (form_value f s) w.0 w.1 (number_in_range lo hi f h)
  has_numbers _ _ w (fitting.of_parts kinds first parts h) = tt
  has_numbers _ _ w (fitting.copied_parts kinds first c h) = tt
  has_numbers _ _ w (fitting.of_numbers lo hi added h) =
      all_from (λ f. IsNumber (form_value f s)) added (λ i f e. number_between lo hi (form_value f s) w.0 w.1 (number_in_range lo hi f (all_at (NumberFits lo hi when) added i f h e)))
  has_numbers _ _ w (fitting.of_words added) = tt

  module _ (is_valid : IsValid p s) where
    copied_is : (c enum first : ℕ) → slice_get p.cells c ≡ Some (plan.Enum enum first) → label_at s c < label_count p.enums enum
    copied_is c enum first e = go (zip_get (IsValidCell p.enums) p.cells s.cells c (plan.Enum enum first) is_valid e)
      where
        held : (x : Cell) → IsValidCell p.enums (plan.Enum enum first) x → cell_label (Some x) < label_count p.enums enum
        held _ (valid.enum _ _ l h) = h

        go : (x : Cell) × (slice_get s.cells c ≡ Some x) × IsValidCell p.enums (plan.Enum enum first) x → label_at s c < label_count p.enums enum
        go (x, is, v) = rw is (held x v)

    copied_parts_are : (c : ℕ) (kinds : List KindPlan) (first : List Value) → slice_get p.cells c ≡ Some (plan.Hold kinds first) → AreOfKinds p.enums kinds (parts_at s c)
    copied_parts_are c kinds first e = go (zip_get (IsValidCell p.enums) p.cells s.cells c (plan.Hold kinds first) is_valid e)
      where
        held : (x : Cell) → IsValidCell p.enums (plan.Hold kinds first) x → AreOfKinds p.enums kinds (cell_parts (Some x))
        held _ (valid.hold _ _ parts h) = h

        go : (x : Cell) × (slice_get s.cells c ≡ Some x) × IsValidCell p.enums (plan.Hold kinds first) x → AreOfKinds p.enums kinds (parts_at s c)
        go (x, is, v) = rw is (held x v)

    nums_are : (lo hi : ℤ) {clamp : Bool} (old : Cell) → IsValidCell p.enums (plan.Nums lo hi clamp) old → All (InRange lo hi) (cell_nums (Some old))
    nums_are _ _ _ (valid.nums lo hi clamp xs h) = h

    map_all : {A B : Type 0} (f : A → B) (P : B → Type 0) (xs : List A) → All (λ x. P (f x)) xs → All P (map f xs)
    map_all f P xs h = All-map P f xs h

    -- The cell that a form makes is one that the cell may hold.
    cell_valid : (cp : CellPlan) (f : Form) (old : Cell) → FormFits p when cp f → IsValidCell p.enums cp old → IsValidCell p.enums cp (cell_at f s old)
    cell_valid _ _ old (fitting.of_label of first l h) v = valid.enum of first l h
    cell_valid _ _ old (fitting.copied_label of first c h) v = valid.enum of first (label_at s c) (copied_is c of h.first h.is)
    cell_valid _ _ old (fitting.of_number lo hi first f h) v = valid.int lo hi first _ (form_value f s) (number_in_range lo hi f h)
    cell_valid _ _ old (fitting.of_parts kinds first parts h) v = valid.hold kinds first parts h
    cell_valid _ _ old (fitting.copied_parts kinds first c h) v = valid.hold kinds first (parts_at s c) (copied_parts_are c kinds h.first h.is)
    cell_valid _ _ old (fitting.of_numbers lo hi added h) v =
        valid.nums lo hi _ (nums_after added s old)
        (All-append (InRange lo hi) (cell_nums (Some old)) (map (λ f. form_value f s) added) (nums_are lo hi old v)
        (map_all (λ f. form_value f s) (InRange lo hi) added (all_from (λ f. InRange lo hi (form_value f s)) added (λ i f e. number_in_range lo hi f (all_at (NumberFits lo hi when) added i f h e)))))
    cell_valid _ _ old (fitting.of_words added) v = valid.words (cell_words (Some old) ++ added)

    cells_valid : (cells : List CellPlan) (forms : List Form) (olds : List Cell) → AllZip (FormFits p when) cells forms → AllZip (IsValidCell p.enums) cells olds → AllZip (IsValidCell p.enums) cells (cells_at forms s olds)
    cells_valid [] [] olds h v = tt
    cells_valid [] (f ∷ forms) olds h v = absurd h
    cells_valid (cp ∷ cells) [] olds h v = absurd h
    cells_valid (cp ∷ cells) (f ∷ forms) [] h v = absurd v
    cells_valid (cp ∷ cells) (f ∷ forms) (old ∷ olds) h v = (cell_valid cp f old h.0 v.0, cells_valid cells forms olds h.1 v.1)

pub forms_have_numbers : (truth : Truth) (p : ScriptPlan) (when : List Part) (forms : List Form) (s : State) → IsWellFormed p → FormsFit p when forms → Admits truth when s → All (HasNumbers s) forms
forms_have_numbers truth p when forms s w h a = all_from (HasNumbers s) forms each
  where
    each : (i : ℕ) (f : Form) → slice_get forms i ≡ Some f → HasNumbers s f
    each i f e =
        let found = zip_get_right (FormFits p when) p.cells forms i f h.each e in
        has_numbers truth p when s a found.0 f (all_at (IsCell p.enums) p.cells i found.0 w.cells found.1) found.2

pub state_valid : (truth : Truth) (p : ScriptPlan) (when : List Part) (forms : List Form) (s : State) → FormsFit p when forms → Admits truth when s → IsValid p s → IsValid p (state_at forms s)
state_valid truth p when forms s h a v = cells_valid truth p when s a v p.cells forms s.cells h.each v

pub end_valid : (truth : Truth) (p : ScriptPlan) (when : List Part) (end : PathEnd) (s : State) → EndFits p when end → Admits truth when s → IsValid p s → IsValidOutcome p (end_at end s)
end_valid truth p when (Next forms) s h a v = state_valid truth p when forms s h a v
end_valid truth p when (Ended fault) s h a v = tt
