-- An end that is another one taken on a constraint gives what that one gives where the constraint
-- admits.
use Rattle.std.proofs.Common.{◌≡◌, ◌≢◌, ℕ, ℤ, ◌+ℤ◌, ◌*ℤ◌, List, [], ◌∷◌, ◌++◌, Some, ◌⊎◌, inl, inr, map, refl, sym, ap, ◌∙◌, arith}
use Rattle.std.proofs.lemmas.Bool.{cases_eq}
use Rattle.std.proofs.lemmas.Int.{ints, by_lt_z}
use Rattle.std.specs.List.{AllZip}
use Rattle.sym_base.specs.States.{number_at, label_at, cell_label, cell_nums}
use Rattle.sym_base.specs.declared.values.state.Cell.{Cell}
use Rattle.sym_base.specs.declared.values.state.Cell.TheVariants as cell
use Rattle.sym_base.specs.declared.values.state.State.{State}
use Rattle.sym_base.specs.declared.values.state.Outcome.{Outcome}
use Rattle.sym_base.specs.declared.values.state.Outcome.TheVariants.{Going}
use Rattle.sym_base.specs.Tests.{Truth}
use Rattle.sym_enum.specs.Labels.{label_value}
use Rattle.sym_enum.specs.declared.form.EnumForm.{EnumForm}
use Rattle.sym_enum.specs.declared.form.EnumForm.TheVariants as label
use Rattle.sym_int.specs.Lines.{form_on, form_cell, form_value, offset}
use Rattle.sym_int.specs.declared.form.IntForm.{IntForm}
use Rattle.sym_int.specs.declared.form.IntForm.TheVariants as number
use Rattle.sym_path.specs.declared.part.Part.{Part}
use Rattle.sym_path.specs.declared.part.Part.TheVariants as part
use Rattle.sym_path.specs.declared.form.Form.{Form}
use Rattle.sym_path.specs.declared.form.Form.TheVariants as form
use Rattle.sym_path.specs.declared.path.PathEnd.{PathEnd}
use Rattle.sym_path.specs.declared.path.PathEnd.TheVariants.{Next, Ended}
use Rattle.sym_path.specs.Admitting.{PartAdmits, Admits}
use Rattle.sym_path.specs.Giving.{cell_at, cells_at, end_at}
use Rattle.sym_path.specs.Joins.{EndIsTakenTo}
use Rattle.sym_path.specs.Taking.{HasOneLabel, HasOneNumber, copied_cell, LabelIsTakenTo, NumberIsTakenTo, IsTakenTo, AreTakenTo}
use Rattle.sym_path.proofs.Fitted.{number_held}
use Rattle.sym_path.proofs.Lists.{zip_get}
use Rattle.sym_path.proofs.Narrowed.{constant_value}

cases_z : (x y : ℤ) → (x ≡ y) ⊎ (x ≢ y)
cases_z x y = by_lt_z x y (λ p. inr (λ e. omega (arith, ints))) (λ p. by_lt_z y x (λ q. inr (λ e. omega (arith, ints))) (λ q. inl (omega (arith, ints))))

module _ (truth : Truth) (when : List Part) (s : State) (admitted : Admits truth when s) where
  -- The state holds the only label, or number, of a cell.
  label_there : (c l : ℕ) → HasOneLabel when c l → label_at s c ≡ l
  label_there c l o = let found = zip_get (PartAdmits truth) when s.cells c (part.Set o.set) admitted o.is in ap cell_label found.1 ∙ go found.0 found.2
    where
      go : (y : Cell) → PartAdmits truth (part.Set o.set) y → cell_label (Some y) ≡ l
      go (cell.Enum m) r = (o.only m).0 r
      go (cell.Int x) r = absurd r
      go (cell.Hold ps) r = absurd r
      go (cell.Nums xs) r = absurd r
      go (cell.Words ts) r = absurd r

  number_there : (c : ℕ) (x : ℤ) → HasOneNumber when c x → number_at s c ≡ x
  number_there c x o =
      let point = (number_held truth when s c o.span admitted o.is).1 in
      let a = point.0 in let b = point.1 in let lo = o.lo in let hi = o.hi in
      omega (arith, ints)

  label_same : (f g : EnumForm) → LabelIsTakenTo when f g → label_value g s ≡ label_value f s
  label_same f g h = elim (cases_eq (label_value g s) (label_value f s)) [
    | inl e ↦ e
    | inr ne ↦ ap (λ k. label_value k s) (h.more (λ c l q o. ne (ap (λ k. label_value k s) (h.one c l q o) ∙ sym (label_there c l o) ∙ sym (copied f c q))))
  ]
    where
      copied : (f : EnumForm) (c : ℕ) → copied_cell f ≡ Some c → label_value f s ≡ label_at s c
      copied (label.Const l) c q = absurd (cc)
      copied (label.Copy d) c q = let same : d ≡ c = cc in ap (λ k. label_at s k) same

  number_same : (f g : IntForm) → NumberIsTakenTo when f g → form_value g s ≡ form_value f s
  number_same f g h = elim (cases_z (form_value g s) (form_value f s)) [
    | inl e ↦ e
    | inr ne ↦ ap (λ k. form_value k s) (h.more (λ c x q o. ne (constant_value (form_on f x) g s (h.one c x q o) ∙ ap (λ (t : ℤ). form_on f t) (sym (number_there c x o)) ∙ sym (named f c q))))
  ]
    where
      named : (f : IntForm) (c : ℕ) → form_cell f ≡ Some c → form_value f s ≡ form_on f (number_at s c)
      named (number.Const n) c q = absurd (cc)
      named (number.Line line) c q = let same : line.cell ≡ c = cc in ap (λ k. line.a *ℤ number_at s k +ℤ offset line) same

  numbers_same : (fs gs : List IntForm) → AllZip (NumberIsTakenTo when) fs gs → map (λ f. form_value f s) gs ≡ map (λ f. form_value f s) fs
  numbers_same [] [] h = refl
  numbers_same [] (g ∷ gs) h = absurd h
  numbers_same (f ∷ fs) [] h = absurd h
  numbers_same (f ∷ fs) (g ∷ gs) h =
      let first = number_same f g h.0 in
      let rest = numbers_same fs gs h.1 in
      λ i. first i ∷ rest i

  cell_same : (f g : Form) (old : Cell) → IsTakenTo when f g → cell_at g s old ≡ cell_at f s old
  cell_same (form.Enum f) (form.Enum g) old h = ap cell.Enum (label_same f g h)
  cell_same (form.Enum f) (form.Int g) old h = absurd h
  cell_same (form.Enum f) (form.Hold g) old h = absurd h
  cell_same (form.Enum f) (form.Nums g) old h = absurd h
  cell_same (form.Enum f) (form.Words g) old h = absurd h
  cell_same (form.Int f) (form.Enum g) old h = absurd h
  cell_same (form.Int f) (form.Int g) old h = ap cell.Int (number_same f g h)
  cell_same (form.Int f) (form.Hold g) old h = absurd h
  cell_same (form.Int f) (form.Nums g) old h = absurd h
  cell_same (form.Int f) (form.Words g) old h = absurd h
  cell_same (form.Hold f) g old h = ap (λ k. cell_at k s old) h
  cell_same (form.Nums f) (form.Enum g) old h = absurd h
  cell_same (form.Nums f) (form.Int g) old h = absurd h
  cell_same (form.Nums f) (form.Hold g) old h = absurd h
  cell_same (form.Nums f) (form.Nums g) old h = ap (λ (xs : List ℤ). cell.Nums (cell_nums (Some old) ++ xs)) (numbers_same f g h)
  cell_same (form.Nums f) (form.Words g) old h = absurd h
  cell_same (form.Words f) g old h = ap (λ k. cell_at k s old) h

  cells_same : (fs gs : List Form) (olds : List Cell) → AreTakenTo when fs gs → cells_at gs s olds ≡ cells_at fs s olds
  cells_same [] [] olds h = refl
  cells_same [] (g ∷ gs) olds h = absurd h
  cells_same (f ∷ fs) [] olds h = absurd h
  cells_same (f ∷ fs) (g ∷ gs) [] h = refl
  cells_same (f ∷ fs) (g ∷ gs) (old ∷ olds) h =
      let first = cell_same f g old h.0 in
      let rest = cells_same fs gs olds h.1 in
      λ i. first i ∷ rest i

  pub end_same : (e f : PathEnd) → EndIsTakenTo when e f → end_at f s ≡ end_at e s
  end_same (Next fs) (Next gs) h = ap (λ (cs : List Cell). going cs) (cells_same fs gs s.cells h)
    where
      going : List Cell → Outcome
      going cs = Going (record { cells = cs })
  end_same (Next fs) (Ended b) h = absurd h
  end_same (Ended a) (Next gs) h = absurd h
  end_same (Ended a) (Ended b) h = ap (λ t. end_at (Ended t) s) (sym h)
