-- A state of which one path gives what the next one needs: what it says of cells, forms and literals.
-- So a pair of paths that some state takes in turn is possible.
use Rattle.std.proofs.Common.{◌≡◌, ℕ, zero, suc, ℤ, Bool, not, List, [], ◌∷◌, Some, None, inl, inr, sym, ap, ◌∙◌, subst}
use Rattle.std.specs.Prelude.{slice_get, IsTrue}
use Rattle.std.specs.List.{AllZip}
use Rattle.sym_base.specs.States.{number_at, cell_number, label_at, cell_label, parts_at, cell_parts}
use Rattle.sym_base.specs.Tests.{Truth}
use Rattle.sym_base.specs.declared.values.value.Value.{Value}
use Rattle.sym_base.specs.declared.values.state.Cell.{Cell}
use Rattle.sym_base.specs.declared.values.state.Cell.TheVariants as cell
use Rattle.sym_base.specs.declared.values.state.State.{State}
use Rattle.sym_enum.specs.Labels.{has_label}
use Rattle.sym_enum.specs.declared.form.EnumForm.TheVariants as label
use Rattle.sym_int.specs.Lines.{form_on, form_cell}
use Rattle.sym_int.specs.Points.{HasPoint}
use Rattle.sym_int.specs.declared.form.IntForm.{IntForm}
use Rattle.sym_int.specs.declared.form.IntForm.TheVariants as number
use Rattle.sym_int.specs.declared.span.Span.{Span}
use Rattle.sym_pred.specs.Facts.{Atom, FactMap}
use Rattle.sym_pred.specs.Meaning as facts
use Rattle.sym_pred.specs.declared.form.HoldForm.TheVariants as hold
use Rattle.sym_path.specs.declared.part.Part.{Part}
use Rattle.sym_path.specs.declared.part.Part.TheVariants as part
use Rattle.sym_path.specs.declared.form.Form.{Form}
use Rattle.sym_path.specs.declared.form.Form.TheVariants as form
use Rattle.sym_path.specs.declared.path.Path.{Path}
use Rattle.sym_path.specs.declared.path.PathEnd.{PathEnd}
use Rattle.sym_path.specs.declared.path.PathEnd.TheVariants.{Next, Ended}
use Rattle.sym_path.specs.Admitting.{PartAdmits, Admits}
use Rattle.sym_path.specs.Following.{AdmitsOutcome}
use Rattle.sym_path.specs.Giving.{cell_at, cells_at, end_at}
use Rattle.sym_path.specs.Possible.{Meets, ConstantMeets, LabelMeets, NumberMeets, IsSaid, IsLeft, Possible, IsPossiblePair}
use Rattle.sym_path.proofs.Lists.{zip_get}
use Rattle.sym_path.proofs.Possibly.{not_itself}

cell_given : (forms : List Form) (s : State) (cells : List Cell) (i : ℕ) (f : Form) (y : Cell) → slice_get forms i ≡ Some f → slice_get (cells_at forms s cells) i ≡ Some y → (x : Cell) × (cell_at f s x ≡ y)
cell_given [] s cells i f y e g = absurd (cc)
cell_given (h ∷ forms) s [] i f y e g = absurd (cc)
cell_given (h ∷ forms) s (x ∷ cells) zero f y e g =
    let p : f ≡ h = cc in
    let q : cell_at h s x ≡ y = cc in
    (x, ap (λ (k : Form). cell_at k s x) p ∙ q)
cell_given (h ∷ forms) s (x ∷ cells) (suc i) f y e g = cell_given forms s cells i f y e g

module _ (truth : Truth) (forms : List Form) (needs : List Part) (s : State) (after : AllZip (PartAdmits truth) needs (cells_at forms s s.cells)) where
  -- The cell that the first path gives, where the second one needs something of it.
  given_at : (f : Form) (need : Part) → Meets forms needs f need → (x : Cell) × PartAdmits truth need (cell_at f s x)
  given_at f need m =
      let (y, at, h) = zip_get (PartAdmits truth) needs (cells_at forms s s.cells) m.cell need after m.needed in
      let (x, same) = cell_given forms s s.cells m.cell f y m.has at in
      (x, subst (λ (z : Cell). PartAdmits truth need z) (sym same) h)

  pub label_meets : (c l : ℕ) → slice_get s.cells c ≡ Some (cell.Enum l) → LabelMeets forms needs c l
  label_meets c l e need m =
      let same : label_at s c ≡ l = ap cell_label e in
      subst (λ (i : ℕ). IsTrue (has_label need i)) same (given_at (form.Enum (label.Copy c)) (part.Set need) m).1

  pub number_meets : (c : ℕ) (x : ℤ) → slice_get s.cells c ≡ Some (cell.Int x) → NumberMeets forms needs c x
  number_meets c x e (number.Const n) need q m = absurd (let z : None ≡ Some c = q in cc)
  number_meets c x e (number.Line line) need q m =
      let at : line.cell ≡ c = cc in
      let same : number_at s line.cell ≡ x = ap (λ k. number_at s k) at ∙ ap cell_number e in
      subst (λ (y : ℤ). HasPoint need (form_on (number.Line line) y)) same (given_at (form.Int (number.Line line)) (part.Span need) m).1

  pub literal_given : (c : ℕ) (ps : List Value) (known : FactMap) → slice_get s.cells c ≡ Some (cell.Hold ps) → facts.Admits truth known ps → (atom : Atom) (outcome : Bool) → IsSaid known forms needs c atom outcome → truth atom.0 atom.1 ps ≡ outcome
  literal_given c ps known e h atom outcome (inl stands) = h atom outcome stands
  literal_given c ps known e h atom outcome (inr n) =
      let same : parts_at s c ≡ ps = ap cell_parts e in
      let there : facts.Admits truth n.need (parts_at s c) = (given_at (form.Hold (hold.Copy c)) (part.Facts n.need) n.meets).1 in
      (subst (λ (qs : List Value). facts.Admits truth n.need qs) same there) atom outcome n.stands

  constant_meets : (f : Form) (need : Part) → Meets forms needs f need → ConstantMeets truth f need
  constant_meets (form.Enum (label.Const l)) need m = (given_at (form.Enum (label.Const l)) need m).1
  constant_meets (form.Enum (label.Copy c)) need m = tt
  constant_meets (form.Int (number.Const n)) need m = (given_at (form.Int (number.Const n)) need m).1
  constant_meets (form.Int (number.Line line)) need m = tt
  constant_meets (form.Hold (hold.Const ps)) need m = (given_at (form.Hold (hold.Const ps)) need m).1
  constant_meets (form.Hold (hold.Copy c)) need m = tt
  constant_meets (form.Nums added) need m = tt
  constant_meets (form.Words added) need m = tt

  is_left : (c : ℕ) (p : Part) (x : Cell) → slice_get s.cells c ≡ Some x → PartAdmits truth p x → IsLeft forms needs c p
  is_left c (part.Set set) (cell.Enum l) e a = (l, a, label_meets c l e)
  is_left c (part.Set set) (cell.Int x) e a = absurd a
  is_left c (part.Set set) (cell.Hold ps) e a = absurd a
  is_left c (part.Set set) (cell.Nums xs) e a = absurd a
  is_left c (part.Set set) (cell.Words ts) e a = absurd a
  is_left c (part.Span span) (cell.Enum l) e a = absurd a
  is_left c (part.Span span) (cell.Int x) e a = (x, a, number_meets c x e)
  is_left c (part.Span span) (cell.Hold ps) e a = absurd a
  is_left c (part.Span span) (cell.Nums xs) e a = absurd a
  is_left c (part.Span span) (cell.Words ts) e a = absurd a
  is_left c (part.Facts known) (cell.Enum l) e a = absurd a
  is_left c (part.Facts known) (cell.Int x) e a = absurd a
  is_left c (part.Facts known) (cell.Hold ps) e a = λ atom o h k. not_itself o (sym (literal_given c ps known e a atom o h) ∙ literal_given c ps known e a atom (not o) k)
  is_left c (part.Facts known) (cell.Nums xs) e a = absurd a
  is_left c (part.Facts known) (cell.Words ts) e a = absurd a
  is_left c part.Free x e a = tt

  possible_there : (when : List Part) → Admits truth when s → Possible truth when forms needs
  possible_there when before = record {
    constants = constant_meets;
    cells = λ c p e. let (x, at, a) = zip_get (PartAdmits truth) when s.cells c p before e in is_left c p x at a;
  }

-- A pair of paths that some state takes in turn is possible.
pub pair_is_possible : (truth : Truth) (p q : Path) (s : State) → Admits truth p.when s → AdmitsOutcome truth q.when (end_at p.end s) → IsPossiblePair truth p q
pair_is_possible truth p q s before after = go p.end after
  where
    go : (end : PathEnd) → AdmitsOutcome truth q.when (end_at end s) → IsPossiblePair truth (record p { end = end }) q
    go (Next forms) h = possible_there truth forms q.when s h p.when before
    go (Ended fault) h = h
