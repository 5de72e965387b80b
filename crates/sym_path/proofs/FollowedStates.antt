-- The states that what is left of a constraint admits: those that the constraint admits, and of which
-- the path gives what is needed.
use Rattle.std.proofs.Common.{◌≡◌, ◌<◌, ℕ, zero, suc, ℤ, List, [], ◌∷◌, Option, Some, None, ◌⊎◌, inl, inr, length, refl, sym, ap, ◌∙◌, subst, arith}
use Rattle.std.proofs.lemmas.Option.{slice_get_within}
use Rattle.std.specs.Prelude.{slice_get, IsTrue}
use Rattle.std.specs.List.{All, AllZip}
use Rattle.sym_base.specs.States.{number_at, cell_number, label_at, cell_label, parts_at, cell_parts}
use Rattle.sym_base.specs.Tests.{Truth}
use Rattle.sym_base.specs.declared.values.value.Value.{Value}
use Rattle.sym_base.specs.declared.values.state.Cell.{Cell}
use Rattle.sym_base.specs.declared.values.state.Cell.TheVariants as cell
use Rattle.sym_base.specs.declared.values.state.State.{State}
use Rattle.sym_check.specs.declared.plan.script.KindPlan.{KindPlan}
use Rattle.sym_check.specs.declared.plan.script.CellPlan.{CellPlan}
use Rattle.sym_check.specs.declared.plan.script.CellPlan.TheVariants as plan
use Rattle.sym_check.specs.Plan.ScriptPlans.{ScriptPlan}
use Rattle.sym_enum.specs.Labels.{has_label}
use Rattle.sym_enum.specs.declared.form.EnumForm.TheVariants as label
use Rattle.sym_enum.specs.declared.label_set.LabelSet.{LabelSet}
use Rattle.sym_int.specs.Lines.{form_on, form_cell, form_value}
use Rattle.sym_int.specs.Points.{HasPoint}
use Rattle.sym_int.specs.declared.form.IntForm.{IntForm}
use Rattle.sym_int.specs.declared.form.IntForm.TheVariants as number
use Rattle.sym_int.specs.declared.form.Line.{Line}
use Rattle.sym_int.specs.declared.span.Span.{Span}
use Rattle.sym_pred.specs.Facts.{Atom, FactMap}
use Rattle.sym_pred.specs.Meaning as facts
use Rattle.sym_pred.specs.declared.form.HoldForm.TheVariants as hold
use Rattle.sym_path.specs.declared.part.Part.{Part}
use Rattle.sym_path.specs.declared.part.Part.TheVariants as part
use Rattle.sym_path.specs.declared.form.Form.{Form}
use Rattle.sym_path.specs.declared.form.Form.TheVariants as form
use Rattle.sym_path.specs.Admitting.{PartAdmits, Admits}
use Rattle.sym_path.specs.Fitting.{PartFits, StaysWithin, NumberFits, FormFits}
use Rattle.sym_path.specs.Fitting as fitting
use Rattle.sym_path.specs.Left.{PartLeft}
use Rattle.sym_path.specs.Giving.{cell_at, cells_at}
use Rattle.sym_path.specs.Possible.{Meets, ConstantMeets}
use Rattle.sym_path.proofs.PossibleStates
use Rattle.sym_path.proofs.PossibleStates.{literal_given}
use Rattle.sym_path.proofs.Lists.{zip_get, zip_get_right, zip_at, zip_from, zip_length, get_within}

-- What a part that is left admits, the old one admits.
left_admits : (truth : Truth) (forms : List Form) (needs : List Part) (c : ℕ) (old new : Part) (x : Cell) → PartLeft forms needs c old new → PartAdmits truth new x → PartAdmits truth old x
left_admits truth forms needs c (part.Set old) (part.Set new) (cell.Enum l) h a = ((h.1 l).0 a).0
left_admits truth forms needs c (part.Set old) (part.Set new) (cell.Int x) h a = a
left_admits truth forms needs c (part.Set old) (part.Set new) (cell.Hold ps) h a = a
left_admits truth forms needs c (part.Set old) (part.Set new) (cell.Nums xs) h a = a
left_admits truth forms needs c (part.Set old) (part.Set new) (cell.Words ts) h a = a
left_admits truth forms needs c (part.Span old) (part.Span new) (cell.Enum l) h a = a
left_admits truth forms needs c (part.Span old) (part.Span new) (cell.Int x) h a = ((h x).0 a).0
left_admits truth forms needs c (part.Span old) (part.Span new) (cell.Hold ps) h a = a
left_admits truth forms needs c (part.Span old) (part.Span new) (cell.Nums xs) h a = a
left_admits truth forms needs c (part.Span old) (part.Span new) (cell.Words ts) h a = a
left_admits truth forms needs c (part.Facts old) (part.Facts new) (cell.Enum l) h a = a
left_admits truth forms needs c (part.Facts old) (part.Facts new) (cell.Int x) h a = a
left_admits truth forms needs c (part.Facts old) (part.Facts new) (cell.Hold ps) h a = λ atom o s. a atom o ((h atom o).1 (inl s))
left_admits truth forms needs c (part.Facts old) (part.Facts new) (cell.Nums xs) h a = a
left_admits truth forms needs c (part.Facts old) (part.Facts new) (cell.Words ts) h a = a
left_admits truth forms needs c part.Free part.Free x h a = a
left_admits truth forms needs c old new x h a = absurd h

-- The cells that a path gives, one by one.
pub cells_at_get : (forms : List Form) (s : State) (cells : List Cell) (i : ℕ) (f : Form) (x : Cell) → slice_get forms i ≡ Some f → slice_get cells i ≡ Some x → slice_get (cells_at forms s cells) i ≡ Some (cell_at f s x)
cells_at_get [] s cells i f x e g = absurd (cc)
cells_at_get (h ∷ forms) s [] i f x e g = absurd (cc)
cells_at_get (h ∷ forms) s (y ∷ cells) zero f x e g =
    let p : h ≡ f = cc in
    let q : y ≡ x = cc in
    ap (λ (k : Form). Some (cell_at k s y)) p ∙ ap (λ (k : Cell). Some (cell_at f s k)) q
cells_at_get (h ∷ forms) s (y ∷ cells) (suc i) f x e g = cells_at_get forms s cells i f x e g

pub cells_at-length : (forms : List Form) (s : State) (cells : List Cell) → length forms ≡ length cells → length (cells_at forms s cells) ≡ length cells
cells_at-length [] s [] e = refl
cells_at-length [] s (y ∷ cells) e = absurd (omega arith)
cells_at-length (h ∷ forms) s [] e = absurd (omega arith)
cells_at-length (h ∷ forms) s (y ∷ cells) e = ap suc (cells_at-length forms s cells (omega arith))

module _ (truth : Truth) (p : ScriptPlan) (when : List Part) (forms : List Form) (needs lefts : List Part) (s : State)
    (parts : AllZip (PartFits p) p.cells when) (each : AllZip (FormFits p when) p.cells forms) (others : AllZip (PartFits p) p.cells needs)
    (lengths : length lefts ≡ length when) (left : (c : ℕ) (old new : Part) → slice_get when c ≡ Some old → slice_get lefts c ≡ Some new → PartLeft forms needs c old new)
    (constants : (f : Form) (need : Part) → Meets forms needs f need → ConstantMeets truth f need) where
  -- A state that what is left admits is admitted,
  pub left_is_admitted : Admits truth lefts s → Admits truth when s
  left_is_admitted a = zip_from (PartAdmits truth) when s.cells (sym lengths ∙ zip_length (PartAdmits truth) lefts s.cells a) (λ c old x e g.
      let (new, at, h) = zip_get_right (PartAdmits truth) lefts s.cells c x a g in
      left_admits truth forms needs c old new x (left c old new e at) h)

  module _ (a : Admits truth lefts s) where
    -- The cell of a part, what is left of it, and what the state has there.
    found : (c : ℕ) (old : Part) → slice_get when c ≡ Some old → (new : Part) × (x : Cell) × (slice_get lefts c ≡ Some new) × (slice_get s.cells c ≡ Some x) × PartLeft forms needs c old new × PartAdmits truth new x
    found c old e = go (zip_get (PartAdmits truth) when s.cells c old (left_is_admitted a) e)
      where
        go : (x : Cell) × (slice_get s.cells c ≡ Some x) × PartAdmits truth old x → (new : Part) × (x : Cell) × (slice_get lefts c ≡ Some new) × (slice_get s.cells c ≡ Some x) × PartLeft forms needs c old new × PartAdmits truth new x
        go (x, g, h) = let (new, at, b) = zip_get_right (PartAdmits truth) lefts s.cells c x a g in (new, x, at, g, left c old new e at, b)

    label_meets : (c : ℕ) (old need : LabelSet) → slice_get when c ≡ Some (part.Set old) → Meets forms needs (form.Enum (label.Copy c)) (part.Set need) → IsTrue (has_label need (label_at s c))
    label_meets c old need e m = go (found c (part.Set old) e)
      where
        go : (new : Part) × (x : Cell) × (slice_get lefts c ≡ Some new) × (slice_get s.cells c ≡ Some x) × PartLeft forms needs c (part.Set old) new × PartAdmits truth new x → IsTrue (has_label need (label_at s c))
        go (part.Set new, cell.Enum l, at, g, h, b) = let same : label_at s c ≡ l = ap cell_label g in rw same (((h.1 l).0 b).1 need m)
        go (part.Set new, cell.Int x, at, g, h, b) = absurd b
        go (part.Set new, cell.Hold ps, at, g, h, b) = absurd b
        go (part.Set new, cell.Nums xs, at, g, h, b) = absurd b
        go (part.Set new, cell.Words ts, at, g, h, b) = absurd b
        go (part.Span new, x, at, g, h, b) = absurd h
        go (part.Facts new, x, at, g, h, b) = absurd h
        go (part.Free, x, at, g, h, b) = absurd h

    number_meets : (line : Line) (old need : Span) → slice_get when line.cell ≡ Some (part.Span old) → Meets forms needs (form.Int (number.Line line)) (part.Span need) → HasPoint need (form_value (number.Line line) s)
    number_meets line old need e m = go (found line.cell (part.Span old) e)
      where
        go : (new : Part) × (x : Cell) × (slice_get lefts line.cell ≡ Some new) × (slice_get s.cells line.cell ≡ Some x) × PartLeft forms needs line.cell (part.Span old) new × PartAdmits truth new x → HasPoint need (form_value (number.Line line) s)
        go (part.Span new, cell.Int x, at, g, h, b) =
            let same : number_at s line.cell ≡ x = ap cell_number g in
            subst (λ (y : ℤ). HasPoint need (form_on (number.Line line) y)) (sym same) (((h x).0 b).1 (number.Line line) need refl m)
        go (part.Span new, cell.Enum l, at, g, h, b) = absurd b
        go (part.Span new, cell.Hold ps, at, g, h, b) = absurd b
        go (part.Span new, cell.Nums xs, at, g, h, b) = absurd b
        go (part.Span new, cell.Words ts, at, g, h, b) = absurd b
        go (part.Set new, x, at, g, h, b) = absurd h
        go (part.Facts new, x, at, g, h, b) = absurd h
        go (part.Free, x, at, g, h, b) = absurd h

    facts_meet : (c : ℕ) (old need : FactMap) → slice_get when c ≡ Some (part.Facts old) → Meets forms needs (form.Hold (hold.Copy c)) (part.Facts need) → facts.Admits truth need (parts_at s c)
    facts_meet c old need e m = go (found c (part.Facts old) e)
      where
        go : (new : Part) × (x : Cell) × (slice_get lefts c ≡ Some new) × (slice_get s.cells c ≡ Some x) × PartLeft forms needs c (part.Facts old) new × PartAdmits truth new x → facts.Admits truth need (parts_at s c)
        go (part.Facts new, cell.Hold ps, at, g, h, b) =
            let same : parts_at s c ≡ ps = ap cell_parts g in
            subst (λ (qs : List Value). facts.Admits truth need qs) (sym same) (λ atom o st. b atom o ((h atom o).1 (inr (record { need = need; meets = m; stands = st }))))
        go (part.Facts new, cell.Enum l, at, g, h, b) = absurd b
        go (part.Facts new, cell.Int x, at, g, h, b) = absurd b
        go (part.Facts new, cell.Nums xs, at, g, h, b) = absurd b
        go (part.Facts new, cell.Words ts, at, g, h, b) = absurd b
        go (part.Set new, x, at, g, h, b) = absurd h
        go (part.Span new, x, at, g, h, b) = absurd h
        go (part.Free, x, at, g, h, b) = absurd h

    label_copied : (c of first : ℕ) (need : LabelSet) → slice_get p.cells c ≡ Some (plan.Enum of first) → Meets forms needs (form.Enum (label.Copy c)) (part.Set need) → IsTrue (has_label need (label_at s c))
    label_copied c of first need e m = go (zip_get (PartFits p) p.cells when c (plan.Enum of first) parts e)
      where
        by : (old : Part) → slice_get when c ≡ Some old → PartFits p (plan.Enum of first) old → IsTrue (has_label need (label_at s c))
        by _ at (fitting.labels _ _ set h) = label_meets c set need at m

        go : (old : Part) × (slice_get when c ≡ Some old) × PartFits p (plan.Enum of first) old → IsTrue (has_label need (label_at s c))
        go (old, at, h) = by old at h

    parts_copied : (c : ℕ) (kinds : List KindPlan) (first : List Value) (need : FactMap) → slice_get p.cells c ≡ Some (plan.Hold kinds first) → Meets forms needs (form.Hold (hold.Copy c)) (part.Facts need) → facts.Admits truth need (parts_at s c)
    parts_copied c kinds first need e m = go (zip_get (PartFits p) p.cells when c (plan.Hold kinds first) parts e)
      where
        by : (old : Part) → slice_get when c ≡ Some old → PartFits p (plan.Hold kinds first) old → facts.Admits truth need (parts_at s c)
        by _ at (fitting.parts _ _ known h) = facts_meet c known need at m

        go : (old : Part) × (slice_get when c ≡ Some old) × PartFits p (plan.Hold kinds first) old → facts.Admits truth need (parts_at s c)
        go (old, at, h) = by old at h

    line_meets : (lo hi : ℤ) (line : Line) (need : Span) (o : Option Part) → slice_get when line.cell ≡ o → StaysWithin lo hi (form_on (number.Line line)) o → Meets forms needs (form.Int (number.Line line)) (part.Span need) → HasPoint need (form_value (number.Line line) s)
    line_meets lo hi line need None e h m = absurd h
    line_meets lo hi line need (Some (part.Set old)) e h m = absurd h
    line_meets lo hi line need (Some (part.Span old)) e h m = number_meets line old need e m
    line_meets lo hi line need (Some (part.Facts old)) e h m = absurd h
    line_meets lo hi line need (Some part.Free) e h m = absurd h

    one_admitted : (cp : CellPlan) (f : Form) (need : Part) (x : Cell) → FormFits p when cp f → PartFits p cp need → Meets forms needs f need → PartAdmits truth need (cell_at f s x)
    one_admitted _ _ need x (fitting.of_label of first l h) g m = constants (form.Enum (label.Const l)) need m
    one_admitted _ _ _ x (fitting.copied_label of first c h) (fitting.labels _ _ need g) m = label_copied c of h.first need h.is m
    one_admitted _ _ need x (fitting.of_number lo hi first (number.Const n) h) g m = constants (form.Int (number.Const n)) need m
    one_admitted _ _ _ x (fitting.of_number lo hi first (number.Line line) h) (fitting.numbers _ _ _ need g) m = line_meets lo hi line need (slice_get when line.cell) refl h m
    one_admitted _ _ need x (fitting.of_parts kinds first parts h) g m = constants (form.Hold (hold.Const parts)) need m
    one_admitted _ _ _ x (fitting.copied_parts kinds first c h) (fitting.parts _ _ need g) m = parts_copied c kinds h.first need h.is m
    one_admitted _ _ _ x (fitting.of_numbers lo hi added h) (fitting.free_nums _ _) m = tt
    one_admitted _ _ _ x (fitting.of_words added) fitting.free_words m = tt

    -- and the path gives what is needed.
    pub left_gives : AllZip (PartAdmits truth) needs (cells_at forms s s.cells)
    left_gives = zip_from (PartAdmits truth) needs (cells_at forms s s.cells) same_length (λ i need y e g. pointwise i need y e g (get_within forms i (within i need e)) (get_within s.cells i (omega (arith, within i need e, cell_length))))
      where
        form_length : length p.cells ≡ length forms
        form_length = zip_length (FormFits p when) p.cells forms each

        cell_length : length forms ≡ length s.cells
        cell_length = sym form_length ∙ zip_length (PartFits p) p.cells when parts ∙ sym lengths ∙ zip_length (PartAdmits truth) lefts s.cells a

        same_length : length needs ≡ length (cells_at forms s s.cells)
        same_length = sym (zip_length (PartFits p) p.cells needs others) ∙ form_length ∙ cell_length ∙ sym (cells_at-length forms s s.cells cell_length)

        within : (i : ℕ) (need : Part) → slice_get needs i ≡ Some need → i < length forms
        within i need e = let l : i < length needs = slice_get_within needs i need e in let n = zip_length (PartFits p) p.cells needs others in omega (arith, form_length)

        pointwise : (i : ℕ) (need : Part) (y : Cell) → slice_get needs i ≡ Some need → slice_get (cells_at forms s s.cells) i ≡ Some y → (f : Form) × (slice_get forms i ≡ Some f) → (x : Cell) × (slice_get s.cells i ≡ Some x) → PartAdmits truth need y
        pointwise i need y e g (f, at_f) (x, at_x) =
            let (cp, at_c, h) = zip_get_right (FormFits p when) p.cells forms i f each at_f in
            let z : Some y ≡ Some (cell_at f s x) = sym g ∙ cells_at_get forms s s.cells i f x at_f at_x in
            let same : y ≡ cell_at f s x = cc in
            subst (λ (v : Cell). PartAdmits truth need v) (sym same) (one_admitted cp f need x h (zip_at (PartFits p) p.cells needs i cp need others at_c e) (record { cell = i; has = at_f; needed = e }))

  -- The other way round: what is left admits each state that is admitted and of which the path gives
  -- what is needed.
  module _ (before : Admits truth when s) (after : AllZip (PartAdmits truth) needs (cells_at forms s s.cells)) where
    still_admitted : (c : ℕ) (old new : Part) (x : Cell) → slice_get s.cells c ≡ Some x → PartLeft forms needs c old new → PartAdmits truth old x → PartAdmits truth new x
    still_admitted c (part.Set old) (part.Set new) (cell.Enum l) g h b = (h.1 l).1 (b, PossibleStates.label_meets truth forms needs s after c l g)
    still_admitted c (part.Set old) (part.Set new) (cell.Int x) g h b = b
    still_admitted c (part.Set old) (part.Set new) (cell.Hold ps) g h b = b
    still_admitted c (part.Set old) (part.Set new) (cell.Nums xs) g h b = b
    still_admitted c (part.Set old) (part.Set new) (cell.Words ts) g h b = b
    still_admitted c (part.Span old) (part.Span new) (cell.Enum l) g h b = b
    still_admitted c (part.Span old) (part.Span new) (cell.Int x) g h b = (h x).1 (b, PossibleStates.number_meets truth forms needs s after c x g)
    still_admitted c (part.Span old) (part.Span new) (cell.Hold ps) g h b = b
    still_admitted c (part.Span old) (part.Span new) (cell.Nums xs) g h b = b
    still_admitted c (part.Span old) (part.Span new) (cell.Words ts) g h b = b
    still_admitted c (part.Facts old) (part.Facts new) (cell.Enum l) g h b = b
    still_admitted c (part.Facts old) (part.Facts new) (cell.Int x) g h b = b
    still_admitted c (part.Facts old) (part.Facts new) (cell.Hold ps) g h b = λ atom o st. literal_given truth forms needs s after c ps old g b atom o ((h atom o).0 st)
    still_admitted c (part.Facts old) (part.Facts new) (cell.Nums xs) g h b = b
    still_admitted c (part.Facts old) (part.Facts new) (cell.Words ts) g h b = b
    still_admitted c part.Free part.Free x g h b = b
    still_admitted c old new x g h b = absurd h

    pub both_are_left : Admits truth lefts s
    both_are_left = zip_from (PartAdmits truth) lefts s.cells (lengths ∙ zip_length (PartAdmits truth) when s.cells before) (λ c new x e g.
        let (old, at, b) = zip_get_right (PartAdmits truth) when s.cells c x before g in
        still_admitted c old new x g (left c old new at e) b)
