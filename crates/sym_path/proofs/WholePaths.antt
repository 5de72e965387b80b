-- The path that admits every valid state and leaves it as it is.
use Rattle.std.proofs.Common.{◌≡◌, ◌<◌, ◌≤◌, ◌+◌, ℕ, suc, ℤ, pos, ◌+ℤ◌, ◌*ℤ◌, List, [], ◌∷◌, ◌++◌, Option, Some, None, inl, inr, length, refl, sym, ap, ◌∙◌, subst, arith}
use Rattle.std.proofs.lemmas.Int.{ints}
use Rattle.std.proofs.lemmas.List.{append-nil, length_push}
use Rattle.std.proofs.lemmas.Option.{slice_get_within}
use Rattle.std.specs.FinMap.{empty, get, get-empty, len-empty}
use Rattle.std.specs.Prelude.{slice_get, Bool}
use Rattle.std.specs.List.{All}
use Rattle.sym_base.specs.States.{number_at, cell_number, cell_label, cell_parts}
use Rattle.sym_base.specs.Tests.{Truth}
use Rattle.sym_base.specs.declared.values.value.Value.{Value}
use Rattle.sym_base.specs.declared.values.state.Cell.{Cell}
use Rattle.sym_base.specs.declared.values.state.Cell.TheVariants as cell
use Rattle.sym_base.specs.declared.values.state.State.{State}
use Rattle.sym_base.specs.declared.values.state.Outcome.TheVariants.{Going}
use Rattle.sym_check.specs.declared.plan.script.EnumPlan.{EnumPlan}
use Rattle.sym_check.specs.declared.plan.script.CellPlan.{CellPlan}
use Rattle.sym_check.specs.declared.plan.script.CellPlan.TheVariants as plan
use Rattle.sym_check.specs.Plan.ScriptPlans.{ScriptPlan}
use Rattle.sym_check.specs.Plan.Ranges.{InRange}
use Rattle.sym_check.specs.Meaning.Validity.{label_count, labels_in, IsValidCell, IsValid}
use Rattle.sym_check.specs.Meaning.Validity as valid
use Rattle.sym_check.specs.Plan.WellFormed.{IsCell, IsEnum, IsWellFormed}
use Rattle.sym_enum.specs.Labels.{IsOnlyLabel}
use Rattle.sym_enum.specs.declared.form.EnumForm.{EnumForm}
use Rattle.sym_enum.specs.declared.form.EnumForm.TheVariants as label
use Rattle.sym_enum.specs.declared.label_set.LabelSet.{LabelSet}
use Rattle.sym_int.specs.Lines.{form_on, form_cell, offset}
use Rattle.sym_int.specs.Points.{HasPoint}
use Rattle.sym_int.specs.declared.form.IntForm.{IntForm}
use Rattle.sym_int.specs.declared.form.IntForm.TheVariants as number
use Rattle.sym_int.specs.declared.span.Span.{Span}
use Rattle.sym_pred.specs.Facts.{atom_cmp}
use Rattle.sym_pred.specs.Literals.{literals}
use Rattle.sym_pred.specs.declared.literal.Literal.{Literal}
use Rattle.sym_path.specs.declared.part.Part.{Part}
use Rattle.sym_path.specs.declared.part.Part.TheVariants as part
use Rattle.sym_path.specs.declared.form.Form.{Form}
use Rattle.sym_path.specs.declared.form.Form.TheVariants as form
use Rattle.sym_path.specs.declared.path.PathEnd.TheVariants.{Next}
use Rattle.sym_path.specs.Admitting.{PartAdmits}
use Rattle.sym_path.specs.Fitting.{Suits, PartFits, StaysWithin, NumberFits, FormFits, FormsFit, PathFits}
use Rattle.sym_path.specs.Fitting as fitting
use Rattle.sym_path.specs.Giving.{cell_at, cells_at}
use Rattle.sym_path.specs.Identity.{IsOwnLabel, IsOwnNumber, IsWholeEnum, IsWholeCell, AreWhole, AdmitsAll, LeavesAll}
use Rattle.sym_path.specs.Taking.{HasOneLabel, HasOneNumber, LabelIsTakenTo, NumberIsTakenTo, IsTakenOn, copied_cell}
use Rattle.sym_path.proofs.Admits.{literals_counted}
use Rattle.sym_path.proofs.Lists.{zip_from, zip_get_right, zip_length, all_from, all_at, get_within, push_cases}
use Rattle.sym_path.proofs.NarrowedFits.{label_taken, number_taken}

-- An enum of which there is a label has from 1 to 32 labels.
pub few_labels : (enums : List EnumPlan) (of : ℕ) → All IsEnum enums → 0 < label_count enums of → label_count enums of ≤ 32
few_labels enums of h some = go (slice_get enums of) refl
  where
    go : (o : Option EnumPlan) → slice_get enums of ≡ o → labels_in o ≤ 32
    go None e = omega arith
    go (Some enum) e = (all_at IsEnum enums of enum h e).1

-- Forms that leave each cell as it is leave all cells as they are.
cells_same : (forms : List Form) (s : State) (cells : List Cell) → length forms ≡ length cells → ((i : ℕ) (f : Form) (x : Cell) → slice_get forms i ≡ Some f → slice_get cells i ≡ Some x → cell_at f s x ≡ x) → cells_at forms s cells ≡ cells
cells_same [] s [] e h = refl
cells_same [] s (x ∷ cells) e h = absurd (omega arith)
cells_same (f ∷ forms) s [] e h = absurd (omega arith)
cells_same (f ∷ forms) s (x ∷ cells) e h = ap (λ y. y ∷ cells_at forms s cells) (h 0 f x refl refl) ∙ ap (λ ys. x ∷ ys) (cells_same forms s cells (omega arith) (λ i. h (suc i)))

-- Facts that say nothing have no literals.
nothing_known : literals empty ≡ []
nothing_known = none (literals empty) (sym (literals_counted empty) ∙ len-empty atom_cmp Bool)
  where
    none : (xs : List Literal) → length xs ≡ 0 → xs ≡ []
    none [] e = refl
    none (x ∷ xs) e = absurd (omega arith)

-- ---- one cell

module _ (p : ScriptPlan) (c : ℕ) where
  -- The part is one that the cell may have, and admits all that it may hold.
  pub whole_fits : (cp : CellPlan) (now : Part) (f : Form) → IsCell p.enums cp → IsWholeCell p c cp now f → PartFits p cp now
  whole_fits (plan.Enum of first) (part.Set set) (form.Enum f) w h = fitting.labels of first set (record { some = (first, (h.0 first).1 w); within = λ l q. (h.0 l).0 q })
  whole_fits (plan.Int lo hi first clamp) (part.Span span) (form.Int f) w h = let l = h.0 in let u = h.1 in fitting.numbers lo hi first span (omega (arith, ints), omega (arith, ints))
  whole_fits (plan.Hold kinds first) (part.Facts known) (form.Hold f) w h = fitting.parts kinds first known (rw (h.0, nothing_known) (all_from (Suits p kinds) [] (λ i x e. absurd (cc))))
  whole_fits (plan.Nums lo hi clamp) part.Free (form.Nums added) w h = fitting.free_nums lo hi
  whole_fits plan.Words part.Free (form.Words added) w h = fitting.free_words
  whole_fits cp now f w h = absurd h

  pub whole_admits : (truth : Truth) (cp : CellPlan) (now : Part) (f : Form) (x : Cell) → IsWholeCell p c cp now f → IsValidCell p.enums cp x → PartAdmits truth now x
  whole_admits truth _ (part.Set set) (form.Enum f) _ h (valid.enum of first l q) = (h.0 l).1 q
  whole_admits truth _ (part.Span span) (form.Int f) _ h (valid.int lo hi first clamp x q) = let l = h.0 in let u = h.1 in let a = q.0 in let b = q.1 in (omega (arith, ints), omega (arith, ints))
  whole_admits truth _ (part.Facts known) (form.Hold f) _ h (valid.hold kinds first parts q) = λ atom outcome e. let none : get known atom ≡ None = rw h.0 (get-empty atom_cmp atom) in absurd (cc)
  whole_admits truth _ part.Free (form.Nums added) _ h (valid.nums lo hi clamp xs q) = tt
  whole_admits truth _ part.Free (form.Words added) _ h (valid.words ts) = tt
  whole_admits truth _ now f _ h (valid.enum of first l q) = absurd h
  whole_admits truth _ now f _ h (valid.int lo hi first clamp x q) = absurd h
  whole_admits truth _ now f _ h (valid.hold kinds first parts q) = absurd h
  whole_admits truth _ now f _ h (valid.nums lo hi clamp xs q) = absurd h
  whole_admits truth _ now f _ h (valid.words ts) = absurd h

  module _ (when : List Part) where
    own_label_fits : (of first : ℕ) (set : LabelSet) (f : EnumForm) → slice_get p.cells c ≡ Some (plan.Enum of first) → IsWholeEnum (label_count p.enums of) c (part.Set set) (form.Enum f) → FormFits p when (plan.Enum of first) (form.Enum f)
    own_label_fits of first set (label.Const l) e h = fitting.of_label of first l ((h.0 l).0 ((h.1 l).1 refl))
    own_label_fits of first set (label.Copy d) e h = fitting.copied_label of first d (record { first = first; is = ap (λ k. slice_get p.cells k) h.1.0 ∙ e })

    own_number_fits : (lo hi first : ℤ) (span : Span) (f : IntForm) → InRange lo hi first → slice_get when c ≡ Some (part.Span span) → span.lo ≡ lo → span.hi ≡ hi → IsOwnNumber c span f → NumberFits lo hi when f
    own_number_fits lo hi first span (number.Const n) w e l u h = let a = w.0 in let b = w.1 in let x = h.0 in let y = h.1 in (omega (arith, ints), omega (arith, ints))
    own_number_fits lo hi first span (number.Line line) w e l u h = rw (ap (λ k. slice_get when k) h.0 ∙ e) within
      where
        within : (x : ℤ) → HasPoint span x → InRange lo hi (form_on (number.Line line) x)
        within x q =
            let a = q.0 in
            let b = q.1 in
            let none = h.2 in
            let plain : InRange lo hi (pos 1 *ℤ x +ℤ offset line) = (omega (arith, ints), omega (arith, ints)) in
            subst (λ (slope : ℤ). InRange lo hi (slope *ℤ x +ℤ offset line)) (sym h.1) plain

    pub own_fits : (cp : CellPlan) (now : Part) (f : Form) → slice_get p.cells c ≡ Some cp → slice_get when c ≡ Some now → IsCell p.enums cp → IsWholeCell p c cp now f → FormFits p when cp f
    own_fits (plan.Enum of first) (part.Set set) (form.Enum f) e g w h = own_label_fits of first set f e h
    own_fits (plan.Int lo hi first clamp) (part.Span span) (form.Int f) e g w h = fitting.of_number lo hi first f (own_number_fits lo hi first span f w.2 g h.0 h.1 h.2)
    own_fits (plan.Hold kinds first) (part.Facts known) (form.Hold f) e g w h = rw h.1 (fitting.copied_parts kinds first c (record { first = first; is = e }))
    own_fits (plan.Nums lo hi clamp) part.Free (form.Nums added) e g w h = rw h (fitting.of_numbers lo hi [] (all_from (NumberFits lo hi when) [] (λ i x q. absurd (cc))))
    own_fits plan.Words part.Free (form.Words added) e g w h = fitting.of_words added
    own_fits cp now f e g w h = absurd h

    own_label_taken : (set : LabelSet) (f : EnumForm) → slice_get when c ≡ Some (part.Set set) → IsOwnLabel c set f → LabelIsTakenTo when f f
    own_label_taken set (label.Const l) e h = label_taken when (label.Const l) (λ d m q o. cc)
    own_label_taken set (label.Copy d) e h = label_taken when (label.Copy d) free
      where
        free : (k m : ℕ) → copied_cell (label.Copy d) ≡ Some k → HasOneLabel when k m → ⊥
        free k m q o =
            let named : d ≡ k = cc in
            let both : Some (part.Set set) ≡ Some (part.Set o.set) = sym e ∙ ap (λ i. slice_get when i) (sym h.0 ∙ named) ∙ o.is in
            let same : o.set ≡ set = cc in
            h.1 m (subst (λ (t : LabelSet). IsOnlyLabel t m) same o.only)

    own_number_taken : (span : Span) (f : IntForm) → slice_get when c ≡ Some (part.Span span) → IsOwnNumber c span f → NumberIsTakenTo when f f
    own_number_taken span (number.Const n) e h = number_taken when (number.Const n) (λ d x q o. cc)
    own_number_taken span (number.Line line) e h = number_taken when (number.Line line) free
      where
        free : (k : ℕ) (x : ℤ) → form_cell (number.Line line) ≡ Some k → HasOneNumber when k x → ⊥
        free k x q o =
            let named : line.cell ≡ k = cc in
            let both : Some (part.Span span) ≡ Some (part.Span o.span) = sym e ∙ ap (λ i. slice_get when i) (sym h.0 ∙ named) ∙ o.is in
            let same : span ≡ o.span = cc in
            let lo : span.lo ≡ x = ap (λ (t : Span). t.lo) same ∙ o.lo in
            let hi : span.hi ≡ x = ap (λ (t : Span). t.hi) same ∙ o.hi in
            let more = h.3 in
            omega (arith, ints)

    pub own_taken : (cp : CellPlan) (now : Part) (f : Form) → slice_get when c ≡ Some now → IsWholeCell p c cp now f → IsTakenOn when f
    own_taken (plan.Enum of first) (part.Set set) (form.Enum f) e h = own_label_taken set f e h.1
    own_taken (plan.Int lo hi first clamp) (part.Span span) (form.Int f) e h = own_number_taken span f e h.2
    own_taken (plan.Hold kinds first) (part.Facts known) (form.Hold f) e h = refl
    own_taken (plan.Nums lo hi clamp) part.Free (form.Nums added) e h = rw h tt
    own_taken plan.Words part.Free (form.Words added) e h = refl
    own_taken cp now f e h = absurd h

  -- ---- what the cell holds by its form

  module _ (s : State) where
    own_label_same : (count l : ℕ) (set : LabelSet) (f : EnumForm) → l < count → slice_get s.cells c ≡ Some (cell.Enum l) → IsWholeEnum count c (part.Set set) (form.Enum f) → cell_at (form.Enum f) s (cell.Enum l) ≡ cell.Enum l
    own_label_same count l set (label.Const m) q e h = ap (λ k. cell.Enum k) (sym ((h.1 l).0 ((h.0 l).1 q)))
    own_label_same count l set (label.Copy d) q e h = ap (λ k. cell.Enum k) (ap (λ i. cell_label (slice_get s.cells i)) h.1.0 ∙ ap cell_label e)

    own_number_same : (lo hi x : ℤ) (span : Span) (f : IntForm) → InRange lo hi x → span.lo ≡ lo → span.hi ≡ hi → slice_get s.cells c ≡ Some (cell.Int x) → IsOwnNumber c span f → cell_at (form.Int f) s (cell.Int x) ≡ cell.Int x
    own_number_same lo hi x span (number.Const n) q l u e h = let a = q.0 in let b = q.1 in let y = h.0 in let z = h.1 in let same : n.value ≡ x = omega (arith, ints) in ap (λ (v : ℤ). cell.Int v) same
    own_number_same lo hi x span (number.Line line) q l u e h = ap (λ (v : ℤ). cell.Int v) same
      where
        held : number_at s line.cell ≡ x
        held = ap (λ i. cell_number (slice_get s.cells i)) h.0 ∙ ap cell_number e

        same : line.a *ℤ number_at s line.cell +ℤ offset line ≡ x
        same = rw (h.1, h.2, held) (omega (arith, ints))

    pub own_same : (cp : CellPlan) (now : Part) (f : Form) (x : Cell) → slice_get s.cells c ≡ Some x → IsWholeCell p c cp now f → IsValidCell p.enums cp x → cell_at f s x ≡ x
    own_same _ (part.Set set) (form.Enum f) _ e h (valid.enum of first l q) = own_label_same (label_count p.enums of) l set f q e h
    own_same _ (part.Span span) (form.Int f) _ e h (valid.int lo hi first clamp x q) = own_number_same lo hi x span f q h.0 h.1 e h.2
    own_same _ (part.Facts known) (form.Hold f) _ e h (valid.hold kinds first parts q) = rw h.1 (ap (λ (ps : List Value). cell.Hold ps) (ap cell_parts e))
    own_same _ part.Free (form.Nums added) _ e h (valid.nums lo hi clamp xs q) = rw h (ap (λ (ys : List ℤ). cell.Nums ys) (append-nil xs))
    own_same _ part.Free (form.Words added) _ e h (valid.words ts) = rw h (ap (λ (ys : List (List ℕ)). cell.Words ys) (append-nil ts))
    own_same _ now f _ e h (valid.enum of first l q) = absurd h
    own_same _ now f _ e h (valid.int lo hi first clamp x q) = absurd h
    own_same _ now f _ e h (valid.hold kinds first parts q) = absurd h
    own_same _ now f _ e h (valid.nums lo hi clamp xs q) = absurd h
    own_same _ now f _ e h (valid.words ts) = absurd h

-- ---- all cells

-- One cell more.
pub whole_next : (p : ScriptPlan) (i : ℕ) (when : List Part) (forms : List Form) (cp : CellPlan) (now : Part) (f : Form) → slice_get p.cells i ≡ Some cp → IsWholeCell p i cp now f → AreWhole p i when forms → AreWhole p (i + 1) (when ++ now ∷ []) (forms ++ f ∷ [])
whole_next p i when forms cp now f e h old = record {
  part_count = length_push when now ∙ ap (λ k. k + 1) old.part_count;
  form_count = length_push forms f ∙ ap (λ k. k + 1) old.form_count;
  each = each;
}
  where
    here : (k : ℕ) (d : CellPlan) (a : Part) (g : Form) → k ≡ i → a ≡ now → g ≡ f → slice_get p.cells k ≡ Some d → IsWholeCell p k d a g
    here k d a g ki an gf ek =
        let same : cp ≡ d = let both : Some cp ≡ Some d = sym e ∙ ap (λ j. slice_get p.cells j) (sym ki) ∙ ek in cc in
        let at : IsWholeCell p i d now f = subst (λ (t : CellPlan). IsWholeCell p i t now f) same h in
        rw (ki, an, gf) at

    each : (k : ℕ) (d : CellPlan) (a : Part) (g : Form) → slice_get p.cells k ≡ Some d → slice_get (when ++ now ∷ []) k ≡ Some a → slice_get (forms ++ f ∷ []) k ≡ Some g → IsWholeCell p k d a g
    each k d a g ek ea eg = elim (push_cases when now k a ea) [
      | inl u ↦ elim (push_cases forms f k g eg) [
        | inl v ↦ old.each k d a g ek u.1 v.1
        | inr v ↦ let m = u.0 in let n = v.0 in let x = old.part_count in let y = old.form_count in absurd (omega arith)
      ]
      | inr u ↦ elim (push_cases forms f k g eg) [
        | inl v ↦ let m = u.0 in let n = v.0 in let x = old.part_count in let y = old.form_count in absurd (omega arith)
        | inr v ↦ here k d a g (u.0 ∙ old.part_count) u.1 v.1 ek
      ]
    ]

module _ (p : ScriptPlan) (known : IsWellFormed p) (when : List Part) (forms : List Form) (whole : AreWhole p (length p.cells) when forms) where
  form_of : (i : ℕ) (cp : CellPlan) → slice_get p.cells i ≡ Some cp → (f : Form) × (slice_get forms i ≡ Some f)
  form_of i cp e = get_within forms i (let l = slice_get_within p.cells i cp e in let y = whole.form_count in omega arith)

  part_of : (i : ℕ) (cp : CellPlan) → slice_get p.cells i ≡ Some cp → (a : Part) × (slice_get when i ≡ Some a)
  part_of i cp e = get_within when i (let l = slice_get_within p.cells i cp e in let y = whole.part_count in omega arith)

  cell_of : (i : ℕ) (f : Form) → slice_get forms i ≡ Some f → (cp : CellPlan) × (slice_get p.cells i ≡ Some cp)
  cell_of i f e = get_within p.cells i (let l = slice_get_within forms i f e in let y = whole.form_count in omega arith)

  is_cell : (i : ℕ) (cp : CellPlan) → slice_get p.cells i ≡ Some cp → IsCell p.enums cp
  is_cell i cp e = all_at (IsCell p.enums) p.cells i cp known.cells e

  pub all_fits : PathFits p (record { when = when; end = Next forms })
  all_fits = record {
    parts = zip_from (PartFits p) p.cells when (sym whole.part_count) part_fits;
    end = record {
      each = zip_from (FormFits p when) p.cells forms (sym whole.form_count) form_fits;
      taken = all_from (IsTakenOn when) forms form_taken;
    };
  }
    where
      part_fits : (i : ℕ) (cp : CellPlan) (a : Part) → slice_get p.cells i ≡ Some cp → slice_get when i ≡ Some a → PartFits p cp a
      part_fits i cp a e g = let f = form_of i cp e in whole_fits p i cp a f.0 (is_cell i cp e) (whole.each i cp a f.0 e g f.1)

      form_fits : (i : ℕ) (cp : CellPlan) (f : Form) → slice_get p.cells i ≡ Some cp → slice_get forms i ≡ Some f → FormFits p when cp f
      form_fits i cp f e g = let a = part_of i cp e in own_fits p i when cp a.0 f e a.1 (is_cell i cp e) (whole.each i cp a.0 f e a.1 g)

      form_taken : (i : ℕ) (f : Form) → slice_get forms i ≡ Some f → IsTakenOn when f
      form_taken i f g = let cp = cell_of i f g in let a = part_of i cp.0 cp.1 in own_taken p i when cp.0 a.0 f a.1 (whole.each i cp.0 a.0 f cp.1 a.1 g)

  pub all_admits : AdmitsAll p (record { when = when; end = Next forms })
  all_admits truth s v = zip_from (PartAdmits truth) when s.cells (whole.part_count ∙ zip_length (IsValidCell p.enums) p.cells s.cells v) admitted
    where
      admitted : (i : ℕ) (a : Part) (x : Cell) → slice_get when i ≡ Some a → slice_get s.cells i ≡ Some x → PartAdmits truth a x
      admitted i a x g q =
          let found = zip_get_right (IsValidCell p.enums) p.cells s.cells i x v q in
          let f = form_of i found.0 found.1 in
          whole_admits p i truth found.0 a f.0 x (whole.each i found.0 a f.0 found.1 g f.1) found.2

  pub all_leaves : LeavesAll p (record { when = when; end = Next forms })
  all_leaves s v = ap (λ (cells : List Cell). Going (record { cells = cells })) (cells_same forms s s.cells same_count same)
    where
      same_count : length forms ≡ length s.cells
      same_count = whole.form_count ∙ zip_length (IsValidCell p.enums) p.cells s.cells v

      same : (i : ℕ) (f : Form) (x : Cell) → slice_get forms i ≡ Some f → slice_get s.cells i ≡ Some x → cell_at f s x ≡ x
      same i f x g q =
          let found = zip_get_right (IsValidCell p.enums) p.cells s.cells i x v q in
          let a = part_of i found.0 found.1 in
          own_same p i s found.0 a.0 f x q (whole.each i found.0 a.0 f found.1 a.1 g) found.2
