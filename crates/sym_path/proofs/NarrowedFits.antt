-- A path that is narrowed in one cell still fits its script.
use Rattle.std.proofs.Common.{◌≡◌, ◌<◌, ℕ, ℤ, ◌≤ℤ◌, ◌<ℤ◌, List, [], ◌∷◌, Some, None, inl, inr, refl, sym, ap, ◌∙◌, subst, arith}
use Rattle.std.proofs.lemmas.Bool.{cases_eq, eq-eqb, ne_eqb}
use Rattle.std.proofs.lemmas.Int.{ints, by_lt_z}
use Rattle.std.proofs.lemmas.List.Elements.{All-map}
use Rattle.std.specs.Prelude.{slice_get, slice_set, IsTrue}
use Rattle.std.specs.List.{All, AllZip}
use Rattle.sym_base.specs.Limits.{IsNumber}
use Rattle.sym_check.specs.declared.plan.script.CellPlan.{CellPlan}
use Rattle.sym_check.specs.declared.plan.script.CellPlan.TheVariants as plan
use Rattle.sym_check.specs.Plan.CellKinds.{IsEnumCell}
use Rattle.sym_check.specs.Plan.ScriptPlans.{ScriptPlan}
use Rattle.sym_check.specs.Plan.Ranges.{InRange}
use Rattle.sym_check.specs.Meaning.Validity.{label_count}
use Rattle.sym_check.specs.Plan.WellFormed.{IsCell, IsWellFormed}
use Rattle.sym_enum.specs.Labels.{has_label, IsOnlyLabel}
use Rattle.sym_enum.specs.declared.form.EnumForm.{EnumForm}
use Rattle.sym_enum.specs.declared.form.EnumForm.TheVariants as label
use Rattle.sym_enum.specs.declared.label_set.LabelSet.{LabelSet}
use Rattle.sym_int.specs.Elements.{IsConstant, CanFix, IsFixedTo}
use Rattle.sym_int.specs.Lines.{form_on, form_cell}
use Rattle.sym_int.specs.Points.{HasPoint}
use Rattle.sym_int.specs.declared.form.IntForm.{IntForm}
use Rattle.sym_int.specs.declared.form.IntForm.TheVariants as number
use Rattle.sym_int.specs.declared.form.Line.{Line}
use Rattle.sym_int.specs.declared.span.Span.{Span}
use Rattle.sym_base.specs.declared.values.value.Value.{Value}
use Rattle.sym_pred.specs.Facts.{FactMap}
use Rattle.sym_base.specs.Tests.{Truth}
use Rattle.sym_pred.specs.Meaning as facts
use Rattle.sym_path.specs.declared.part.Part.{Part}
use Rattle.sym_path.specs.declared.part.Part.TheVariants as part
use Rattle.sym_path.specs.declared.form.Form.{Form}
use Rattle.sym_path.specs.declared.form.Form.TheVariants as form
use Rattle.sym_path.specs.declared.path.PathEnd.{PathEnd}
use Rattle.sym_path.specs.declared.path.PathEnd.TheVariants.{Next, Ended}
use Rattle.sym_path.specs.declared.path.Path.{Path}
use Rattle.sym_path.specs.Fitting.{FitsEnum, FitsRange, PartFits, StaysWithin, NumberFits, FormFits, FormsFit, EndFits, PathFits}
use Rattle.sym_path.specs.Fitting as fitting
use Rattle.sym_path.specs.Narrowing.{IsSubset, IsSubspan, NarrowsLabels, NarrowsNumbers, label_put, with_label, NumberIsPut, CanPutNumber, CanPutAtEnd, end_with_label, NumberIsPutAtEnd, LabelsNarrowed, NumbersNarrowed}
use Rattle.sym_path.specs.Taking.{HasOneLabel, HasOneNumber, copied_cell, LabelIsTakenTo, NumberIsTakenTo, IsTakenOn}
use Rattle.sym_path.proofs.Lists.{set_cases, set_same, set_other, zip_get_right, zip_set, zip_weak, zip_map, zip_trans, zip_all, all_from, all_at}
use Rattle.sym_path.proofs.Narrowed.{old_labels, old_numbers, subspan_point}
use Rattle.sym_path.proofs.Fitted.{number_between}

-- ---- forms that name no cell with one value

module _ (when : List Part) where
  pub label_free : (f : EnumForm) → LabelIsTakenTo when f f → (d m : ℕ) → copied_cell f ≡ Some d → HasOneLabel when d m → ⊥
  label_free f h d m e o = let k : copied_cell f ≡ None = ap copied_cell (h.one d m e o) in cc

  pub label_taken : (f : EnumForm) → ((d m : ℕ) → copied_cell f ≡ Some d → HasOneLabel when d m → ⊥) → LabelIsTakenTo when f f
  label_taken f h = record { one = λ d m e o. absurd (h d m e o); more = λ none. refl }

  constant_free : (f : IntForm) (y : ℤ) (d : ℕ) → IsConstant y f → form_cell f ≡ Some d → ⊥
  constant_free (number.Const n) y d h e = cc
  constant_free (number.Line line) y d h e = h

  pub number_free : (f : IntForm) → NumberIsTakenTo when f f → (d : ℕ) (x : ℤ) → form_cell f ≡ Some d → HasOneNumber when d x → ⊥
  number_free f h d x e o = constant_free f (form_on f x) d (h.one d x e o) e

  pub number_taken : (f : IntForm) → ((d : ℕ) (x : ℤ) → form_cell f ≡ Some d → HasOneNumber when d x → ⊥) → NumberIsTakenTo when f f
  number_taken f h = record { one = λ d x e o. absurd (h d x e o); more = λ none. refl }

-- Lists of number forms that are taken on a constraint, after a change of each.
pub taken_lists : (v w : List Part) (R : IntForm → IntForm → Type 0) (fs gs : List IntForm) → ((f g : IntForm) → R f g → NumberIsTakenTo v f f → NumberIsTakenTo w g g) → AllZip R fs gs → AllZip (NumberIsTakenTo v) fs fs → AllZip (NumberIsTakenTo w) gs gs
taken_lists v w R [] [] step r h = tt
taken_lists v w R [] (g ∷ gs) step r h = absurd r
taken_lists v w R (f ∷ fs) [] step r h = absurd r
taken_lists v w R (f ∷ fs) (g ∷ gs) step r h = (step f g r.0 h.0, taken_lists v w R fs gs step r.1 h.1)

pub same_lists : {A : Type 0} (fs : List A) → AllZip (λ f g. g ≡ f) fs fs
same_lists [] = tt
same_lists (f ∷ fs) = (refl, same_lists fs)

-- Forms that fit still fit where their numbers stay in range.
refit : (p : ScriptPlan) (v w : List Part) → ((lo hi : ℤ) (line : Line) → StaysWithin lo hi (form_on (number.Line line)) (slice_get v line.cell) → StaysWithin lo hi (form_on (number.Line line)) (slice_get w line.cell)) → (cp : CellPlan) (f : Form) → FormFits p v cp f → FormFits p w cp f
refit p v w step _ _ (fitting.of_label of first l h) = fitting.of_label of first l h
refit p v w step _ _ (fitting.copied_label of first c h) = fitting.copied_label of first c h
refit p v w step _ _ (fitting.of_number lo hi first f h) = fitting.of_number lo hi first f (again lo hi f h)
  where
    again : (lo hi : ℤ) (f : IntForm) → NumberFits lo hi v f → NumberFits lo hi w f
    again lo hi (number.Const n) h = h
    again lo hi (number.Line line) h = step lo hi line h
refit p v w step _ _ (fitting.of_parts kinds first parts h) = fitting.of_parts kinds first parts h
refit p v w step _ _ (fitting.copied_parts kinds first c h) = fitting.copied_parts kinds first c h
refit p v w step _ _ (fitting.of_numbers lo hi added h) = fitting.of_numbers lo hi added (all_from (NumberFits lo hi w) added (λ i f e. again lo hi f (all_at (NumberFits lo hi v) added i f h e)))
  where
    again : (lo hi : ℤ) (f : IntForm) → NumberFits lo hi v f → NumberFits lo hi w f
    again lo hi (number.Const n) h = h
    again lo hi (number.Line line) h = step lo hi line h
refit p v w step _ _ (fitting.of_words added) = fitting.of_words added

-- ---- labels

module _ (p : ScriptPlan) (when : List Part) (c : ℕ) (old set : LabelSet) (is : slice_get when c ≡ Some (part.Set old)) (subset : IsSubset old set) where
  abbrev after_set : List Part
  after_set = slice_set when c (part.Set set)

  labels_stay : (lo hi : ℤ) (line : Line) → StaysWithin lo hi (form_on (number.Line line)) (slice_get when line.cell) → StaysWithin lo hi (form_on (number.Line line)) (slice_get after_set line.cell)
  labels_stay lo hi line h = elim (cases_eq line.cell c) [
    | inl e ↦
        let there : slice_get when line.cell ≡ Some (part.Set old) = ap (λ k. slice_get when k) e ∙ is in
        let none : StaysWithin lo hi (form_on (number.Line line)) (Some (part.Set old)) = rw there at h in
        absurd none
    | inr e ↦ rw (set_other when c line.cell (part.Set set) e) h
  ]

  number_kept : (d : ℕ) (x : ℤ) → HasOneNumber after_set d x → HasOneNumber when d x
  number_kept d x o = elim (set_cases when c d (part.Set set) (part.Span o.span) o.is) [
    | inl h ↦ absurd (let k = h.1 in cc)
    | inr h ↦ record { span = o.span; is = h.1; lo = o.lo; hi = o.hi }
  ]

  numbers_taken : (f g : IntForm) → g ≡ f → NumberIsTakenTo when f f → NumberIsTakenTo after_set g g
  numbers_taken f g same h = subst (λ (k : IntForm). NumberIsTakenTo after_set k k) (sym same) (number_taken after_set f (λ d x e o. number_free when f h d x e (number_kept d x o)))

  -- Forms that copy the cell no longer.
  put_free : (l : ℕ) (f : EnumForm) → LabelIsTakenTo when f f → LabelIsTakenTo after_set (label_put c l f) (label_put c l f)
  put_free l (label.Const m) h = label_taken after_set (label.Const m) (λ d n e o. cc)
  put_free l (label.Copy d) h = elim (cases_eq d c) [
    | inl e ↦ rw (eq-eqb d c e) (label_taken after_set (label.Const l) (λ k n q o. cc))
    | inr e ↦ rw (ne_eqb d c e) (label_taken after_set (label.Copy d) (λ k n q o.
        elim (set_cases when c k (part.Set set) (part.Set o.set) o.is) [
          | inl g ↦ e (let r = g.0 in cc)
          | inr g ↦ label_free when (label.Copy d) h k n q (record { set = o.set; is = g.1; only = o.only })
        ]))
  ]

  kept_free : ((l : ℕ) → IsOnlyLabel set l → ⊥) → (f : EnumForm) → LabelIsTakenTo when f f → LabelIsTakenTo after_set f f
  kept_free more f h = label_taken after_set f (λ k n q o.
      elim (set_cases when c k (part.Set set) (part.Set o.set) o.is) [
        | inl g ↦ let same : o.set ≡ set = cc in more n (subst (λ (t : LabelSet). IsOnlyLabel t n) same o.only)
        | inr g ↦ label_free when f h k n q (record { set = o.set; is = g.1; only = o.only })
      ])

  put_taken : (l : ℕ) (f : Form) → IsTakenOn when f → IsTakenOn after_set (with_label c l f)
  put_taken l (form.Enum f) h = put_free l f h
  put_taken l (form.Int f) h = numbers_taken f f refl h
  put_taken l (form.Hold f) h = refl
  put_taken l (form.Nums added) h = taken_lists when after_set (λ f g. g ≡ f) added added numbers_taken (same_lists added) h
  put_taken l (form.Words added) h = refl

  kept_taken : ((l : ℕ) → IsOnlyLabel set l → ⊥) → (f : Form) → IsTakenOn when f → IsTakenOn after_set f
  kept_taken more (form.Enum f) h = kept_free more f h
  kept_taken more (form.Int f) h = numbers_taken f f refl h
  kept_taken more (form.Hold f) h = refl
  kept_taken more (form.Nums added) h = taken_lists when after_set (λ f g. g ≡ f) added added numbers_taken (same_lists added) h
  kept_taken more (form.Words added) h = refl

  module _ (parts : AllZip (PartFits p) p.cells when) where
    part_found : (cp : CellPlan) × (slice_get p.cells c ≡ Some cp) × PartFits p cp (part.Set old)
    part_found = zip_get_right (PartFits p) p.cells when c (part.Set old) parts is

    narrowed_part : (cp : CellPlan) → PartFits p cp (part.Set old) → PartFits p cp (part.Set set)
    narrowed_part _ (fitting.labels of first _ h) = fitting.labels of first set (record { some = subset.some; within = λ l e. h.within l (subset.within l e) })

    labels_parts : AllZip (PartFits p) p.cells after_set
    labels_parts = zip_set (PartFits p) p.cells when c part_found.0 (part.Set set) parts part_found.1 (narrowed_part part_found.0 part_found.2)

    label_within : (l of : ℕ) → IsTrue (has_label set l) → IsEnumCell p.cells c of → l < label_count p.enums of
    label_within l of e h = go part_found.0 part_found.1 part_found.2
      where
        go : (cp : CellPlan) → slice_get p.cells c ≡ Some cp → PartFits p cp (part.Set old) → l < label_count p.enums of
        go _ q (fitting.labels of' first _ g) =
            let both : plan.Enum of' first ≡ plan.Enum of h.first = some_same (sym q ∙ h.is) in
            let same : of' ≡ of = cc in
            subst (λ (k : ℕ). l < label_count p.enums k) same (g.within l (subset.within l e))
          where
            some_same : {x y : CellPlan} → Some x ≡ Some y → x ≡ y
            some_same e = cc

    put_fits : (l : ℕ) → IsTrue (has_label set l) → (cp : CellPlan) (f : Form) → FormFits p after_set cp f → FormFits p after_set cp (with_label c l f)
    put_fits l e _ _ (fitting.of_label of first m h) = fitting.of_label of first m h
    put_fits l e _ _ (fitting.copied_label of first d h) = elim (cases_eq d c) [
      | inl q ↦ rw (eq-eqb d c q) (fitting.of_label of first l (label_within l of e (subst (λ (k : ℕ). IsEnumCell p.cells k of) q h)))
      | inr q ↦ rw (ne_eqb d c q) (fitting.copied_label of first d h)
    ]
    put_fits l e _ _ (fitting.of_number lo hi first f h) = fitting.of_number lo hi first f h
    put_fits l e _ _ (fitting.of_parts kinds first parts h) = fitting.of_parts kinds first parts h
    put_fits l e _ _ (fitting.copied_parts kinds first d h) = fitting.copied_parts kinds first d h
    put_fits l e _ _ (fitting.of_numbers lo hi added h) = fitting.of_numbers lo hi added h
    put_fits l e _ _ (fitting.of_words added) = fitting.of_words added

    put_end_fits : (l : ℕ) → IsTrue (has_label set l) → (end : PathEnd) → EndFits p when end → EndFits p after_set (end_with_label c l end)
    put_end_fits l e (Next forms) h = record {
      each = zip_map (FormFits p when) (FormFits p after_set) (with_label c l) p.cells forms (λ cp f g. put_fits l e cp f (refit p when after_set labels_stay cp f g)) h.each;
      taken = All-map (IsTakenOn after_set) (with_label c l) forms (all_from (λ f. IsTakenOn after_set (with_label c l f)) forms (λ i f q. put_taken l f (all_at (IsTakenOn when) forms i f h.taken q)));
    }
    put_end_fits l e (Ended fault) h = h

    kept_end_fits : ((l : ℕ) → IsOnlyLabel set l → ⊥) → (end : PathEnd) → EndFits p when end → EndFits p after_set end
    kept_end_fits more (Next forms) h = record {
      each = zip_weak (FormFits p when) (FormFits p after_set) p.cells forms (refit p when after_set labels_stay) h.each;
      taken = all_from (IsTakenOn after_set) forms (λ i f q. kept_taken more f (all_at (IsTakenOn when) forms i f h.taken q));
    }
    kept_end_fits more (Ended fault) h = h

pub labels_fit : (p : ScriptPlan) (c : ℕ) (set : LabelSet) (old new : Path) → NarrowsLabels set (slice_get old.when c) → LabelsNarrowed c set old new → PathFits p old → PathFits p new
labels_fit p c set old new narrower h fits = go (old_labels set (slice_get old.when c) narrower)
  where
    go : (before : LabelSet) × (slice_get old.when c ≡ Some (part.Set before)) × IsSubset before set → PathFits p new
    go (before, is, subset) =
        let w : List Part = slice_set old.when c (part.Set set) in
        let ends : EndFits p w new.end = elim h.end [
          | inl (l, only, same) ↦ subst (λ (e : PathEnd). EndFits p w e) (sym same) (put_end_fits p old.when c before set is subset fits.parts l ((only l).1 refl) old.end fits.end)
          | inr (more, same) ↦ subst (λ (e : PathEnd). EndFits p w e) (sym same) (kept_end_fits p old.when c before set is subset fits.parts more old.end fits.end)
        ] in
        record {
          parts = subst (λ (v : List Part). AllZip (PartFits p) p.cells v) (sym h.when) (labels_parts p old.when c before set is subset fits.parts);
          end = subst (λ (v : List Part). EndFits p v new.end) (sym h.when) ends;
        }

-- ---- numbers

module _ (p : ScriptPlan) (when : List Part) (c : ℕ) (old span : Span) (is : slice_get when c ≡ Some (part.Span old)) (subspan : IsSubspan old span) where
  abbrev after_span : List Part
  after_span = slice_set when c (part.Span span)

  span_there : slice_get after_span c ≡ Some (part.Span span)
  span_there = set_same when c (part.Span span) (part.Span old) is

  -- A number that lies in a range at each point of the span of a cell.
  stays_at : (lo hi : ℤ) (number : ℤ → ℤ) (v : List Part) (d : ℕ) (t : Span) → slice_get v d ≡ Some (part.Span t) → StaysWithin lo hi number (slice_get v d) → (x : ℤ) → HasPoint t x → InRange lo hi (number x)
  stays_at lo hi number v d t e h = rw e at h

  numbers_stay : (lo hi : ℤ) (line : Line) → StaysWithin lo hi (form_on (number.Line line)) (slice_get when line.cell) → StaysWithin lo hi (form_on (number.Line line)) (slice_get after_span line.cell)
  numbers_stay lo hi line h = elim (cases_eq line.cell c) [
    | inl e ↦
        let there : slice_get when line.cell ≡ Some (part.Span old) = ap (λ k. slice_get when k) e ∙ is in
        let now : slice_get after_span line.cell ≡ Some (part.Span span) = ap (λ k. slice_get after_span k) e ∙ span_there in
        let all : (x : ℤ) → HasPoint old x → InRange lo hi (form_on (number.Line line) x) = stays_at lo hi (form_on (number.Line line)) when line.cell old there h in
        rw now (λ x q. all x (subspan_point old span x subspan q))
    | inr e ↦ rw (set_other when c line.cell (part.Span span) e) h
  ]

  label_kept : (d m : ℕ) → HasOneLabel after_span d m → HasOneLabel when d m
  label_kept d m o = elim (set_cases when c d (part.Span span) (part.Set o.set) o.is) [
    | inl h ↦ absurd (let k = h.1 in cc)
    | inr h ↦ record { set = o.set; is = h.1; only = o.only }
  ]

  labels_taken : (f : EnumForm) → LabelIsTakenTo when f f → LabelIsTakenTo after_span f f
  labels_taken f h = label_taken after_span f (λ d m e o. label_free when f h d m e (label_kept d m o))

  -- The span has more than one number.
  module _ (more : span.lo <ℤ span.hi) where
    kept_number : (f g : IntForm) → g ≡ f → NumberIsTakenTo when f f → NumberIsTakenTo after_span g g
    kept_number f g same h = subst (λ (k : IntForm). NumberIsTakenTo after_span k k) (sym same) (number_taken after_span f (λ d x e o.
        elim (set_cases when c d (part.Span span) (part.Span o.span) o.is) [
          | inl q ↦
              let t : o.span ≡ span = cc in
              let lo : span.lo ≡ x = ap (λ (u : Span). u.lo) (sym t) ∙ o.lo in
              let hi : span.hi ≡ x = ap (λ (u : Span). u.hi) (sym t) ∙ o.hi in
              omega (arith, ints)
          | inr q ↦ number_free when f h d x e (record { span = o.span; is = q.1; lo = o.lo; hi = o.hi })
        ]))

    numbers_kept_taken : (f : Form) → IsTakenOn when f → IsTakenOn after_span f
    numbers_kept_taken (form.Enum f) h = labels_taken f h
    numbers_kept_taken (form.Int f) h = kept_number f f refl h
    numbers_kept_taken (form.Hold f) h = refl
    numbers_kept_taken (form.Nums added) h = taken_lists when after_span (λ f g. g ≡ f) added added kept_number (same_lists added) h
    numbers_kept_taken (form.Words added) h = refl

    numbers_kept_end : (end : PathEnd) → EndFits p when end → EndFits p after_span end
    numbers_kept_end (Next forms) h = record {
      each = zip_weak (FormFits p when) (FormFits p after_span) p.cells forms (refit p when after_span numbers_stay) h.each;
      taken = all_from (IsTakenOn after_span) forms (λ i f q. numbers_kept_taken f (all_at (IsTakenOn when) forms i f h.taken q));
    }
    numbers_kept_end (Ended fault) h = h

  -- It has just one.
  module _ (one : span.lo ≡ span.hi) where
    the_point : HasPoint span span.lo
    the_point = let o : span.lo ≤ℤ span.hi = span.ordered in (omega (arith, ints), o)

    put_number_taken : (f g : IntForm) → IsFixedTo f c span.lo g → NumberIsTakenTo when f f → NumberIsTakenTo after_span g g
    put_number_taken (number.Const n) g r h =
        let same : g ≡ number.Const n = r.other (λ q. cc) in
        subst (λ (k : IntForm). NumberIsTakenTo after_span k k) (sym same) (number_taken after_span (number.Const n) (λ d x e o. cc))
    put_number_taken (number.Line line) g r h = elim (cases_eq line.cell c) [
      | inl e ↦ number_taken after_span g (λ d x q o. constant_free when g (form_on (number.Line line) span.lo) d (r.named (ap Some e)) q)
      | inr e ↦
          let same : g ≡ number.Line line = r.other (λ q. e (cc)) in
          subst (λ (k : IntForm). NumberIsTakenTo after_span k k) (sym same) (number_taken after_span (number.Line line) (λ d x q o.
          elim (set_cases when c d (part.Span span) (part.Span o.span) o.is) [
            | inl t ↦ e (let z = t.0 in cc)
            | inr t ↦ number_free when (number.Line line) h d x q (record { span = o.span; is = t.1; lo = o.lo; hi = o.hi })
          ]))
    ]

    number_put_taken : (f g : Form) → NumberIsPut c span.lo f g → IsTakenOn when f → IsTakenOn after_span g
    number_put_taken (form.Enum f) g r h = subst (λ (k : Form). IsTakenOn after_span k) (sym r) (labels_taken f h)
    number_put_taken (form.Int f) (form.Enum g) r h = absurd r
    number_put_taken (form.Int f) (form.Int g) r h = put_number_taken f g r h
    number_put_taken (form.Int f) (form.Hold g) r h = absurd r
    number_put_taken (form.Int f) (form.Nums g) r h = absurd r
    number_put_taken (form.Int f) (form.Words g) r h = absurd r
    number_put_taken (form.Hold f) g r h = subst (λ (k : Form). IsTakenOn after_span k) (sym r) refl
    number_put_taken (form.Nums f) (form.Enum g) r h = absurd r
    number_put_taken (form.Nums f) (form.Int g) r h = absurd r
    number_put_taken (form.Nums f) (form.Hold g) r h = absurd r
    number_put_taken (form.Nums f) (form.Nums g) r h = taken_lists when after_span (λ a b. IsFixedTo a c span.lo b) f g put_number_taken r h
    number_put_taken (form.Nums f) (form.Words g) r h = absurd r
    number_put_taken (form.Words f) g r h = subst (λ (k : Form). IsTakenOn after_span k) (sym r) refl

    constant_fits : (lo hi y : ℤ) (g : IntForm) → IsConstant y g → InRange lo hi y → NumberFits lo hi after_span g
    constant_fits lo hi y (number.Const n) h r = subst (λ (z : ℤ). InRange lo hi z) (sym h) r
    constant_fits lo hi y (number.Line line) h r = absurd h

    fixed_fits : (lo hi : ℤ) (f g : IntForm) → NumberFits lo hi after_span f → IsFixedTo f c span.lo g → NumberFits lo hi after_span g
    fixed_fits lo hi (number.Const n) g h r = subst (λ (k : IntForm). NumberFits lo hi after_span k) (sym (r.other (λ q. cc))) h
    fixed_fits lo hi (number.Line line) g h r = elim (cases_eq line.cell c) [
      | inl e ↦
          let now : slice_get after_span line.cell ≡ Some (part.Span span) = ap (λ k. slice_get after_span k) e ∙ span_there in
          let at : InRange lo hi (form_on (number.Line line) span.lo) = stays_at lo hi (form_on (number.Line line)) after_span line.cell span now h span.lo the_point in
          constant_fits lo hi (form_on (number.Line line) span.lo) g (r.named (ap Some e)) at
      | inr e ↦ subst (λ (k : IntForm). NumberFits lo hi after_span k) (sym (r.other (λ q. e (cc)))) h
    ]

    all_fixed_fit : (lo hi : ℤ) (fs gs : List IntForm) → AllZip (λ f g. IsFixedTo f c span.lo g) fs gs → All (NumberFits lo hi after_span) fs → All (NumberFits lo hi after_span) gs
    all_fixed_fit lo hi fs gs r h = zip_all (λ f g. IsFixedTo f c span.lo g) (NumberFits lo hi after_span) (NumberFits lo hi after_span) fs gs (λ f g q t. fixed_fits lo hi f g t q) r h

    number_put_fits : (cp : CellPlan) (f g : Form) → FormFits p after_span cp f → NumberIsPut c span.lo f g → FormFits p after_span cp g
    number_put_fits _ _ g (fitting.of_label of first l h) r = subst (λ (k : Form). FormFits p after_span (plan.Enum of first) k) (sym r) (fitting.of_label of first l h)
    number_put_fits _ _ g (fitting.copied_label of first d h) r = subst (λ (k : Form). FormFits p after_span (plan.Enum of first) k) (sym r) (fitting.copied_label of first d h)
    number_put_fits _ _ (form.Enum g) (fitting.of_number lo hi first f h) r = absurd r
    number_put_fits _ _ (form.Int g) (fitting.of_number lo hi first f h) r = fitting.of_number lo hi first g (fixed_fits lo hi f g h r)
    number_put_fits _ _ (form.Hold g) (fitting.of_number lo hi first f h) r = absurd r
    number_put_fits _ _ (form.Nums g) (fitting.of_number lo hi first f h) r = absurd r
    number_put_fits _ _ (form.Words g) (fitting.of_number lo hi first f h) r = absurd r
    number_put_fits _ _ g (fitting.of_parts kinds first parts h) r = subst (λ (k : Form). FormFits p after_span (plan.Hold kinds first) k) (sym r) (fitting.of_parts kinds first parts h)
    number_put_fits _ _ g (fitting.copied_parts kinds first d h) r = subst (λ (k : Form). FormFits p after_span (plan.Hold kinds first) k) (sym r) (fitting.copied_parts kinds first d h)
    number_put_fits _ _ (form.Enum g) (fitting.of_numbers lo hi added h) r = absurd r
    number_put_fits _ _ (form.Int g) (fitting.of_numbers lo hi added h) r = absurd r
    number_put_fits _ _ (form.Hold g) (fitting.of_numbers lo hi added h) r = absurd r
    number_put_fits _ _ (form.Nums g) (fitting.of_numbers lo hi added h) r = fitting.of_numbers lo hi g (all_fixed_fit lo hi added g r h)
    number_put_fits _ _ (form.Words g) (fitting.of_numbers lo hi added h) r = absurd r
    number_put_fits _ _ g (fitting.of_words added) r = subst (λ (k : Form). FormFits p after_span plan.Words k) (sym r) (fitting.of_words added)

    number_put_end : (end new : PathEnd) → EndFits p when end → NumberIsPutAtEnd c span.lo end new → EndFits p after_span new
    number_put_end (Next fs) (Next gs) h r = record {
      each = zip_trans (FormFits p when) (NumberIsPut c span.lo) (FormFits p after_span) p.cells fs gs (λ cp f g t q. number_put_fits cp f g (refit p when after_span numbers_stay cp f t) q) h.each r;
      taken = zip_all (NumberIsPut c span.lo) (IsTakenOn when) (IsTakenOn after_span) fs gs number_put_taken r h.taken;
    }
    number_put_end (Next fs) (Ended b) h r = absurd r
    number_put_end (Ended a) (Next gs) h r = absurd r
    number_put_end (Ended a) (Ended b) h r = subst (λ f. EndFits p after_span (Ended f)) (sym r) h

    -- The number may be put into the forms.
    can_fix_one : (cp_lo cp_hi : ℤ) (f : IntForm) → IsNumber cp_lo → IsNumber cp_hi → NumberFits cp_lo cp_hi when f → CanFix f c span.lo
    can_fix_one lo hi (number.Const n) a b h = tt
    can_fix_one lo hi (number.Line line) a b h = λ e.
        let there : slice_get when line.cell ≡ Some (part.Span old) = ap (λ k. slice_get when k) e ∙ is in
        number_between lo hi (form_on (number.Line line) span.lo) a b (stays_at lo hi (form_on (number.Line line)) when line.cell old there h span.lo (subspan_point old span span.lo subspan the_point))

    can_put_one : (cp : CellPlan) (f : Form) → IsCell p.enums cp → FormFits p when cp f → CanPutNumber c span.lo f
    can_put_one _ _ w (fitting.of_label of first l h) = tt
    can_put_one _ _ w (fitting.copied_label of first d h) = tt
    can_put_one _ _ w (fitting.of_number lo hi first f h) = can_fix_one lo hi f w.0 w.1 h
    can_put_one _ _ w (fitting.of_parts kinds first parts h) = tt
    can_put_one _ _ w (fitting.copied_parts kinds first d h) = tt
    can_put_one _ _ w (fitting.of_numbers lo hi added h) = all_from (λ f. CanFix f c span.lo) added (λ i f e. can_fix_one lo hi f w.0 w.1 (all_at (NumberFits lo hi when) added i f h e))
    can_put_one _ _ w (fitting.of_words added) = tt

    can_put_end : (end : PathEnd) → IsWellFormed p → EndFits p when end → CanPutAtEnd c span.lo end
    can_put_end (Next forms) w h = all_from (CanPutNumber c span.lo) forms each
      where
        each : (i : ℕ) (f : Form) → slice_get forms i ≡ Some f → CanPutNumber c span.lo f
        each i f e = let found = zip_get_right (FormFits p when) p.cells forms i f h.each e in can_put_one found.0 f (all_at (IsCell p.enums) p.cells i found.0 w.cells found.1) found.2
    can_put_end (Ended fault) w h = tt

  numbers_part : (cp : CellPlan) → PartFits p cp (part.Span old) → PartFits p cp (part.Span span)
  numbers_part _ (fitting.numbers lo hi first _ h) =
      let a = h.0 in let b = h.1 in let d = subspan.0 in let e = subspan.1 in
      fitting.numbers lo hi first span (omega (arith, ints), omega (arith, ints))

  numbers_parts : AllZip (PartFits p) p.cells when → AllZip (PartFits p) p.cells after_span
  numbers_parts parts =
      let found = zip_get_right (PartFits p) p.cells when c (part.Span old) parts is in
      zip_set (PartFits p) p.cells when c found.0 (part.Span span) parts found.1 (numbers_part found.0 found.2)

pub numbers_fit : (p : ScriptPlan) (c : ℕ) (span : Span) (old new : Path) → NarrowsNumbers span (slice_get old.when c) → NumbersNarrowed c span old new → PathFits p old → PathFits p new
numbers_fit p c span old new narrower h fits = go (old_numbers span (slice_get old.when c) narrower)
  where
    go : (before : Span) × (slice_get old.when c ≡ Some (part.Span before)) × IsSubspan before span → PathFits p new
    go (before, is, within) =
        let w : List Part = slice_set old.when c (part.Span span) in
        let ends : EndFits p w new.end =
        by_lt_z span.lo span.hi
        (λ q. subst (λ (e : PathEnd). EndFits p w e) (sym (h.more q)) (numbers_kept_end p old.when c before span is within q old.end fits.end))
        (λ q. let o : span.lo ≤ℤ span.hi = span.ordered in let one : span.lo ≡ span.hi = omega (arith, ints) in number_put_end p old.when c before span is within one old.end new.end fits.end (h.one one)) in
        record {
          parts = subst (λ (v : List Part). AllZip (PartFits p) p.cells v) (sym h.when) (numbers_parts p old.when c before span is within fits.parts);
          end = subst (λ (v : List Part). EndFits p v new.end) (sym h.when) ends;
        }

pub numbers_can_put : (p : ScriptPlan) (c : ℕ) (span : Span) (old : Path) → IsWellFormed p → PathFits p old → NarrowsNumbers span (slice_get old.when c) → span.lo ≡ span.hi → CanPutAtEnd c span.lo old.end
numbers_can_put p c span old w fits narrower one =
    let (before, is, within) = old_numbers span (slice_get old.when c) narrower in
    can_put_end p old.when c before span is within one old.end w fits.end

-- ---- facts

module _ (p : ScriptPlan) (when : List Part) (c : ℕ) (old known : FactMap) (is : slice_get when c ≡ Some (part.Facts old)) where
  abbrev after_facts : List Part
  after_facts = slice_set when c (part.Facts known)

  facts_stay : (lo hi : ℤ) (line : Line) → StaysWithin lo hi (form_on (number.Line line)) (slice_get when line.cell) → StaysWithin lo hi (form_on (number.Line line)) (slice_get after_facts line.cell)
  facts_stay lo hi line h = elim (cases_eq line.cell c) [
    | inl e ↦
        let there : slice_get when line.cell ≡ Some (part.Facts old) = ap (λ k. slice_get when k) e ∙ is in
        let none : StaysWithin lo hi (form_on (number.Line line)) (Some (part.Facts old)) = rw there at h in
        absurd none
    | inr e ↦ rw (set_other when c line.cell (part.Facts known) e) h
  ]

  facts_number : (d : ℕ) (x : ℤ) → HasOneNumber after_facts d x → HasOneNumber when d x
  facts_number d x o = elim (set_cases when c d (part.Facts known) (part.Span o.span) o.is) [
    | inl h ↦ absurd (let k = h.1 in cc)
    | inr h ↦ record { span = o.span; is = h.1; lo = o.lo; hi = o.hi }
  ]

  facts_label : (d m : ℕ) → HasOneLabel after_facts d m → HasOneLabel when d m
  facts_label d m o = elim (set_cases when c d (part.Facts known) (part.Set o.set) o.is) [
    | inl h ↦ absurd (let k = h.1 in cc)
    | inr h ↦ record { set = o.set; is = h.1; only = o.only }
  ]

  facts_numbers_taken : (f g : IntForm) → g ≡ f → NumberIsTakenTo when f f → NumberIsTakenTo after_facts g g
  facts_numbers_taken f g same h = subst (λ (k : IntForm). NumberIsTakenTo after_facts k k) (sym same) (number_taken after_facts f (λ d x e o. number_free when f h d x e (facts_number d x o)))

  facts_taken : (f : Form) → IsTakenOn when f → IsTakenOn after_facts f
  facts_taken (form.Enum f) h = label_taken after_facts f (λ d m e o. label_free when f h d m e (facts_label d m o))
  facts_taken (form.Int f) h = facts_numbers_taken f f refl h
  facts_taken (form.Hold f) h = refl
  facts_taken (form.Nums added) h = taken_lists when after_facts (λ f g. g ≡ f) added added facts_numbers_taken (same_lists added) h
  facts_taken (form.Words added) h = refl

  facts_end : (end : PathEnd) → EndFits p when end → EndFits p after_facts end
  facts_end (Next forms) h = record {
    each = zip_weak (FormFits p when) (FormFits p after_facts) p.cells forms (refit p when after_facts facts_stay) h.each;
    taken = all_from (IsTakenOn after_facts) forms (λ i f q. facts_taken f (all_at (IsTakenOn when) forms i f h.taken q));
  }
  facts_end (Ended fault) h = h

pub facts_fit : (p : ScriptPlan) (c : ℕ) (cp : CellPlan) (before known : FactMap) (old new : Path) → slice_get p.cells c ≡ Some cp → slice_get old.when c ≡ Some (part.Facts before) → PartFits p cp (part.Facts known) → new.when ≡ slice_set old.when c (part.Facts known) → new.end ≡ old.end → PathFits p old → PathFits p new
facts_fit p c cp before known old new there is suits w same fits = record {
  parts = subst (λ (v : List Part). AllZip (PartFits p) p.cells v) (sym w) (zip_set (PartFits p) p.cells old.when c cp (part.Facts known) fits.parts there suits);
  end = subst (λ (v : List Part). EndFits p v new.end) (sym w) (subst (λ (e : PathEnd). EndFits p (slice_set old.when c (part.Facts known)) e) (sym same) (facts_end p old.when c before known is old.end fits.end));
}
