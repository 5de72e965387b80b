-- A path's constraint narrowed in one cell, and its forms taken on it.
use Rattle.std.proofs.Common.{◌≡◌, ℕ, zero, suc, ℤ, ◌+ℤ◌, ◌*ℤ◌, ◌≤ℤ◌, Bool, true, false, ◌&&◌, List, [], ◌∷◌, ◌++◌, Option, Some, None, inl, inr, map, refl, sym, ap, ◌∙◌, arith}
use Rattle.std.proofs.lemmas.Bool.{cases_eq, eq-eqb, ne_eqb}
use Rattle.std.proofs.lemmas.Int.{ints, by_lt_z}
use Rattle.std.specs.Prelude.{slice_get, slice_set, if◌then◌else◌}
use Rattle.std.specs.List.{AllZip}
use Rattle.sym_base.specs.States.{number_at, cell_number, label_at, cell_label}
use Rattle.sym_base.specs.declared.values.state.Cell.{Cell}
use Rattle.sym_base.specs.declared.values.state.Cell.TheVariants as cell
use Rattle.sym_base.specs.declared.values.state.State.{State}
use Rattle.sym_base.specs.declared.values.state.Outcome.{Outcome}
use Rattle.sym_base.specs.declared.values.state.Outcome.TheVariants.{Going}
use Rattle.sym_base.specs.States.{cell_nums}
use Rattle.sym_enum.specs.Labels.{label_value, IsOnlyLabel}
use Rattle.sym_enum.specs.declared.form.EnumForm.{EnumForm}
use Rattle.sym_enum.specs.declared.form.EnumForm.TheVariants as label
use Rattle.sym_enum.specs.declared.label_set.LabelSet.{LabelSet}
use Rattle.sym_int.specs.Elements.{IsConstant, IsFixedTo}
use Rattle.sym_int.specs.Lines.{form_on, form_value, offset}
use Rattle.sym_int.specs.Points.{HasPoint}
use Rattle.sym_int.specs.declared.form.IntForm.{IntForm}
use Rattle.sym_int.specs.declared.form.IntForm.TheVariants as number
use Rattle.sym_int.specs.declared.span.Span.{Span}
use Rattle.sym_pred.specs.Facts.{FactMap}
use Rattle.sym_base.specs.Tests.{Truth}
use Rattle.sym_pred.specs.Meaning as facts
use Rattle.sym_base.specs.declared.values.value.Value.{Value}
use Rattle.sym_path.specs.declared.part.Part.{Part}
use Rattle.sym_path.specs.declared.part.Part.TheVariants as part
use Rattle.sym_path.specs.declared.form.Form.{Form}
use Rattle.sym_path.specs.declared.form.Form.TheVariants as form
use Rattle.sym_path.specs.declared.path.PathEnd.{PathEnd}
use Rattle.sym_path.specs.declared.path.PathEnd.TheVariants.{Next, Ended}
use Rattle.sym_path.specs.declared.path.Path.{Path}
use Rattle.sym_path.specs.Admitting.{part_admits, admits}
use Rattle.sym_path.specs.Giving.{cell_at, cells_at, end_at, given}
use Rattle.sym_path.specs.Narrowing.{cell_admitted, GivesWhere, IsSubset, IsSubspan, NarrowsLabels, NarrowsNumbers, label_put, with_label, NumberIsPut, end_with_label, NumberIsPutAtEnd, LabelsNarrowed, NumbersNarrowed}
use Rattle.sym_path.proofs.Decided.{point_decided, facts_decided}

-- ---- what a narrowed constraint admits

only_true : (b a : Bool) → (b ≡ true → a ≡ true) → (x : Bool) → (b && x) ≡ (b && (a && x))
only_true true a h x = rw (h refl) refl
only_true false a h x = refl

swapped : (a x y : Bool) → (a && (x && y)) ≡ (x && (a && y))
swapped true true y = refl
swapped true false y = refl
swapped false true y = refl
swapped false false y = refl

pub admits_set : (truth : Truth) (ps : List Part) (cs : List Cell) (k : ℕ) (old new : Part) → slice_get ps k ≡ Some old → ((c : Cell) → part_admits truth new c ≡ true → part_admits truth old c ≡ true) → admits truth (slice_set ps k new) cs ≡ (cell_admitted truth new (slice_get cs k) && admits truth ps cs)
admits_set truth [] cs k old new e h = absurd (cc)
admits_set truth (p ∷ ps) [] zero old new e h = refl
admits_set truth (p ∷ ps) [] (suc k) old new e h = refl
admits_set truth (p ∷ ps) (c ∷ cs) zero old new e h =
    let same : old ≡ p = cc in
    let narrower : part_admits truth new c ≡ true → part_admits truth p c ≡ true = λ t. sym (ap (λ (q : Part). part_admits truth q c) same) ∙ h c t in
    only_true (part_admits truth new c) (part_admits truth p c) narrower (admits truth ps cs)
admits_set truth (p ∷ ps) (c ∷ cs) (suc k) old new e h =
    ap (λ b. part_admits truth p c && b) (admits_set truth ps cs k old new e h) ∙ swapped (part_admits truth p c) (cell_admitted truth new (slice_get cs k)) (admits truth ps cs)

given_from : (a x b : Bool) (m l : Outcome) → a ≡ (x && b) → (x ≡ true → m ≡ l) → (if a then m ∷ [] else []) ≡ (if x then (if b then l ∷ [] else []) else [])
given_from a true true m l e h = rw e (ap (λ o. o ∷ []) (h refl))
given_from a true false m l e h = rw e refl
given_from a false b m l e h = rw e refl

-- ---- labels

-- What the cell holds is the one label of the set.
only_label_at : (truth : Truth) (set : LabelSet) (l : ℕ) (s : State) (c : ℕ) → IsOnlyLabel set l → cell_admitted truth (part.Set set) (slice_get s.cells c) ≡ true → label_at s c ≡ l
only_label_at truth set l s c only = go (slice_get s.cells c)
  where
    go : (o : Option Cell) → cell_admitted truth (part.Set set) o ≡ true → cell_label o ≡ l
    go None e = absurd (cc)
    go (Some (cell.Enum m)) e = (only m).0 e
    go (Some (cell.Int x)) e = absurd (cc)
    go (Some (cell.Hold ps)) e = absurd (cc)
    go (Some (cell.Nums xs)) e = absurd (cc)
    go (Some (cell.Words ts)) e = absurd (cc)

label_put-value : (c l : ℕ) (f : EnumForm) (s : State) → label_at s c ≡ l → label_value (label_put c l f) s ≡ label_value f s
label_put-value c l (label.Const m) s h = refl
label_put-value c l (label.Copy d) s h = elim (cases_eq d c) [
  | inl e ↦ rw (eq-eqb d c e) (sym h ∙ ap (λ k. label_at s k) (sym e))
  | inr e ↦ rw (ne_eqb d c e) refl
]

with_label-cell : (c l : ℕ) (f : Form) (s : State) (old : Cell) → label_at s c ≡ l → cell_at (with_label c l f) s old ≡ cell_at f s old
with_label-cell c l (form.Enum f) s old h = ap cell.Enum (label_put-value c l f s h)
with_label-cell c l (form.Int f) s old h = refl
with_label-cell c l (form.Hold f) s old h = refl
with_label-cell c l (form.Nums added) s old h = refl
with_label-cell c l (form.Words added) s old h = refl

with_label-cells : (c l : ℕ) (forms : List Form) (s : State) (olds : List Cell) → label_at s c ≡ l → cells_at (map (with_label c l) forms) s olds ≡ cells_at forms s olds
with_label-cells c l [] s olds h = refl
with_label-cells c l (f ∷ forms) s [] h = refl
with_label-cells c l (f ∷ forms) s (old ∷ olds) h =
    let first = with_label-cell c l f s old h in
    let rest = with_label-cells c l forms s olds h in
    λ i. first i ∷ rest i

with_label-end : (c l : ℕ) (end : PathEnd) (s : State) → label_at s c ≡ l → end_at (end_with_label c l end) s ≡ end_at end s
with_label-end c l (Next forms) s h = ap (λ (cs : List Cell). end_at_state cs) (with_label-cells c l forms s s.cells h)
  where
    end_at_state : List Cell → Outcome
    end_at_state cs = Going (record { cells = cs })
with_label-end c l (Ended fault) s h = refl

-- ---- numbers

-- What the cell holds is the one number of the span.
only_number_at : (truth : Truth) (span : Span) (s : State) (c : ℕ) → span.lo ≡ span.hi → cell_admitted truth (part.Span span) (slice_get s.cells c) ≡ true → number_at s c ≡ span.lo
only_number_at truth span s c one = go (slice_get s.cells c)
  where
    go : (o : Option Cell) → cell_admitted truth (part.Span span) o ≡ true → cell_number o ≡ span.lo
    go None e = absurd (cc)
    go (Some (cell.Enum m)) e = absurd (cc)
    go (Some (cell.Int x)) e = let h : HasPoint span x = (point_decided span x).0 e in let a = h.0 in let b = h.1 in omega (arith, ints)
    go (Some (cell.Hold ps)) e = absurd (cc)
    go (Some (cell.Nums xs)) e = absurd (cc)
    go (Some (cell.Words ts)) e = absurd (cc)

pub constant_value : (y : ℤ) (g : IntForm) (s : State) → IsConstant y g → form_value g s ≡ y
constant_value y (number.Const n) s h = h
constant_value y (number.Line m) s h = absurd h

-- A form with a number in the place of a cell that holds it has the same value.
pub fixed_value : (f g : IntForm) (c : ℕ) (x : ℤ) (s : State) → IsFixedTo f c x g → number_at s c ≡ x → form_value g s ≡ form_value f s
fixed_value (number.Const n) g c x s h e = let same : g ≡ number.Const n = h.other (λ p. cc) in ap (λ (k : IntForm). form_value k s) same
fixed_value (number.Line line) g c x s h e = elim (cases_eq line.cell c) [
  | inl p ↦
      let at : number_at s line.cell ≡ x = ap (λ k. number_at s k) p ∙ e in
      constant_value (form_on (number.Line line) x) g s (h.named (ap Some p)) ∙ ap (λ (y : ℤ). line.a *ℤ y +ℤ offset line) (sym at)
  | inr p ↦ let same : g ≡ number.Line line = h.other (λ q. p (cc)) in ap (λ (k : IntForm). form_value k s) same
]

fixed_values : (fs gs : List IntForm) (c : ℕ) (x : ℤ) (s : State) → AllZip (λ f g. IsFixedTo f c x g) fs gs → number_at s c ≡ x → map (λ f. form_value f s) gs ≡ map (λ f. form_value f s) fs
fixed_values [] [] c x s h e = refl
fixed_values [] (g ∷ gs) c x s h e = absurd h
fixed_values (f ∷ fs) [] c x s h e = absurd h
fixed_values (f ∷ fs) (g ∷ gs) c x s h e =
    let first = fixed_value f g c x s h.0 e in
    let rest = fixed_values fs gs c x s h.1 e in
    λ i. first i ∷ rest i

put-cell : (c : ℕ) (x : ℤ) (f g : Form) (s : State) (old : Cell) → NumberIsPut c x f g → number_at s c ≡ x → cell_at g s old ≡ cell_at f s old
put-cell c x (form.Enum f) g s old h e = ap (λ k. cell_at k s old) h
put-cell c x (form.Int f) (form.Enum g) s old h e = absurd h
put-cell c x (form.Int f) (form.Int g) s old h e = ap cell.Int (fixed_value f g c x s h e)
put-cell c x (form.Int f) (form.Hold g) s old h e = absurd h
put-cell c x (form.Int f) (form.Nums g) s old h e = absurd h
put-cell c x (form.Int f) (form.Words g) s old h e = absurd h
put-cell c x (form.Hold f) g s old h e = ap (λ k. cell_at k s old) h
put-cell c x (form.Nums f) (form.Enum g) s old h e = absurd h
put-cell c x (form.Nums f) (form.Int g) s old h e = absurd h
put-cell c x (form.Nums f) (form.Hold g) s old h e = absurd h
put-cell c x (form.Nums f) (form.Nums g) s old h e = ap (λ (xs : List ℤ). cell.Nums (cell_nums (Some old) ++ xs)) (fixed_values f g c x s h e)
put-cell c x (form.Nums f) (form.Words g) s old h e = absurd h
put-cell c x (form.Words f) g s old h e = ap (λ k. cell_at k s old) h

put-cells : (c : ℕ) (x : ℤ) (fs gs : List Form) (s : State) (olds : List Cell) → AllZip (NumberIsPut c x) fs gs → number_at s c ≡ x → cells_at gs s olds ≡ cells_at fs s olds
put-cells c x [] [] s olds h e = refl
put-cells c x [] (g ∷ gs) s olds h e = absurd h
put-cells c x (f ∷ fs) [] s olds h e = absurd h
put-cells c x (f ∷ fs) (g ∷ gs) s [] h e = refl
put-cells c x (f ∷ fs) (g ∷ gs) s (old ∷ olds) h e =
    let first = put-cell c x f g s old h.0 e in
    let rest = put-cells c x fs gs s olds h.1 e in
    λ i. first i ∷ rest i

put-end : (c : ℕ) (x : ℤ) (old new : PathEnd) (s : State) → NumberIsPutAtEnd c x old new → number_at s c ≡ x → end_at new s ≡ end_at old s
put-end c x (Next fs) (Next gs) s h e = ap (λ (cs : List Cell). going cs) (put-cells c x fs gs s s.cells h e)
  where
    going : List Cell → Outcome
    going cs = Going (record { cells = cs })
put-end c x (Next fs) (Ended b) s h e = absurd h
put-end c x (Ended a) (Next gs) s h e = absurd h
put-end c x (Ended a) (Ended b) s h e = ap (λ f. end_at (Ended f) s) h

-- ---- what a narrowed path gives

-- The part of the cell that a set narrows.
pub old_labels : (set : LabelSet) (o : Option Part) → NarrowsLabels set o → (old : LabelSet) × (o ≡ Some (part.Set old)) × IsSubset old set
old_labels set None h = absurd h
old_labels set (Some (part.Set old)) h = (old, refl, h)
old_labels set (Some (part.Span old)) h = absurd h
old_labels set (Some (part.Facts old)) h = absurd h
old_labels set (Some part.Free) h = absurd h

pub old_numbers : (span : Span) (o : Option Part) → NarrowsNumbers span o → (old : Span) × (o ≡ Some (part.Span old)) × IsSubspan old span
old_numbers span None h = absurd h
old_numbers span (Some (part.Set old)) h = absurd h
old_numbers span (Some (part.Span old)) h = (old, refl, h)
old_numbers span (Some (part.Facts old)) h = absurd h
old_numbers span (Some part.Free) h = absurd h

set_narrower : (truth : Truth) (old new : LabelSet) → IsSubset old new → (c : Cell) → part_admits truth (part.Set new) c ≡ true → part_admits truth (part.Set old) c ≡ true
set_narrower truth old new h (cell.Enum l) e = h.within l e
set_narrower truth old new h (cell.Int x) e = e
set_narrower truth old new h (cell.Hold ps) e = e
set_narrower truth old new h (cell.Nums xs) e = e
set_narrower truth old new h (cell.Words ts) e = e

pub subspan_point : (old new : Span) (x : ℤ) → IsSubspan old new → HasPoint new x → HasPoint old x
subspan_point old new x h p = let a = h.0 in let b = h.1 in let c = p.0 in let d = p.1 in (omega (arith, ints), omega (arith, ints))

span_narrower : (truth : Truth) (old new : Span) → IsSubspan old new → (c : Cell) → part_admits truth (part.Span new) c ≡ true → part_admits truth (part.Span old) c ≡ true
span_narrower truth old new h (cell.Enum l) e = e
span_narrower truth old new h (cell.Int x) e = (point_decided old x).1 (subspan_point old new x h ((point_decided new x).0 e))
span_narrower truth old new h (cell.Hold ps) e = e
span_narrower truth old new h (cell.Nums xs) e = e
span_narrower truth old new h (cell.Words ts) e = e

pub labels_give : (c : ℕ) (set : LabelSet) (old new : Path) → NarrowsLabels set (slice_get old.when c) → LabelsNarrowed c set old new → GivesWhere old c (part.Set set) new
labels_give c set old new narrower h truth s = go (old_labels set (slice_get old.when c) narrower)
  where
    ends : cell_admitted truth (part.Set set) (slice_get s.cells c) ≡ true → end_at new.end s ≡ end_at old.end s
    ends e = elim h.end [
      | inl (l, only, is) ↦ ap (λ (x : PathEnd). end_at x s) is ∙ with_label-end c l old.end s (only_label_at truth set l s c only e)
      | inr (none, is) ↦ ap (λ (x : PathEnd). end_at x s) is
    ]

    go : (before : LabelSet) × (slice_get old.when c ≡ Some (part.Set before)) × IsSubset before set → given truth new s ≡ (if cell_admitted truth (part.Set set) (slice_get s.cells c) then given truth old s else [])
    go (before, is, subset) =
        let admitted : admits truth new.when s.cells ≡ (cell_admitted truth (part.Set set) (slice_get s.cells c) && admits truth old.when s.cells) = ap (λ (w : List Part). admits truth w s.cells) h.when ∙ admits_set truth old.when s.cells c (part.Set before) (part.Set set) is (set_narrower truth before set subset) in
        given_from (admits truth new.when s.cells) (cell_admitted truth (part.Set set) (slice_get s.cells c)) (admits truth old.when s.cells) (end_at new.end s) (end_at old.end s) admitted ends

pub numbers_give : (c : ℕ) (span : Span) (old new : Path) → NarrowsNumbers span (slice_get old.when c) → NumbersNarrowed c span old new → GivesWhere old c (part.Span span) new
numbers_give c span old new narrower h truth s = go (old_numbers span (slice_get old.when c) narrower)
  where
    ends : cell_admitted truth (part.Span span) (slice_get s.cells c) ≡ true → end_at new.end s ≡ end_at old.end s
    ends e =
        by_lt_z span.lo span.hi
        (λ p. ap (λ (x : PathEnd). end_at x s) (h.more p))
        (λ p. let o : span.lo ≤ℤ span.hi = span.ordered in let one : span.lo ≡ span.hi = omega (arith, ints) in put-end c span.lo old.end new.end s (h.one one) (only_number_at truth span s c one e))

    go : (before : Span) × (slice_get old.when c ≡ Some (part.Span before)) × IsSubspan before span → given truth new s ≡ (if cell_admitted truth (part.Span span) (slice_get s.cells c) then given truth old s else [])
    go (before, is, within) =
        let admitted : admits truth new.when s.cells ≡ (cell_admitted truth (part.Span span) (slice_get s.cells c) && admits truth old.when s.cells) = ap (λ (w : List Part). admits truth w s.cells) h.when ∙ admits_set truth old.when s.cells c (part.Span before) (part.Span span) is (span_narrower truth before span within) in
        given_from (admits truth new.when s.cells) (cell_admitted truth (part.Span span) (slice_get s.cells c)) (admits truth old.when s.cells) (end_at new.end s) (end_at old.end s) admitted ends

-- ---- facts

facts_narrower : (truth : Truth) (old new : FactMap) → ((parts : List Value) → facts.Admits truth new parts → facts.Admits truth old parts) → (c : Cell) → part_admits truth (part.Facts new) c ≡ true → part_admits truth (part.Facts old) c ≡ true
facts_narrower truth old new h (cell.Enum l) e = e
facts_narrower truth old new h (cell.Int x) e = e
facts_narrower truth old new h (cell.Hold ps) e = (facts_decided truth old ps).1 (h ps ((facts_decided truth new ps).0 e))
facts_narrower truth old new h (cell.Nums xs) e = e
facts_narrower truth old new h (cell.Words ts) e = e

pub facts_give : (c : ℕ) (before known : FactMap) (old new : Path) → slice_get old.when c ≡ Some (part.Facts before) → ((truth : Truth) (parts : List Value) → facts.Admits truth known parts → facts.Admits truth before parts) → new.when ≡ slice_set old.when c (part.Facts known) → new.end ≡ old.end → GivesWhere old c (part.Facts known) new
facts_give c before known old new is more w same truth s =
    let admitted : admits truth new.when s.cells ≡ (cell_admitted truth (part.Facts known) (slice_get s.cells c) && admits truth old.when s.cells) = ap (λ (v : List Part). admits truth v s.cells) w ∙ admits_set truth old.when s.cells c (part.Facts before) (part.Facts known) is (facts_narrower truth before known (more truth)) in
    given_from (admits truth new.when s.cells) (cell_admitted truth (part.Facts known) (slice_get s.cells c)) (admits truth old.when s.cells) (end_at new.end s) (end_at old.end s) admitted (λ e. ap (λ (x : PathEnd). end_at x s) same)
