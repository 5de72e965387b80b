-- What is left of a constraint fits, and so do forms that are taken on it.
use Rattle.std.proofs.Common.{get_or, ◌≡◌, ◌<◌, ◌≤◌, ℕ, ℤ, ◌≤ℤ◌, ◌<ℤ◌, List, [], ◌∷◌, Option, Some, None, inl, inr, length, refl, sym, ap, ◌∙◌, subst, arith}
use Rattle.std.proofs.lemmas.Bool.{cases_lt}
use Rattle.std.proofs.lemmas.Option.{slice_get_within}
use Rattle.std.proofs.lemmas.Int.{ints, by_lt_z}
use Rattle.std.specs.Prelude.{slice_get}
use Rattle.std.specs.List.{All, AllZip}
use Rattle.sym_base.specs.Limits.{IsNumber}
use Rattle.sym_base.specs.declared.values.value.Value.{Value}
use Rattle.sym_check.specs.declared.plan.script.CellPlan.{CellPlan}
use Rattle.sym_check.specs.declared.plan.script.CellPlan.TheVariants as plan
use Rattle.sym_check.specs.declared.plan.script.KindPlan.{KindPlan}
use Rattle.sym_check.specs.Plan.CellKinds.{IsEnumCell, IsHoldCell}
use Rattle.sym_check.specs.Plan.ScriptPlans.{ScriptPlan}
use Rattle.sym_check.specs.Plan.Ranges.{InRange}
use Rattle.sym_check.specs.Meaning.Validity.{label_count}
use Rattle.sym_check.specs.Plan.WellFormed.{IsCell, IsWellFormed}
use Rattle.sym_enum.specs.declared.form.EnumForm.{EnumForm}
use Rattle.sym_enum.specs.declared.form.EnumForm.TheVariants as label
use Rattle.sym_enum.specs.declared.label_set.LabelSet.{LabelSet}
use Rattle.sym_int.specs.Elements.{IsConstant, CanFix}
use Rattle.sym_int.specs.Lines.{form_on, form_cell}
use Rattle.sym_int.specs.Points.{HasPoint}
use Rattle.sym_int.specs.declared.form.IntForm.{IntForm}
use Rattle.sym_int.specs.declared.form.IntForm.TheVariants as number
use Rattle.sym_int.specs.declared.form.Line.{Line}
use Rattle.sym_int.specs.declared.span.Span.{Span}
use Rattle.sym_pred.specs.Facts.{FactMap}
use Rattle.sym_pred.specs.Literals.{literals, atom_of}
use Rattle.sym_pred.specs.Meaning.{Stands}
use Rattle.sym_pred.specs.declared.form.HoldForm.TheVariants as hold
use Rattle.sym_pred.specs.declared.literal.Literal.{Literal}
use Rattle.sym_pred.proofs.CallersLemmas.{literal_stands, stands_at}
use Rattle.sym_path.specs.declared.part.Part.{Part}
use Rattle.sym_path.specs.declared.part.Part.TheVariants as part
use Rattle.sym_path.specs.declared.form.Form.{Form}
use Rattle.sym_path.specs.declared.form.Form.TheVariants as form
use Rattle.sym_path.specs.Fitting.{Suits, PartFits, StaysWithin, NumberFits, FormFits, FormsFit}
use Rattle.sym_path.specs.Fitting as fitting
use Rattle.sym_path.specs.Left.{PartLeft, AreLeft, CanPutAllLeft}
use Rattle.sym_path.specs.Narrowing.{CanPutNumber}
use Rattle.sym_path.specs.Taking.{HasOneLabel, HasOneNumber, copied_cell, LabelIsTakenTo, NumberIsTakenTo, IsTakenTo, AreTakenTo, IsTakenOn}
use Rattle.sym_path.proofs.Fitted.{number_between}
use Rattle.sym_path.proofs.JoiningFits.{same_literal}
use Rattle.sym_path.proofs.Lists.{zip_at, zip_from, zip_get, zip_get_right, zip_length, zip_trans, get_within, all_from, all_at}
use Rattle.sym_path.proofs.NarrowedFits.{label_taken, number_taken}

-- ---- what is taken on a constraint has nothing to be replaced in it

label_again : (v : List Part) (f g : EnumForm) → LabelIsTakenTo v f g → LabelIsTakenTo v g g
label_again v f (label.Const m) t = label_taken v (label.Const m) (λ d l q o. cc)
label_again v f (label.Copy e) t =
    let free : (d l : ℕ) → copied_cell f ≡ Some d → HasOneLabel v d l → ⊥ = λ d l q o. not_const (t.one d l q o) in
    let same : label.Copy e ≡ f = t.more free in
    label_taken v (label.Copy e) (λ d l q o. free d l (ap copied_cell (sym same) ∙ q) o)
  where
    not_const : {l : ℕ} → label.Copy e ≡ label.Const l → ⊥
    not_const q = cc

pub number_again : (v : List Part) (f g : IntForm) → NumberIsTakenTo v f g → NumberIsTakenTo v g g
number_again v f (number.Const n) t = number_taken v (number.Const n) (λ d x q o. cc)
number_again v f (number.Line line) t =
    let same : number.Line line ≡ f = t.more (λ d x q o. t.one d x q o) in
    number_taken v (number.Line line) (λ d x q o. t.one d x (ap form_cell (sym same) ∙ q) o)

numbers_again : (v : List Part) (fs gs : List IntForm) → AllZip (NumberIsTakenTo v) fs gs → AllZip (NumberIsTakenTo v) gs gs
numbers_again v [] [] t = tt
numbers_again v [] (g ∷ gs) t = absurd t
numbers_again v (f ∷ fs) [] t = absurd t
numbers_again v (f ∷ fs) (g ∷ gs) t = (number_again v f g t.0, numbers_again v fs gs t.1)

taken_again : (v : List Part) (f g : Form) → IsTakenTo v f g → IsTakenOn v g
taken_again v (form.Enum f) (form.Enum g) t = label_again v f g t
taken_again v (form.Enum f) (form.Int g) t = absurd t
taken_again v (form.Enum f) (form.Hold g) t = absurd t
taken_again v (form.Enum f) (form.Nums g) t = absurd t
taken_again v (form.Enum f) (form.Words g) t = absurd t
taken_again v (form.Int f) (form.Enum g) t = absurd t
taken_again v (form.Int f) (form.Int g) t = number_again v f g t
taken_again v (form.Int f) (form.Hold g) t = absurd t
taken_again v (form.Int f) (form.Nums g) t = absurd t
taken_again v (form.Int f) (form.Words g) t = absurd t
taken_again v (form.Hold f) g t = subst (λ (k : Form). IsTakenOn v k) (sym t) refl
taken_again v (form.Nums f) (form.Enum g) t = absurd t
taken_again v (form.Nums f) (form.Int g) t = absurd t
taken_again v (form.Nums f) (form.Hold g) t = absurd t
taken_again v (form.Nums f) (form.Nums g) t = numbers_again v f g t
taken_again v (form.Nums f) (form.Words g) t = absurd t
taken_again v (form.Words f) g t = subst (λ (k : Form). IsTakenOn v k) (sym t) refl

-- The span of the cell of a line.
pub line_span : (lo hi : ℤ) (number : ℤ → ℤ) (v : List Part) (c : ℕ) → StaysWithin lo hi number (slice_get v c) → (span : Span) × (slice_get v c ≡ Some (part.Span span)) × ((x : ℤ) → HasPoint span x → InRange lo hi (number x))
line_span lo hi number v c h = go (slice_get v c) refl h
  where
    go : (o : Option Part) → slice_get v c ≡ o → StaysWithin lo hi number o → (span : Span) × (slice_get v c ≡ Some (part.Span span)) × ((x : ℤ) → HasPoint span x → InRange lo hi (number x))
    go None e k = absurd k
    go (Some (part.Set set)) e k = absurd k
    go (Some (part.Span span)) e k = (span, e, k)
    go (Some (part.Facts known)) e k = absurd k
    go (Some part.Free) e k = absurd k

pub one_point : (span : Span) → HasPoint span span.lo
one_point span = let o : span.lo ≤ℤ span.hi = span.ordered in (omega (arith, ints), o)

pub constant_in : (lo hi y : ℤ) (v : List Part) (g : IntForm) → IsConstant y g → InRange lo hi y → NumberFits lo hi v g
constant_in lo hi y v (number.Const n) h r = subst (λ (z : ℤ). InRange lo hi z) (sym h) r
constant_in lo hi y v (number.Line line) h r = absurd h

module _ (p : ScriptPlan) (when : List Part) (forms : List Form) (needs lefts : List Part)
    (parts : AllZip (PartFits p) p.cells when) (each : AllZip (FormFits p when) p.cells forms) (others : AllZip (PartFits p) p.cells needs)
    (left : AreLeft forms needs when lefts) where
  -- ---- the parts

  -- The literals that are needed of a copy of a hold cell suit this cell.
  needed_suit : (c : ℕ) (kinds : List KindPlan) (first : List Value) (need : FactMap) (d : ℕ) → slice_get p.cells c ≡ Some (plan.Hold kinds first) → slice_get forms d ≡ Some (form.Hold (hold.Copy c)) → slice_get needs d ≡ Some (part.Facts need) → All (Suits p kinds) (literals need)
  needed_suit c kinds first need d at has needed =
      let (cp, at_d, fits) = zip_get_right (FormFits p when) p.cells forms d (form.Hold (hold.Copy c)) each has in
      go cp fits (zip_at (PartFits p) p.cells needs d cp (part.Facts need) others at_d needed)
    where
      same_kinds : (ks : List KindPlan) → IsHoldCell p.cells c ks → ks ≡ kinds
      same_kinds ks h = let both : Some (plan.Hold ks h.first) ≡ Some (plan.Hold kinds first) = sym h.is ∙ at in cc

      go : (cp : CellPlan) → FormFits p when cp (form.Hold (hold.Copy c)) → PartFits p cp (part.Facts need) → All (Suits p kinds) (literals need)
      go _ (fitting.copied_parts ks f _ h) (fitting.parts _ _ _ suits) = subst (λ (k : List KindPlan). All (Suits p k) (literals need)) (same_kinds ks h) suits

  left_literals : (c : ℕ) (kinds : List KindPlan) (first : List Value) (old new : FactMap) → slice_get p.cells c ≡ Some (plan.Hold kinds first) → PartLeft forms needs c (part.Facts old) (part.Facts new) → All (Suits p kinds) (literals old) → All (Suits p kinds) (literals new)
  left_literals c kinds first old new at h all = λ k d l. one k d (literal_stands new k d l)
    where
      among : (known : FactMap) (x : Literal) → All (Suits p kinds) (literals known) → Stands known (atom_of x) x.outcome → Suits p kinds x
      among known x suits stands =
          let (i, within, is) = stands_at known (atom_of x) x.outcome stands in
          subst (λ (y : Literal). Suits p kinds y) (same_literal (get_or (literals known) i x) x (is x).0 (is x).1) (suits i x within)

      one : (k : ℕ) (d : Literal) → Stands new (atom_of (get_or (literals new) k d)) (get_or (literals new) k d).outcome → Suits p kinds (get_or (literals new) k d)
      one k d s = elim ((h (atom_of (get_or (literals new) k d)) (get_or (literals new) k d).outcome).0 s) [
        | inl known ↦ among old (get_or (literals new) k d) all known
        | inr n ↦ among n.need (get_or (literals new) k d) (needed_suit c kinds first n.need n.meets.cell at n.meets.has n.meets.needed) n.stands
      ]

  left_fits : (c : ℕ) (cp : CellPlan) (old new : Part) → slice_get p.cells c ≡ Some cp → PartFits p cp old → PartLeft forms needs c old new → PartFits p cp new
  left_fits c _ _ (part.Set new) at (fitting.labels of first old h) l = fitting.labels of first new (record { some = l.0; within = λ m e. h.within m ((l.1 m).0 e).0 })
  left_fits c _ _ (part.Span new) at (fitting.labels of first old h) l = absurd l
  left_fits c _ _ (part.Facts new) at (fitting.labels of first old h) l = absurd l
  left_fits c _ _ part.Free at (fitting.labels of first old h) l = absurd l
  left_fits c _ _ (part.Set new) at (fitting.numbers lo hi first old h) l = absurd l
  left_fits c _ _ (part.Span new) at (fitting.numbers lo hi first old h) l =
      let ordered : new.lo ≤ℤ new.hi = new.ordered in
      let low : HasPoint old new.lo = ((l new.lo).0 (omega (arith, ints), ordered)).0 in
      let high : HasPoint old new.hi = ((l new.hi).0 (ordered, omega (arith, ints))).0 in
      let a = low.0 in let b = high.1 in let d = h.0 in let e = h.1 in
      fitting.numbers lo hi first new (omega (arith, ints), omega (arith, ints))
  left_fits c _ _ (part.Facts new) at (fitting.numbers lo hi first old h) l = absurd l
  left_fits c _ _ part.Free at (fitting.numbers lo hi first old h) l = absurd l
  left_fits c _ _ (part.Set new) at (fitting.parts kinds first old h) l = absurd l
  left_fits c _ _ (part.Span new) at (fitting.parts kinds first old h) l = absurd l
  left_fits c _ _ (part.Facts new) at (fitting.parts kinds first old h) l = fitting.parts kinds first new (left_literals c kinds first old new at l h)
  left_fits c _ _ part.Free at (fitting.parts kinds first old h) l = absurd l
  left_fits c _ _ (part.Set new) at (fitting.free_nums lo hi) l = absurd l
  left_fits c _ _ (part.Span new) at (fitting.free_nums lo hi) l = absurd l
  left_fits c _ _ (part.Facts new) at (fitting.free_nums lo hi) l = absurd l
  left_fits c _ _ part.Free at (fitting.free_nums lo hi) l = fitting.free_nums lo hi
  left_fits c _ _ (part.Set new) at fitting.free_words l = absurd l
  left_fits c _ _ (part.Span new) at fitting.free_words l = absurd l
  left_fits c _ _ (part.Facts new) at fitting.free_words l = absurd l
  left_fits c _ _ part.Free at fitting.free_words l = fitting.free_words

  pub left_parts : AllZip (PartFits p) p.cells lefts
  left_parts = zip_from (PartFits p) p.cells lefts (zip_length (PartFits p) p.cells when parts ∙ sym left.lengths) (λ c cp new at e.
      let (old, is, fits) = zip_get (PartFits p) p.cells when c cp parts at in
      left_fits c cp old new at fits (left.each c old new is e))

  -- ---- numbers in range

  -- What is left of a span.
  pub span_left : (c : ℕ) (old : Span) → slice_get when c ≡ Some (part.Span old) → (new : Span) × (slice_get lefts c ≡ Some (part.Span new)) × PartLeft forms needs c (part.Span old) (part.Span new)
  span_left c old at = go found.0 found.1 (left.each c (part.Span old) found.0 at found.1)
    where
      within : c < length lefts
      within = let l : c < length when = slice_get_within when c (part.Span old) at in let e = left.lengths in omega arith

      found : (new : Part) × (slice_get lefts c ≡ Some new)
      found = get_within lefts c within

      go : (new : Part) → slice_get lefts c ≡ Some new → PartLeft forms needs c (part.Span old) new → (new : Span) × (slice_get lefts c ≡ Some (part.Span new)) × PartLeft forms needs c (part.Span old) (part.Span new)
      go (part.Set new) is h = absurd h
      go (part.Span new) is h = (new, is, h)
      go (part.Facts new) is h = absurd h
      go part.Free is h = absurd h

  pub set_left : (c : ℕ) (old : LabelSet) → slice_get when c ≡ Some (part.Set old) → (new : LabelSet) × (slice_get lefts c ≡ Some (part.Set new)) × PartLeft forms needs c (part.Set old) (part.Set new)
  set_left c old at = go found.0 found.1 (left.each c (part.Set old) found.0 at found.1)
    where
      within : c < length lefts
      within = let l : c < length when = slice_get_within when c (part.Set old) at in let e = left.lengths in omega arith

      found : (new : Part) × (slice_get lefts c ≡ Some new)
      found = get_within lefts c within

      go : (new : Part) → slice_get lefts c ≡ Some new → PartLeft forms needs c (part.Set old) new → (new : LabelSet) × (slice_get lefts c ≡ Some (part.Set new)) × PartLeft forms needs c (part.Set old) (part.Set new)
      go (part.Set new) is h = (new, is, h)
      go (part.Span new) is h = absurd h
      go (part.Facts new) is h = absurd h
      go part.Free is h = absurd h

  -- A line that is taken on what is left, where its number lies in a range at the points that are
  -- left of its cell.
  taken_line : (lo hi : ℤ) (line : Line) (g : IntForm) (new : Span) → slice_get lefts line.cell ≡ Some (part.Span new) → ((x : ℤ) → HasPoint new x → InRange lo hi (form_on (number.Line line) x)) → NumberIsTakenTo lefts (number.Line line) g → NumberFits lo hi lefts g
  taken_line lo hi line g new at range t =
      by_lt_z new.lo new.hi
      (λ less.
      let same : g ≡ number.Line line = t.more (λ c y q o. more_points c y q o less) in
      let stays : StaysWithin lo hi (form_on (number.Line line)) (slice_get lefts line.cell) = rw at range in
      subst (λ (k : IntForm). NumberFits lo hi lefts k) (sym same) stays)
      (λ more.
      let ordered : new.lo ≤ℤ new.hi = new.ordered in
      let one : new.hi ≡ new.lo = omega (arith, ints) in
      let only : HasOneNumber lefts line.cell new.lo = record { span = new; is = at; lo = refl; hi = one } in
      constant_in lo hi (form_on (number.Line line) new.lo) lefts g (t.one line.cell new.lo refl only) (range new.lo (one_point new)))
    where
      more_points : (c : ℕ) (y : ℤ) → form_cell (number.Line line) ≡ Some c → HasOneNumber lefts c y → new.lo <ℤ new.hi → ⊥
      more_points c y e o less =
          let named : line.cell ≡ c = cc in
          let both : Some (part.Span new) ≡ Some (part.Span o.span) = sym at ∙ ap (λ k. slice_get lefts k) named ∙ o.is in
          let same : new ≡ o.span = cc in
          let lo' : new.lo ≡ y = ap (λ (k : Span). k.lo) same ∙ o.lo in
          let hi' : new.hi ≡ y = ap (λ (k : Span). k.hi) same ∙ o.hi in
          omega (arith, ints)

  -- A number form that is taken on what is left still lies in its range.
  taken_number : (lo hi : ℤ) (f g : IntForm) → NumberFits lo hi when f → NumberIsTakenTo lefts f g → NumberFits lo hi lefts g
  taken_number lo hi (number.Const n) g h t = subst (λ (k : IntForm). NumberFits lo hi lefts k) (sym (t.more (λ c x q o. cc))) h
  taken_number lo hi (number.Line line) g h t =
      let (old, at, range) = line_span lo hi (form_on (number.Line line)) when line.cell h in
      let (new, is, l) = span_left line.cell old at in
      taken_line lo hi line g new is (λ x q. range x ((l x).0 q).0) t

  -- The same of what the other path needs of the form's cell.
  pub taken_meets : (c : ℕ) (f g : IntForm) (need : Span) (lo hi : ℤ) → slice_get forms c ≡ Some (form.Int f) → slice_get needs c ≡ Some (part.Span need) → NumberFits lo hi when f → ((n : ℤ) → IsConstant n f → HasPoint need n) → NumberIsTakenTo lefts f g → NumberFits need.lo need.hi lefts g
  taken_meets c (number.Const n) g need lo hi at needed h constant t = subst (λ (k : IntForm). NumberFits need.lo need.hi lefts k) (sym (t.more (λ c x q o. cc))) (constant n.value refl)
  taken_meets c (number.Line line) g need lo hi at needed h constant t =
      let (old, is, range) = line_span lo hi (form_on (number.Line line)) when line.cell h in
      let (new, there, l) = span_left line.cell old is in
      taken_line need.lo need.hi line g new there (λ x q. ((l x).0 q).1 (number.Line line) need refl (record { cell = c; has = at; needed = needed })) t

  taken_numbers : (lo hi : ℤ) (fs gs : List IntForm) → All (NumberFits lo hi when) fs → AllZip (NumberIsTakenTo lefts) fs gs → All (NumberFits lo hi lefts) gs
  taken_numbers lo hi fs gs h t = all_from (NumberFits lo hi lefts) gs (λ i g e. one i g e (zip_get_right (NumberIsTakenTo lefts) fs gs i g t e))
    where
      one : (i : ℕ) (g : IntForm) → slice_get gs i ≡ Some g → (f : IntForm) × (slice_get fs i ≡ Some f) × NumberIsTakenTo lefts f g → NumberFits lo hi lefts g
      one i g e (f, at, s) = taken_number lo hi f g (all_at (NumberFits lo hi when) fs i f h at) s

  -- ---- labels

  some_label : (c of l : ℕ) → IsEnumCell p.cells c of → HasOneLabel lefts c l → l < label_count p.enums of
  some_label c of l h o = go (zip_at (PartFits p) p.cells lefts c (plan.Enum of h.first) (part.Set o.set) left_parts h.is o.is)
    where
      go : PartFits p (plan.Enum of h.first) (part.Set o.set) → l < label_count p.enums of
      go (fitting.labels _ _ _ k) = k.within l ((o.only l).1 refl)

  taken_label : (of first : ℕ) (c : ℕ) (g : EnumForm) → IsEnumCell p.cells c of → LabelIsTakenTo lefts (label.Copy c) g → FormFits p lefts (plan.Enum of first) (form.Enum g)
  taken_label of first c (label.Const m) h t = elim (cases_lt m (label_count p.enums of)) [
    | inl below ↦ fitting.of_label of first m below
    | inr above ↦ absurd (not_copy (t.more (λ d l q o.
        let same : m ≡ l = const_same (t.one d l q o) in
        let at : d ≡ c = cell_same q in
        let low : l < label_count p.enums of = some_label c of l h (subst (λ k. HasOneLabel lefts k l) at o) in
        omega arith)))
  ]
    where
      const_same : {l : ℕ} → label.Const m ≡ label.Const l → m ≡ l
      const_same q = cc

      cell_same : {d : ℕ} → copied_cell (label.Copy c) ≡ Some d → d ≡ c
      cell_same q = cc

      not_copy : label.Const m ≡ label.Copy c → ⊥
      not_copy q = cc
  taken_label of first c (label.Copy d) h t =
      let same : label.Copy d ≡ label.Copy c = t.more (λ e l q o. not_const (t.one e l q o)) in
      subst (λ (k : EnumForm). FormFits p lefts (plan.Enum of first) (form.Enum k)) (sym same) (fitting.copied_label of first c h)
    where
      not_const : {l : ℕ} → label.Copy d ≡ label.Const l → ⊥
      not_const q = cc

  -- ---- forms

  taken_fits : (cp : CellPlan) (f g : Form) → FormFits p when cp f → IsTakenTo lefts f g → FormFits p lefts cp g
  taken_fits _ _ (form.Enum g) (fitting.of_label of first l h) t =
      let same : g ≡ label.Const l = t.more (λ d m q o. cc) in
      subst (λ (k : EnumForm). FormFits p lefts (plan.Enum of first) (form.Enum k)) (sym same) (fitting.of_label of first l h)
  taken_fits _ _ (form.Int g) (fitting.of_label of first l h) t = absurd t
  taken_fits _ _ (form.Hold g) (fitting.of_label of first l h) t = absurd t
  taken_fits _ _ (form.Nums g) (fitting.of_label of first l h) t = absurd t
  taken_fits _ _ (form.Words g) (fitting.of_label of first l h) t = absurd t
  taken_fits _ _ (form.Enum g) (fitting.copied_label of first c h) t = taken_label of first c g h t
  taken_fits _ _ (form.Int g) (fitting.copied_label of first c h) t = absurd t
  taken_fits _ _ (form.Hold g) (fitting.copied_label of first c h) t = absurd t
  taken_fits _ _ (form.Nums g) (fitting.copied_label of first c h) t = absurd t
  taken_fits _ _ (form.Words g) (fitting.copied_label of first c h) t = absurd t
  taken_fits _ _ (form.Enum g) (fitting.of_number lo hi first f h) t = absurd t
  taken_fits _ _ (form.Int g) (fitting.of_number lo hi first f h) t = fitting.of_number lo hi first g (taken_number lo hi f g h t)
  taken_fits _ _ (form.Hold g) (fitting.of_number lo hi first f h) t = absurd t
  taken_fits _ _ (form.Nums g) (fitting.of_number lo hi first f h) t = absurd t
  taken_fits _ _ (form.Words g) (fitting.of_number lo hi first f h) t = absurd t
  taken_fits _ _ g (fitting.of_parts kinds first ps h) t = subst (λ (k : Form). FormFits p lefts (plan.Hold kinds first) k) (sym t) (fitting.of_parts kinds first ps h)
  taken_fits _ _ g (fitting.copied_parts kinds first c h) t = subst (λ (k : Form). FormFits p lefts (plan.Hold kinds first) k) (sym t) (fitting.copied_parts kinds first c h)
  taken_fits _ _ (form.Enum g) (fitting.of_numbers lo hi added h) t = absurd t
  taken_fits _ _ (form.Int g) (fitting.of_numbers lo hi added h) t = absurd t
  taken_fits _ _ (form.Hold g) (fitting.of_numbers lo hi added h) t = absurd t
  taken_fits _ _ (form.Nums g) (fitting.of_numbers lo hi added h) t = fitting.of_numbers lo hi g (taken_numbers lo hi added g h t)
  taken_fits _ _ (form.Words g) (fitting.of_numbers lo hi added h) t = absurd t
  taken_fits _ _ g (fitting.of_words added) t = subst (λ (k : Form). FormFits p lefts plan.Words k) (sym t) (fitting.of_words added)

  -- Forms that are taken on what is left fit.
  pub taken_forms_fit : (mids : List Form) → AreTakenTo lefts forms mids → FormsFit p lefts mids
  taken_forms_fit mids t = record {
    each = zip_trans (FormFits p when) (IsTakenTo lefts) (FormFits p lefts) p.cells forms mids (λ cp f g. taken_fits cp f g) each t;
    taken = all_from (IsTakenOn lefts) mids (λ i g e. let found = zip_get_right (IsTakenTo lefts) forms mids i g t e in again found.0 g found.2);
  }
    where
      again : (f g : Form) → IsTakenTo lefts f g → IsTakenOn lefts g
      again f g t = taken_again lefts f g t

-- ---- numbers that are put into the forms

module _ (p : ScriptPlan) (when : List Part) (forms : List Form) (each : AllZip (FormFits p when) p.cells forms) where
  fix_left : (c : ℕ) (x lo hi : ℤ) (old : Span) (f : IntForm) → slice_get when c ≡ Some (part.Span old) → HasPoint old x → IsNumber lo → IsNumber hi → NumberFits lo hi when f → CanFix f c x
  fix_left c x lo hi old (number.Const n) at q a b h = tt
  fix_left c x lo hi old (number.Line line) at q a b h = λ e.
      let there : slice_get when line.cell ≡ Some (part.Span old) = ap (λ k. slice_get when k) e ∙ at in
      let (span, is, range) = line_span lo hi (form_on (number.Line line)) when line.cell h in
      let same : span ≡ old = one_span (sym is ∙ there) in
      number_between lo hi (form_on (number.Line line) x) a b (range x (subst (λ (s : Span). HasPoint s x) (sym same) q))
    where
      one_span : {s t : Span} → Some (part.Span s) ≡ Some (part.Span t) → s ≡ t
      one_span q = cc

  put_left : (c : ℕ) (x : ℤ) (old : Span) (cp : CellPlan) (f : Form) → slice_get when c ≡ Some (part.Span old) → HasPoint old x → IsCell p.enums cp → FormFits p when cp f → CanPutNumber c x f
  put_left c x old _ _ at q w (fitting.of_label of first l h) = tt
  put_left c x old _ _ at q w (fitting.copied_label of first d h) = tt
  put_left c x old _ _ at q w (fitting.of_number lo hi first f h) = fix_left c x lo hi old f at q w.0 w.1 h
  put_left c x old _ _ at q w (fitting.of_parts kinds first ps h) = tt
  put_left c x old _ _ at q w (fitting.copied_parts kinds first d h) = tt
  put_left c x old _ _ at q w (fitting.of_numbers lo hi added h) = all_from (λ f. CanFix f c x) added (λ i f e. fix_left c x lo hi old f at q w.0 w.1 (all_at (NumberFits lo hi when) added i f h e))
  put_left c x old _ _ at q w (fitting.of_words added) = tt

  all_put : IsWellFormed p → (c : ℕ) (old : Span) (x : ℤ) → slice_get when c ≡ Some (part.Span old) → HasPoint old x → All (CanPutNumber c x) forms
  all_put w c old x is q = all_from (CanPutNumber c x) forms (λ i f at.
      let found = zip_get_right (FormFits p when) p.cells forms i f each at in
      put_left c x old found.0 f is q (all_at (IsCell p.enums) p.cells i found.0 w.cells found.1) found.2)

  -- What is left of a cell may be put into the forms.
  pub can_put : IsWellFormed p → (needs : List Part) → CanPutAllLeft forms needs when
  can_put w needs fs c old (part.Set new) is h = tt
  can_put w needs fs c (part.Set old) (part.Span new) is h = absurd h
  can_put w needs fs c (part.Span old) (part.Span new) is h = λ one. all_put w c old new.lo is ((h new.lo).0 (one_point new)).0
  can_put w needs fs c (part.Facts old) (part.Span new) is h = absurd h
  can_put w needs fs c part.Free (part.Span new) is h = absurd h
  can_put w needs fs c old (part.Facts new) is h = tt
  can_put w needs fs c old part.Free is h = tt
