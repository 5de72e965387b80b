-- Whether a saved run is lawful is decided.
use Rattle.std.proofs.Common.{◌≡◌, ◌∙◌, ◌++◌, inl, inr, refl, sym, ap, subst, ℕ, suc, ◌<◌, ◌≤◌, ℤ, ◌-ℤ◌, arith, false, List, [], ◌∷◌, length, drop, Option, Some, None}
use Rattle.std.specs.Prelude.{◌==◌, IfSome, IsTrue, slice_get, unsigned_abs}
use Rattle.std.specs.Cmp.Lexicographic.{pointwise}
use Rattle.std.specs.List.{All, AllZip}
use Rattle.std.specs.Map.{keys_of}
use Rattle.std.specs.Option.{is_some}
use Rattle.std.proofs.lemmas.Bool.{cases_lt}
use Rattle.std.proofs.lemmas.Int.{ints}
use Rattle.std.proofs.lemmas.Nat.Bits.{bit_at_above}
use Rattle.std.proofs.lemmas.List.Elements.{All-head, All-tail}
use Rattle.sym_base.specs.declared.values.value.Key.{Key}
use Rattle.sym_base.specs.declared.values.value.Value.{Value}
use Rattle.sym_base.specs.declared.values.value.Value.TheVariants as value
use Rattle.sym_base.specs.declared.values.state.FaultKind.{FaultKind}
use Rattle.sym_base.specs.declared.values.state.FaultKind.TheVariants as fault
use Rattle.sym_base.specs.Limits.{is_number}
use Rattle.sym_check.specs.contracts.plan.script.KindPlanPartialEq.TheImpl as kinds
use Rattle.sym_check.specs.declared.plan.script.CellPlan.{CellPlan}
use Rattle.sym_check.specs.declared.plan.script.CellPlan.TheVariants as plan
use Rattle.sym_check.specs.declared.plan.script.EnumPlan.{EnumPlan}
use Rattle.sym_check.specs.declared.plan.script.KindPlan.{KindPlan}
use Rattle.sym_check.specs.declared.plan.script.KindPlan.TheVariants as kind
use Rattle.sym_check.specs.Meaning.Fitting.{FitsFault}
use Rattle.sym_check.specs.Meaning.Groups.{is_key}
use Rattle.sym_check.specs.Meaning.Validity.{AreOfKinds, IsKey, IsOfField, IsOfKind, field_kinds, label_count}
use Rattle.sym_check.specs.Plan.CellKinds.{IsEnumCell, IsHoldCell}
use Rattle.sym_check.specs.Plan.Ranges.{InRange, range_at}
use Rattle.sym_check.specs.Plan.ScriptPlans.{ScriptPlan, TestOf}
use Rattle.sym_enum.specs.Labels.{IsOnlyLabel, has_label}
use Rattle.sym_enum.specs.declared.form.EnumForm.{EnumForm}
use Rattle.sym_enum.specs.declared.form.EnumForm.TheVariants as label
use Rattle.sym_enum.specs.declared.label_set.LabelSet.{LabelSet}
use Rattle.sym_int.specs.Lines.{form_on}
use Rattle.sym_int.specs.Points.{HasPoint}
use Rattle.sym_int.specs.declared.form.IntForm.{IntForm}
use Rattle.sym_int.specs.declared.form.IntForm.TheVariants as number
use Rattle.sym_int.specs.declared.span.Span.{Span}
use Rattle.sym_pred.specs.Literals.{literals}
use Rattle.sym_pred.specs.declared.form.HoldForm.TheVariants as hold
use Rattle.sym_pred.specs.declared.literal.Literal.{Literal}
use Rattle.sym_path.specs.declared.part.Part.{Part}
use Rattle.sym_path.specs.declared.part.Part.TheVariants as part
use Rattle.sym_path.specs.declared.form.Form.{Form}
use Rattle.sym_path.specs.declared.form.Form.TheVariants as form
use Rattle.sym_path.specs.declared.path.Path.{Path}
use Rattle.sym_path.specs.declared.path.PathEnd.{PathEnd}
use Rattle.sym_path.specs.declared.path.PathEnd.TheVariants.{Next, Ended}
use Rattle.sym_path.specs.Checking.{FitsForm, FitsPart}
use Rattle.sym_path.specs.Fitting.{EndFits, FitsEnum, FitsRange, FormFits, NumberFits, PartFits, PathFits, StaysWithin, Suits}
use Rattle.sym_path.specs.Taking.{HasOneLabel, HasOneNumber, IsTakenOn, LabelIsTakenTo, NumberIsTakenTo}
use Rattle.sym_path.proofs.Checks.{form_decided, kinds_decided, part_decided}
use Rattle.sym_path.proofs.FollowingTaken.{own_zip}
use Rattle.sym_path.proofs.NarrowedFits.{label_free, label_taken, number_free, number_taken}
use Rattle.sym_base.specs.declared.values.record.Record.{Record}
use Rattle.sym_run.specs.Chained.{Chained}
use Rattle.sym_run.specs.Chains.{IsClosed}
use Rattle.sym_run.specs.SavedRuns.{EndsWithin, IsLawfulChain, IsLawfulGroup, IsLawfulPath, IsLawfulSaved, IsLawfulSegment}
use Rattle.sym_run.specs.declared.saved.Saved.{Saved}
use Rattle.sym_file.specs.Deciding.{number_decided}
use Rattle.sym_reduce.proofs.Decisions.{Decided, all, like, at_most, at_most_z, below, between, both, by_test, distinct, is_true, less, neither, one_below, same, zipped}

-- ---- values
of_kind : (enums : List EnumPlan) (k : KindPlan) (v : Value) → Decided (IsOfKind enums k v)
of_kind enums kind.Num (value.Num x) = by_test (is_number x) (number_decided x)
of_kind enums kind.Num (value.Word t) = inr (λ h. h)
of_kind enums kind.Num (value.Label l) = inr (λ h. h)
of_kind enums kind.Word (value.Num x) = inr (λ h. h)
of_kind enums kind.Word (value.Word t) = inl tt
of_kind enums kind.Word (value.Label l) = inr (λ h. h)
of_kind enums (kind.Label enum) (value.Num x) = inr (λ h. h)
of_kind enums (kind.Label enum) (value.Word t) = inr (λ h. h)
of_kind enums (kind.Label enum) (value.Label l) = less l (label_count enums enum)

of_kinds : (enums : List EnumPlan) (ks : List KindPlan) (vs : List Value) → Decided (AreOfKinds enums ks vs)
of_kinds enums ks vs = zipped (IsOfKind enums) (of_kind enums) ks vs

same_kinds : (ks others : List KindPlan) → Decided (ks ≡ others)
same_kinds ks others = by_test (pointwise (kinds.ghosts).eq ks others) (kinds_decided ks others (pointwise (kinds.ghosts).eq ks others) refl)

module _ (p : ScriptPlan) where
  if_some : (o : Option KindPlan) (v : Value) → Decided (IfSome o (λ k. IsOfKind p.enums k v))
  if_some None v = inl tt
  if_some (Some k) v = of_kind p.enums k v

  of_field : (field : ℕ) (v : Value) → Decided (IsOfField p field v)
  of_field field v = if_some (slice_get (field_kinds p) field) v

  key_found : (key : Key) → Decided (IsKey p key)
  key_found key = zipped (IsOfField p) of_field p.group key.values

-- ---- parts
module _ (set : LabelSet) where
  no_high : (k : ℕ) → 32 ≤ k → has_label set k ≡ false
  unfolding has_label
  no_high k h = ap (λ (x : ℕ). x == 1) (bit_at_above set.bits 32 k set.below_32 h)

  low : (k : ℕ) → IsTrue (has_label set k) → k < 32
  low k h = elim (cases_lt k 32) [
    | inl below ↦ below
    | inr above ↦ absurd (let none : has_label set k ≡ false = no_high k above in cc)
  ]

  has_one : Decided ((l : ℕ) × IsTrue (has_label set l))
  has_one = like (λ h. (h.0, h.2)) (λ h. (h.0, low h.0 h.1, h.1)) (one_below (λ l. IsTrue (has_label set l)) (λ l. is_true (has_label set l)) 32)

  pub enum_fits : (count : ℕ) → Decided (FitsEnum count set)
  enum_fits count = like (λ h. record { some = h.0; within = λ l is. h.1 l (low l is) is }) (λ h. (h.some, λ l few is. h.within l is)) (both has_one (below (λ l. IsTrue (has_label set l) → l < count) one 32))
    where
      one : (l : ℕ) → Decided (IsTrue (has_label set l) → l < count)
      one l = elim (is_true (has_label set l)) [
        | inl is ↦ like (λ h own. h) (λ h. h is) (less l count)
        | inr none ↦ inl (λ is. absurd (none is))
      ]

  only : (l : ℕ) → Decided (IsOnlyLabel set l)
  only l = like to from (both (is_true (has_label set l)) (below (λ k. IsTrue (has_label set k) → k ≡ l) one 32))
    where
      one : (k : ℕ) → Decided (IsTrue (has_label set k) → k ≡ l)
      one k = elim (is_true (has_label set k)) [
        | inl is ↦ like (λ h own. h) (λ h. h is) (same k l)
        | inr none ↦ inl (λ is. absurd (none is))
      ]

      to : IsTrue (has_label set l) × ((k : ℕ) → k < 32 → IsTrue (has_label set k) → k ≡ l) → IsOnlyLabel set l
      to h other = (λ is. h.1 other (low other is) is, λ e. subst (λ (k : ℕ). IsTrue (has_label set k)) (sym e) h.0)

      from : IsOnlyLabel set l → IsTrue (has_label set l) × ((k : ℕ) → k < 32 → IsTrue (has_label set k) → k ≡ l)
      from h = ((h l).1 refl, λ k few is. (h k).0 is)

  pub has_only : Decided ((l : ℕ) × IsOnlyLabel set l)
  has_only = like (λ h. (h.0, h.2)) (λ h. (h.0, low h.0 ((h.1 h.0).1 refl), h.1)) (one_below (λ l. IsOnlyLabel set l) only 32)

range_fits : (lo hi : ℤ) (span : Span) → Decided (FitsRange lo hi span)
range_fits lo hi span = both (at_most_z lo span.lo) (at_most_z span.hi hi)

in_range : (lo hi x : ℤ) → Decided (InRange lo hi x)
in_range lo hi x = both (at_most_z lo x) (at_most_z x hi)

drop_front : {A : Type 0} (xs ys : List A) → drop (length xs) (xs ++ ys) ≡ ys
drop_front [] ys = refl
drop_front (x ∷ xs) ys = drop_front xs ys

module _ (p : ScriptPlan) where
  suits : (ks : List KindPlan) (literal : Literal) → Decided (Suits p ks literal)
  suits ks literal = by (slice_get p.tests literal.test) refl
    where
      from_params : (called : TestOf) → slice_get p.tests literal.test ≡ Some called → Suits p ks literal
          → (called.params ≡ ks ++ drop (length ks) called.params) × AreOfKinds p.enums (drop (length ks) called.params) literal.args
      from_params called e h =
          let same : h.called ≡ called = (let both : Some h.called ≡ Some called = sym h.is_test ∙ e in cc) in
          let is : called.params ≡ ks ++ h.others = ap (λ (t : TestOf). t.params) (sym same) ∙ h.params in
          let rest : drop (length ks) called.params ≡ h.others = ap (drop (length ks)) is ∙ drop_front ks h.others in
          (is ∙ ap (λ (r : List KindPlan). ks ++ r) (sym rest), subst (λ (r : List KindPlan). AreOfKinds p.enums r literal.args) (sym rest) h.args)

      by : (o : Option TestOf) → slice_get p.tests literal.test ≡ o → Decided (Suits p ks literal)
      by None e = inr (λ h. let both : None ≡ Some h.called = sym e ∙ h.is_test in cc)
      by (Some called) e =
          like (λ h. record { called = called; is_test = e; others = drop (length ks) called.params; params = h.0; args = h.1 }) (from_params called e)
          (both (same_kinds called.params (ks ++ drop (length ks) called.params)) (of_kinds p.enums (drop (length ks) called.params) literal.args))

  fits_part : (c : CellPlan) (now : Part) → Decided (FitsPart p c now)
  fits_part (plan.Enum of first) (part.Set set) = enum_fits set (label_count p.enums of)
  fits_part (plan.Enum of first) (part.Span span) = inr (λ h. h)
  fits_part (plan.Enum of first) (part.Facts known) = inr (λ h. h)
  fits_part (plan.Enum of first) part.Free = inr (λ h. h)
  fits_part (plan.Int lo hi first clamp) (part.Set set) = inr (λ h. h)
  fits_part (plan.Int lo hi first clamp) (part.Span span) = range_fits lo hi span
  fits_part (plan.Int lo hi first clamp) (part.Facts known) = inr (λ h. h)
  fits_part (plan.Int lo hi first clamp) part.Free = inr (λ h. h)
  fits_part (plan.Hold ks first) (part.Set set) = inr (λ h. h)
  fits_part (plan.Hold ks first) (part.Span span) = inr (λ h. h)
  fits_part (plan.Hold ks first) (part.Facts known) = all (Suits p ks) (suits ks) (literals known)
  fits_part (plan.Hold ks first) part.Free = inr (λ h. h)
  fits_part (plan.Nums lo hi clamp) (part.Set set) = inr (λ h. h)
  fits_part (plan.Nums lo hi clamp) (part.Span span) = inr (λ h. h)
  fits_part (plan.Nums lo hi clamp) (part.Facts known) = inr (λ h. h)
  fits_part (plan.Nums lo hi clamp) part.Free = inl tt
  fits_part plan.Words (part.Set set) = inr (λ h. h)
  fits_part plan.Words (part.Span span) = inr (λ h. h)
  fits_part plan.Words (part.Facts known) = inr (λ h. h)
  fits_part plan.Words part.Free = inl tt

  part_fits : (c : CellPlan) (now : Part) → Decided (PartFits p c now)
  part_fits c now = like (part_decided p c now).0 (part_decided p c now).1 (fits_part c now)

-- ---- forms
module _ (when : List Part) where
  stays : (lo hi : ℤ) (f : IntForm) (span : Span) → Decided ((x : ℤ) → HasPoint span x → InRange lo hi (form_on f x))
  stays lo hi f span =
      like (λ h x at. h x at.0 (let end = at.1 in let order = span.ordered in omega (arith, ints))) (λ h x from to. h x (from, (let order = span.ordered in omega (arith, ints))))
      (between (λ x. InRange lo hi (form_on f x)) (λ x. in_range lo hi (form_on f x)) span.lo (suc (unsigned_abs (span.hi -ℤ span.lo))))

  stays_within : (lo hi : ℤ) (f : IntForm) (o : Option Part) → Decided (StaysWithin lo hi (form_on f) o)
  stays_within lo hi f None = inr (λ h. h)
  stays_within lo hi f (Some (part.Set set)) = inr (λ h. h)
  stays_within lo hi f (Some (part.Span span)) = stays lo hi f span
  stays_within lo hi f (Some (part.Facts known)) = inr (λ h. h)
  stays_within lo hi f (Some part.Free) = inr (λ h. h)

  number_fits : (lo hi : ℤ) (f : IntForm) → Decided (NumberFits lo hi when f)
  number_fits lo hi (number.Const n) = in_range lo hi n.value
  number_fits lo hi (number.Line line) = stays_within lo hi (number.Line line) (slice_get when line.cell)

  one_label : (c : ℕ) → Decided ((l : ℕ) × HasOneLabel when c l)
  one_label c = by (slice_get when c) refl
    where
      by : (o : Option Part) → slice_get when c ≡ o → Decided ((l : ℕ) × HasOneLabel when c l)
      by None e = inr (λ h. let both : None ≡ Some (part.Set h.1.set) = sym e ∙ h.1.is in cc)
      by (Some (part.Set set)) e =
          like (λ h. (h.0, record { set = set; is = e; only = h.1 }))
          (λ h. let same : h.1.set ≡ set = (let both : Some (part.Set h.1.set) ≡ Some (part.Set set) = sym h.1.is ∙ e in cc) in (h.0, subst (λ (s : LabelSet). IsOnlyLabel s h.0) same h.1.only))
          (has_only set)
      by (Some (part.Span span)) e = inr (λ h. let both : Some (part.Span span) ≡ Some (part.Set h.1.set) = sym e ∙ h.1.is in cc)
      by (Some (part.Facts known)) e = inr (λ h. let both : Some (part.Facts known) ≡ Some (part.Set h.1.set) = sym e ∙ h.1.is in cc)
      by (Some part.Free) e = inr (λ h. let both : Some part.Free ≡ Some (part.Set h.1.set) = sym e ∙ h.1.is in cc)

  one_number : (c : ℕ) → Decided ((x : ℤ) × HasOneNumber when c x)
  one_number c = by (slice_get when c) refl
    where
      by : (o : Option Part) → slice_get when c ≡ o → Decided ((x : ℤ) × HasOneNumber when c x)
      by None e = inr (λ h. let both : None ≡ Some (part.Span h.1.span) = sym e ∙ h.1.is in cc)
      by (Some (part.Set set)) e = inr (λ h. let both : Some (part.Set set) ≡ Some (part.Span h.1.span) = sym e ∙ h.1.is in cc)
      by (Some (part.Span span)) e =
          like (λ h. (span.lo, record { span = span; is = e; lo = refl; hi = (let order = span.ordered in omega (arith, ints, h)) }))
          (λ h. let same : h.1.span ≡ span = (let both : Some (part.Span h.1.span) ≡ Some (part.Span span) = sym h.1.is ∙ e in cc) in
          let one : h.1.span.hi ≡ h.1.span.lo = h.1.hi ∙ sym h.1.lo in
          let here : span.hi ≡ span.lo = subst (λ (s : Span). s.hi ≡ s.lo) same one in
          omega (arith, ints, here))
          (at_most_z span.hi span.lo)
      by (Some (part.Facts known)) e = inr (λ h. let both : Some (part.Facts known) ≡ Some (part.Span h.1.span) = sym e ∙ h.1.is in cc)
      by (Some part.Free) e = inr (λ h. let both : Some part.Free ≡ Some (part.Span h.1.span) = sym e ∙ h.1.is in cc)

  label_is_taken : (f : EnumForm) → Decided (LabelIsTakenTo when f f)
  label_is_taken (label.Const l) = inl (label_taken when (label.Const l) (λ d m e o. cc))
  label_is_taken (label.Copy c) =
      like (λ none. label_taken when (label.Copy c) (λ d m e o. let same : c ≡ d = cc in none (m, subst (λ (k : ℕ). HasOneLabel when k m) (sym same) o)))
      (λ h o. label_free when (label.Copy c) h c o.0 refl o.1)
      (neither (one_label c))

  number_is_taken : (f : IntForm) → Decided (NumberIsTakenTo when f f)
  number_is_taken (number.Const n) = inl (number_taken when (number.Const n) (λ d x e o. cc))
  number_is_taken (number.Line line) =
      like (λ none. number_taken when (number.Line line) (λ d x e o. let same : line.cell ≡ d = cc in none (x, subst (λ (k : ℕ). HasOneNumber when k x) (sym same) o)))
      (λ h o. number_free when (number.Line line) h line.cell o.0 refl o.1)
      (neither (one_number line.cell))

  all_own : (fs : List IntForm) → All (λ f. NumberIsTakenTo when f f) fs → AllZip (NumberIsTakenTo when) fs fs
  all_own [] h = tt
  all_own (f ∷ fs) h = (All-head (λ g. NumberIsTakenTo when g g) f fs h, all_own fs (All-tail (λ g. NumberIsTakenTo when g g) f fs h))

  is_taken : (f : Form) → Decided (IsTakenOn when f)
  is_taken (form.Enum f) = label_is_taken f
  is_taken (form.Int f) = number_is_taken f
  is_taken (form.Hold f) = inl refl
  is_taken (form.Nums added) = like (all_own added) (own_zip when added) (all (λ f. NumberIsTakenTo when f f) number_is_taken added)
  is_taken (form.Words added) = inl refl

module _ (p : ScriptPlan) where
  enum_cell : (c enum : ℕ) → Decided (IsEnumCell p.cells c enum)
  enum_cell c enum = by (slice_get p.cells c) refl
    where
      by : (o : Option CellPlan) → slice_get p.cells c ≡ o → Decided (IsEnumCell p.cells c enum)
      by None e = inr (λ h. let both : None ≡ Some (plan.Enum enum h.first) = sym e ∙ h.is in cc)
      by (Some (plan.Enum of first)) e =
          like (λ same. record { first = first; is = e ∙ ap (λ (o : ℕ). Some (plan.Enum o first)) same })
          (λ h. let both : Some (plan.Enum of first) ≡ Some (plan.Enum enum h.first) = sym e ∙ h.is in cc) (same of enum)
      by (Some (plan.Int lo hi first clamp)) e = inr (λ h. let both : Some (plan.Int lo hi first clamp) ≡ Some (plan.Enum enum h.first) = sym e ∙ h.is in cc)
      by (Some (plan.Hold ks first)) e = inr (λ h. let both : Some (plan.Hold ks first) ≡ Some (plan.Enum enum h.first) = sym e ∙ h.is in cc)
      by (Some (plan.Nums lo hi clamp)) e = inr (λ h. let both : Some (plan.Nums lo hi clamp) ≡ Some (plan.Enum enum h.first) = sym e ∙ h.is in cc)
      by (Some plan.Words) e = inr (λ h. let both : Some plan.Words ≡ Some (plan.Enum enum h.first) = sym e ∙ h.is in cc)

  hold_cell : (c : ℕ) (ks : List KindPlan) → Decided (IsHoldCell p.cells c ks)
  hold_cell c ks = by (slice_get p.cells c) refl
    where
      by : (o : Option CellPlan) → slice_get p.cells c ≡ o → Decided (IsHoldCell p.cells c ks)
      by None e = inr (λ h. let both : None ≡ Some (plan.Hold ks h.first) = sym e ∙ h.is in cc)
      by (Some (plan.Enum of first)) e = inr (λ h. let both : Some (plan.Enum of first) ≡ Some (plan.Hold ks h.first) = sym e ∙ h.is in cc)
      by (Some (plan.Int lo hi first clamp)) e = inr (λ h. let both : Some (plan.Int lo hi first clamp) ≡ Some (plan.Hold ks h.first) = sym e ∙ h.is in cc)
      by (Some (plan.Hold own first)) e =
          like (λ same. record { first = first; is = e ∙ ap (λ (k : List KindPlan). Some (plan.Hold k first)) same })
          (λ h. let both : Some (plan.Hold own first) ≡ Some (plan.Hold ks h.first) = sym e ∙ h.is in cc) (same_kinds own ks)
      by (Some (plan.Nums lo hi clamp)) e = inr (λ h. let both : Some (plan.Nums lo hi clamp) ≡ Some (plan.Hold ks h.first) = sym e ∙ h.is in cc)
      by (Some plan.Words) e = inr (λ h. let both : Some plan.Words ≡ Some (plan.Hold ks h.first) = sym e ∙ h.is in cc)

  module _ (when : List Part) where
    fits_form : (c : CellPlan) (f : Form) → Decided (FitsForm p when c f)
    fits_form (plan.Enum of first) (form.Enum (label.Const l)) = less l (label_count p.enums of)
    fits_form (plan.Enum of first) (form.Enum (label.Copy c)) = enum_cell c of
    fits_form (plan.Enum of first) (form.Int f) = inr (λ h. h)
    fits_form (plan.Enum of first) (form.Hold f) = inr (λ h. h)
    fits_form (plan.Enum of first) (form.Nums added) = inr (λ h. h)
    fits_form (plan.Enum of first) (form.Words added) = inr (λ h. h)
    fits_form (plan.Int lo hi first clamp) (form.Enum f) = inr (λ h. h)
    fits_form (plan.Int lo hi first clamp) (form.Int f) = number_fits when lo hi f
    fits_form (plan.Int lo hi first clamp) (form.Hold f) = inr (λ h. h)
    fits_form (plan.Int lo hi first clamp) (form.Nums added) = inr (λ h. h)
    fits_form (plan.Int lo hi first clamp) (form.Words added) = inr (λ h. h)
    fits_form (plan.Hold ks first) (form.Enum f) = inr (λ h. h)
    fits_form (plan.Hold ks first) (form.Int f) = inr (λ h. h)
    fits_form (plan.Hold ks first) (form.Hold (hold.Const parts)) = of_kinds p.enums ks parts
    fits_form (plan.Hold ks first) (form.Hold (hold.Copy c)) = hold_cell c ks
    fits_form (plan.Hold ks first) (form.Nums added) = inr (λ h. h)
    fits_form (plan.Hold ks first) (form.Words added) = inr (λ h. h)
    fits_form (plan.Nums lo hi clamp) (form.Enum f) = inr (λ h. h)
    fits_form (plan.Nums lo hi clamp) (form.Int f) = inr (λ h. h)
    fits_form (plan.Nums lo hi clamp) (form.Hold f) = inr (λ h. h)
    fits_form (plan.Nums lo hi clamp) (form.Nums added) = all (NumberFits lo hi when) (number_fits when lo hi) added
    fits_form (plan.Nums lo hi clamp) (form.Words added) = inr (λ h. h)
    fits_form plan.Words (form.Enum f) = inr (λ h. h)
    fits_form plan.Words (form.Int f) = inr (λ h. h)
    fits_form plan.Words (form.Hold f) = inr (λ h. h)
    fits_form plan.Words (form.Nums added) = inr (λ h. h)
    fits_form plan.Words (form.Words added) = inl tt

    form_fits : (c : CellPlan) (f : Form) → Decided (FormFits p when c f)
    form_fits c f = like (form_decided p when c f).0 (form_decided p when c f).1 (fits_form c f)

    fault_fits : (k : FaultKind) → Decided (FitsFault p k)
    fault_fits (fault.Over c) = is_true (is_some (range_at p.cells c))
    fault_fits fault.Arith = inl tt

    end_fits : (end : PathEnd) → Decided (EndFits p when end)
    end_fits (Next forms) =
        like (λ h. record { each = h.0; taken = h.1 }) (λ h. (h.each, h.taken))
        (both (zipped (FormFits p when) form_fits p.cells forms) (all (IsTakenOn when) (is_taken when) forms))
    end_fits (Ended found) = fault_fits found.kind

  path_fits : (path : Path) → Decided (PathFits p path)
  path_fits path =
      like (λ h. record { parts = h.0; end = h.1 }) (λ h. (h.parts, h.end))
      (both (zipped (PartFits p) (part_fits p) p.cells path.when) (end_fits path.when path.end))

  -- ---- saved runs
  module _ (first next : ℕ) where
    within : (end : PathEnd) → Decided (EndsWithin first next end)
    within (Next forms) = inl tt
    within (Ended found) = both (at_most first found.no) (less found.no next)

    lawful_path : (path : Path) → Decided (IsLawfulPath p first next path)
    lawful_path path = like (λ h. record { fits = h.0; fault = h.1 }) (λ h. (h.fits, h.fault)) (both (path_fits path) (within path.end))

    lawful_segment : (paths : List Path) → Decided (IsLawfulSegment p first next paths)
    lawful_segment paths =
        like (λ h. record { some = h.0; each = h.1 }) (λ h. (h.some, h.each)) (both (at_most 1 (length paths)) (all (IsLawfulPath p first next) lawful_path paths))

    keeps_none : (chain : Chained) → Decided (IsClosed chain)
    keeps_none chain = of chain.kept refl
      where
        of : (kept : List Record) → chain.kept ≡ kept → Decided (IsClosed chain)
        of [] e = inl e
        of (rec ∷ kept) e = inr (λ (none : chain.kept ≡ []). let other : (rec ∷ kept) ≡ [] = sym e ∙ none in cc)

    lawful_chain : (chain : Chained) → Decided (IsLawfulChain p first next chain)
    lawful_chain chain =
        like (λ h. record { some = h.0; each = h.1.0; closed = h.1.1 }) (λ h. (h.some, (h.each, h.closed)))
        (both (at_most 1 (length chain.segments)) (both (all (IsLawfulSegment p first next) lawful_segment chain.segments) (keeps_none chain)))

    lawful_group : (group : Key × Chained) → Decided (IsLawfulGroup p first next group)
    lawful_group group = like (λ h. record { key = h.0; chain = h.1 }) (λ h. (h.key, h.chain)) (both (key_found p group.0) (lawful_chain group.1))

  pub lawful_found : (saved : Saved) → Decided (IsLawfulSaved p saved)
  lawful_found saved =
      like (λ h. record { from = h.0; order = h.1.0; distinct = h.1.1.0; each = h.1.1.1 }) (λ h. (h.from, (h.order, (h.distinct, h.each))))
      (both (at_most 1 saved.first) (both (at_most saved.first saved.next)
      (both (distinct is_key (keys_of saved.groups)) (all (IsLawfulGroup p saved.first saved.next) (lawful_group saved.first saved.next) saved.groups))))
