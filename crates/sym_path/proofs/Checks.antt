-- Whether a path fits a script is decided.
use Rattle.std.proofs.Common.{rules, ◌≡◌, ◌↔◌, ◌<◌, ◌≤◌, ℕ, ℤ, Bool, true, false, List, Some, None, inl, inr, length, refl, sym, ap, ◌∙◌, subst, arith}
use Rattle.std.proofs.lemmas.Bool.Decides.{Decides-at}
use Rattle.std.proofs.lemmas.Bool.{cases_lt}
use Rattle.std.proofs.lemmas.Int.{ints}
use Rattle.std.proofs.lemmas.Nat.Bits.{bit_at_above}
use Rattle.std.proofs.lemmas.Option.{slice_get_within, slice_get-map}
use Rattle.std.specs.Bool.{Decides}
use Rattle.std.specs.Cmp.Lexicographic.{pointwise, pointwise_decides}
use Rattle.std.specs.Prelude.{slice_get, IsTrue, ◌==◌, map}
use Rattle.std.specs.Option.{option_map}
use Rattle.std.specs.List.{All, AllZip}
use Rattle.sym_base.specs.Limits.{IsNumber}
use Rattle.sym_check.specs.contracts.plan.script.KindPlanPartialEq.TheImpl as kinds
use Rattle.sym_check.specs.declared.plan.script.KindPlan.{KindPlan}
use Rattle.sym_check.specs.declared.plan.script.CellPlan.{CellPlan}
use Rattle.sym_check.specs.declared.plan.script.CellPlan.TheVariants as plan
use Rattle.sym_check.specs.declared.plan.script.Plan.{Plan}
use Rattle.sym_check.specs.declared.plan.script.TestPlan.{TestPlan}
use Rattle.sym_check.specs.Plan.ScriptPlans.{ScriptPlan, TestOf, script_plan, test_plan}
use Rattle.sym_check.specs.Plan.Ranges.{InRange}
use Rattle.sym_enum.specs.Labels.{has_label}
use Rattle.sym_enum.specs.declared.form.EnumForm.TheVariants as label
use Rattle.sym_enum.specs.declared.label_set.LabelSet.{LabelSet}
use Rattle.sym_int.specs.Lines.{form_on}
use Rattle.sym_int.specs.Points.{HasPoint}
use Rattle.sym_int.specs.declared.form.IntForm.{IntForm}
use Rattle.sym_int.specs.declared.span.Span.{Span}
use Rattle.sym_pred.specs.declared.literal.Literal.{Literal}
use Rattle.sym_pred.specs.declared.form.HoldForm.TheVariants as hold
use Rattle.sym_path.specs.declared.part.Part.{Part}
use Rattle.sym_path.specs.declared.part.Part.TheVariants as part
use Rattle.sym_path.specs.declared.form.Form.{Form}
use Rattle.sym_path.specs.declared.form.Form.TheVariants as form
use Rattle.sym_path.specs.declared.path.PathEnd.{PathEnd}
use Rattle.sym_path.specs.declared.path.PathEnd.TheVariants.{Next}
use Rattle.sym_path.specs.Checking.{AreParameters, FitsPart, FitsForm}
use Rattle.sym_path.specs.Fitting.{FitsEnum, FitsRange, Suits, PartFits, FormFits, FormsFit, EndFits}
use Rattle.sym_path.specs.Fitting as fitting
use Rattle.sym_path.specs.Taking.{IsTakenTo, IsTakenOn}
use Rattle.sym_path.proofs.FollowingTaken.{own_taken}
use Rattle.sym_path.proofs.Lists.{zip_from, zip_at, zip_length, zip_weak, all_from}

-- Two lists of one length whose items below an index at their end stand to each other.
pub whole_pairs : {A B : Type 0} (R : A → B → Type 0) (xs : List A) (ys : List B) (i : ℕ) → length xs ≡ length ys → length xs ≤ i → ((d : ℕ) (x : A) (y : B) → d < i → slice_get xs d ≡ Some x → slice_get ys d ≡ Some y → R x y) → AllZip R xs ys
whole_pairs R xs ys i e past h = zip_from R xs ys e (λ d x y a b. let within : d < length xs = slice_get_within xs d x a in h d x y (omega arith) a b)

pub whole_list : {A : Type 0} (P : A → Type 0) (xs : List A) (i : ℕ) → length xs ≤ i → ((d : ℕ) (x : A) → d < i → slice_get xs d ≡ Some x → P x) → All P xs
whole_list P xs i past h = all_from P xs (λ d x a. let within : d < length xs = slice_get_within xs d x a in h d x (omega arith) a)

pub refuted : {P : Type 0} → (P → ⊥) → IsTrue false ↔ P
refuted h = (λ e. absurd (cc), λ p. absurd (h p))

module _ {A B : Type 0} (R : A → B → Type 0) (xs : List A) (ys : List B) (vs : List A) (ws : List B) (first : vs ≡ xs) (second : ws ≡ ys) where
  there : AllZip R xs ys → AllZip R vs ws
  there h = rw (first, second) h

  back : AllZip R vs ws → AllZip R xs ys
  back h = subst (λ (zs : List A). AllZip R zs ys) first (subst (λ (zs : List B). AllZip R vs zs) second h)

  -- Lists of other lengths, with a pair that isn't so, and with all pairs so.
  pub other_lengths : (length vs ≡ length ws → ⊥) → IsTrue false ↔ AllZip R xs ys
  other_lengths h = refuted (λ all. h (zip_length R vs ws (there all)))

  pub one_fails : (i : ℕ) (x : A) (y : B) (b : Bool) → slice_get vs i ≡ Some x → slice_get ws i ≡ Some y → b ≡ false → IsTrue b ↔ R x y → IsTrue false ↔ AllZip R xs ys
  one_fails i x y b ex ey wrong decided = refuted (λ all. let here : b ≡ true = decided.1 (zip_at R vs ws i x y (there all) ex ey) in cc)

  pub all_hold : (i : ℕ) → length vs ≡ length ws → length vs ≤ i → ((d : ℕ) (x : A) (y : B) → d < i → slice_get vs d ≡ Some x → slice_get ws d ≡ Some y → R x y) → IsTrue true ↔ AllZip R xs ys
  all_hold i e past h = (λ t. back (whole_pairs R vs ws i e past h), λ all. refl)

-- ---- labels

-- The labels below one: whether some of them are in the set, and that those are below the count.
pub record AreLabelsSeen (set : LabelSet) (count below : ℕ) (some : Bool) : Type 0 where
  pub found : some ≡ true → (k : ℕ) × IsTrue (has_label set k)
  pub none : some ≡ false → (k : ℕ) → k < below → has_label set k ≡ false
  pub within : (k : ℕ) → k < below → IsTrue (has_label set k) → k < count

no_high_label : (set : LabelSet) (k : ℕ) → 32 ≤ k → has_label set k ≡ false
unfolding has_label
no_high_label set k h = ap (λ (x : ℕ). x == 1) (bit_at_above set.bits 32 k set.below_32 h)

pub labels_decided : (set : LabelSet) (count below : ℕ) (some : Bool) → 32 ≤ below → AreLabelsSeen set count below some → IsTrue some ↔ FitsEnum count set
labels_decided set count below true h seen = (λ e. record { some = seen.found refl; within = within }, λ fits. refl)
  where
    within : (k : ℕ) → IsTrue (has_label set k) → k < count
    within k e = elim (cases_lt k 32) [
      | inl low ↦ seen.within k (omega arith) e
      | inr high ↦ absurd (let none : has_label set k ≡ false = no_high_label set k high in cc)
    ]
labels_decided set count below false h seen = (λ e. absurd (cc), λ fits. absurd (nothing fits.some))
  where
    nothing : ((k : ℕ) × IsTrue (has_label set k)) → ⊥
    nothing found = elim (cases_lt found.0 32) [
      | inl low ↦ let none : has_label set found.0 ≡ false = seen.none refl found.0 (omega arith) in let some = found.1 in cc
      | inr high ↦ let none : has_label set found.0 ≡ false = no_high_label set found.0 high in let some = found.1 in cc
    ]

-- ---- kinds

kind_eq-Decides : (x y : KindPlan) → Decides ((kinds.ghosts).eq x y) (x ≡ y)
kind_eq-Decides x y = search rules

pub kinds_decided : (xs ys : List KindPlan) (b : Bool) → b ≡ pointwise (kinds.ghosts).eq xs ys → IsTrue b ↔ (xs ≡ ys)
kinds_decided xs ys b e = Decides-at _ _ e (pointwise_decides kind_eq-Decides xs ys)

-- ---- literals

module _ (p : Plan) (kinds_of : List KindPlan) (literal : Literal) where
  pub suits_decided : (test : TestPlan) (b : Bool) → slice_get p.tests literal.test ≡ Some test → IsTrue b ↔ AreParameters p.enums kinds_of test.params literal.args → IsTrue b ↔ Suits (script_plan p) kinds_of literal
  suits_decided test b found decided = (to, from)
    where
      is_test : slice_get (map test_plan p.tests) literal.test ≡ Some (test_plan test)
      is_test = slice_get-map test_plan p.tests literal.test ∙ ap (option_map test_plan) found

      to : IsTrue b → Suits (script_plan p) kinds_of literal
      to e = let h = decided.0 e in record { called = test_plan test; is_test = is_test; others = h.others; params = h.is; args = h.args }

      from : Suits (script_plan p) kinds_of literal → IsTrue b
      from h =
          let same : test_plan test ≡ h.called = let both : Some (test_plan test) ≡ Some h.called = sym is_test ∙ h.is_test in cc in
          decided.1 (record { others = h.others; is = ap (λ (t : TestOf). t.params) same ∙ h.params; args = h.args })

  pub no_test_suits : slice_get p.tests literal.test ≡ None → IsTrue false ↔ Suits (script_plan p) kinds_of literal
  no_test_suits none = refuted (λ h. let both : None ≡ Some h.called = sym (slice_get-map test_plan p.tests literal.test ∙ ap (option_map test_plan) none) ∙ h.is_test in cc)

-- ---- forms of numbers

pub stays_decided : (range span within : Span) (f : IntForm) (b : Bool) → IsTrue b ↔ FitsRange within.lo within.hi span → ((x : ℤ) → IsNumber x → (HasPoint within x ↔ HasPoint range (form_on f x))) → IsTrue b ↔ ((x : ℤ) → HasPoint span x → InRange range.lo range.hi (form_on f x))
stays_decided range span within f b decided exact = (to, from)
  where
    is_number : (x : ℤ) → HasPoint span x → IsNumber x
    is_number x q = let a = q.0 in let b = q.1 in let l = span.lo_in in let u = span.hi_in in omega (arith, ints)

    to : IsTrue b → (x : ℤ) → HasPoint span x → InRange range.lo range.hi (form_on f x)
    to e x q =
        let fits = decided.0 e in
        let below = fits.0 in
        let above = fits.1 in
        let a = q.0 in
        let b = q.1 in
        (exact x (is_number x q)).0 (omega (arith, ints), omega (arith, ints))

    from : ((x : ℤ) → HasPoint span x → InRange range.lo range.hi (form_on f x)) → IsTrue b
    from h =
        let ordered = span.ordered in
        let first : HasPoint span span.lo = (omega (arith, ints), ordered) in
        let last : HasPoint span span.hi = (ordered, omega (arith, ints)) in
        decided.1 (((exact span.lo (is_number span.lo first)).1 (h span.lo first)).0, ((exact span.hi (is_number span.hi last)).1 (h span.hi last)).1)

module _ (range span : Span) (f : IntForm) where
  between : (x : ℤ) → HasPoint span x → IsNumber x
  between x q = let a = q.0 in let b = q.1 in let l = span.lo_in in let u = span.hi_in in omega (arith, ints)

  pub stays_everywhere : ((x : ℤ) → IsNumber x → (Unit {0} ↔ HasPoint range (form_on f x))) → IsTrue true ↔ ((x : ℤ) → HasPoint span x → InRange range.lo range.hi (form_on f x))
  stays_everywhere exact = (λ e x q. (exact x (between x q)).0 tt, λ h. refl)

  pub stays_nowhere : ((x : ℤ) → IsNumber x → (⊥ ↔ HasPoint range (form_on f x))) → IsTrue false ↔ ((x : ℤ) → HasPoint span x → InRange range.lo range.hi (form_on f x))
  stays_nowhere exact = refuted (λ h. let ordered = span.ordered in let first : HasPoint span span.lo = (omega (arith, ints), ordered) in (exact span.lo (between span.lo first)).1 (h span.lo first))

-- ---- one cell

pub part_decided : (p : ScriptPlan) (cp : CellPlan) (now : Part) → FitsPart p cp now ↔ PartFits p cp now
part_decided p cp now = (to cp now, from cp now)
  where
    to : (cp : CellPlan) (now : Part) → FitsPart p cp now → PartFits p cp now
    to (plan.Enum of first) (part.Set set) h = fitting.labels of first set h
    to (plan.Int lo hi first clamp) (part.Span span) h = fitting.numbers lo hi first span h
    to (plan.Hold kinds first) (part.Facts known) h = fitting.parts kinds first known h
    to (plan.Nums lo hi clamp) part.Free h = fitting.free_nums lo hi
    to plan.Words part.Free h = fitting.free_words
    to cp now h = absurd h

    from : (cp : CellPlan) (now : Part) → PartFits p cp now → FitsPart p cp now
    from _ _ (fitting.labels of first set h) = h
    from _ _ (fitting.numbers lo hi first span h) = h
    from _ _ (fitting.parts kinds first known h) = h
    from _ _ (fitting.free_nums lo hi) = tt
    from _ _ fitting.free_words = tt

pub form_decided : (p : ScriptPlan) (when : List Part) (cp : CellPlan) (f : Form) → FitsForm p when cp f ↔ FormFits p when cp f
form_decided p when cp f = (to cp f, from cp f)
  where
    to : (cp : CellPlan) (f : Form) → FitsForm p when cp f → FormFits p when cp f
    to (plan.Enum of first) (form.Enum (label.Const l)) h = fitting.of_label of first l h
    to (plan.Enum of first) (form.Enum (label.Copy c)) h = fitting.copied_label of first c h
    to (plan.Int lo hi first clamp) (form.Int g) h = fitting.of_number lo hi first g h
    to (plan.Hold kinds first) (form.Hold (hold.Const parts)) h = fitting.of_parts kinds first parts h
    to (plan.Hold kinds first) (form.Hold (hold.Copy c)) h = fitting.copied_parts kinds first c h
    to (plan.Nums lo hi clamp) (form.Nums added) h = fitting.of_numbers lo hi added h
    to plan.Words (form.Words added) h = fitting.of_words added
    to cp f h = absurd h

    from : (cp : CellPlan) (f : Form) → FormFits p when cp f → FitsForm p when cp f
    from _ _ (fitting.of_label of first l h) = h
    from _ _ (fitting.copied_label of first c h) = h
    from _ _ (fitting.of_number lo hi first g h) = h
    from _ _ (fitting.of_parts kinds first parts h) = h
    from _ _ (fitting.copied_parts kinds first c h) = h
    from _ _ (fitting.of_numbers lo hi added h) = h
    from _ _ (fitting.of_words added) = tt

-- ---- all cells

pub parts_decided : (p : ScriptPlan) (when : List Part) → AllZip (FitsPart p) p.cells when ↔ AllZip (PartFits p) p.cells when
parts_decided p when = (
  zip_weak (FitsPart p) (PartFits p) p.cells when (λ cp now. (part_decided p cp now).0),
  zip_weak (PartFits p) (FitsPart p) p.cells when (λ cp now. (part_decided p cp now).1),
)

pub forms_decided : (p : ScriptPlan) (when : List Part) (forms : List Form) → (AllZip (FitsForm p when) p.cells forms × AllZip (IsTakenTo when) forms forms) ↔ FormsFit p when forms
forms_decided p when forms = (
  λ h. record {
    each = zip_weak (FitsForm p when) (FormFits p when) p.cells forms (λ cp f. (form_decided p when cp f).0) h.0;
    taken = all_from (IsTakenOn when) forms (λ i f e. zip_at (IsTakenTo when) forms forms i f f h.1 e e);
  },
  λ h. (zip_weak (FormFits p when) (FitsForm p when) p.cells forms (λ cp f. (form_decided p when cp f).1) h.each, own_taken when forms h.taken),
)

pub end_taken : (p : ScriptPlan) (when : List Part) (end : PathEnd) (forms first second : List Form) (each taken : Bool) → end ≡ Next forms → first ≡ forms → second ≡ forms → each ≡ true → (IsTrue each ↔ AllZip (FitsForm p when) p.cells forms) → (IsTrue taken ↔ AllZip (IsTakenTo when) first second) → IsTrue taken ↔ EndFits p when end
end_taken p when end forms first second each taken is e e' held all own = (to, from)
  where
    own_forms : IsTrue taken ↔ AllZip (IsTakenTo when) forms forms
    own_forms = subst (λ (fs : List Form). IsTrue taken ↔ AllZip (IsTakenTo when) fs forms) e (subst (λ (fs : List Form). IsTrue taken ↔ AllZip (IsTakenTo when) first fs) e' own)

    to : IsTrue taken → EndFits p when end
    to t = subst (λ (x : PathEnd). EndFits p when x) (sym is) ((forms_decided p when forms).0 (all.0 held, own_forms.0 t))

    from : EndFits p when end → IsTrue taken
    from h = own_forms.1 ((forms_decided p when forms).1 (subst (λ (x : PathEnd). EndFits p when x) is h)).1

pub end_apart : (p : ScriptPlan) (when : List Part) (end : PathEnd) (forms : List Form) (each : Bool) → end ≡ Next forms → each ≡ false → (IsTrue each ↔ AllZip (FitsForm p when) p.cells forms) → IsTrue each ↔ EndFits p when end
end_apart p when end forms each is failed all = (
  λ t. absurd (let f : true ≡ false = sym t ∙ failed in cc),
  λ h. all.1 ((forms_decided p when forms).1 (subst (λ (x : PathEnd). EndFits p when x) is h)).0,
)
