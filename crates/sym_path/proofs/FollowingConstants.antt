-- Numbers that are added to lists and name no integer cell go through any context as they are.
use Rattle.std.proofs.Common.{◌≡◌, ℕ, pos, List, [], ◌∷◌, ◌⊎◌, inl, inr, Option, Some, None, length, drop, refl, arith, lit≤}
use Rattle.std.proofs.lemmas.Int.{ints}
use Rattle.std.specs.Prelude.{slice_get}
use Rattle.std.specs.List.{All, AllZip}
use Rattle.sym_enum.specs.declared.form.EnumForm.TheVariants as label
use Rattle.sym_int.specs.Elements.{CanGoThrough, GoesThroughTo}
use Rattle.sym_int.specs.Lines.{form_cell}
use Rattle.sym_int.specs.declared.element.IntForms.{IntForms}
use Rattle.sym_int.specs.declared.form.IntForm.{IntForm}
use Rattle.sym_int.specs.declared.form.IntForm.TheVariants as number
use Rattle.sym_int.specs.declared.span.Span.{Span}
use Rattle.sym_pred.specs.declared.form.HoldForm.TheVariants as hold
use Rattle.sym_path.specs.declared.part.Part.{Part}
use Rattle.sym_path.specs.declared.part.Part.TheVariants as part
use Rattle.sym_path.specs.declared.form.Form.{Form}
use Rattle.sym_path.specs.declared.form.Form.TheVariants as form
use Rattle.sym_path.specs.FormsAfter.{IsNumberOf, IsSpanOf, IsContext, AddsConstants, CanComeAfter, NumsAfter, FormAfter, AllCanComeAfter, AreAfter, AreNext}
use Rattle.sym_path.specs.declared.path.PathEnd.{PathEnd}
use Rattle.sym_path.specs.declared.path.PathEnd.TheVariants.{Next}
use Rattle.sym_path.proofs.Lists.{zip_at, zip_from, zip_length, all_at, all_from}

-- ---- a context of any forms and parts

zero_number : IntForm
zero_number = number.Const (record { value = pos 0; value_in = lit≤ tt })

zero_span : Span
zero_span = record { lo = pos 0; hi = pos 0; lo_in = lit≤ tt; ordered = omega (arith, ints); hi_in = lit≤ tt }

one_number : (f : Form) → (g : IntForm) × IsNumberOf f g
one_number (form.Enum f) = (zero_number, tt)
one_number (form.Int f) = (f, refl)
one_number (form.Hold f) = (zero_number, tt)
one_number (form.Nums added) = (zero_number, tt)
one_number (form.Words added) = (zero_number, tt)

one_span : (p : Part) → (s : Span) × IsSpanOf p s
one_span (part.Set set) = (zero_span, tt)
one_span (part.Span span) = (span, refl)
one_span (part.Facts known) = (zero_span, tt)
one_span part.Free = (zero_span, tt)

numbers : (fs : List Form) → (gs : List IntForm) × AllZip IsNumberOf fs gs
numbers [] = ([], tt)
numbers (f ∷ fs) = let one = one_number f in let rest = numbers fs in (one.0 ∷ rest.0, (one.1, rest.1))

spans : (ps : List Part) → (ss : List Span) × AllZip IsSpanOf ps ss
spans [] = ([], tt)
spans (p ∷ ps) = let one = one_span p in let rest = spans ps in (one.0 ∷ rest.0, (one.1, rest.1))

pub some_context : (forms : List Form) (lefts : List Part) → (context : IntForms) × IsContext forms lefts context
some_context forms lefts =
    let fs = numbers forms in
    let ss = spans lefts in
    (record { forms = fs.0; spans = ss.0 }, record { numbers = fs.1; ranges = ss.1 })

-- ---- in place of one context another

module _ (forms : List Form) (lefts : List Part) (old new : IntForms) where
  can_go : (f : IntForm) → form_cell f ≡ None → CanGoThrough f new
  can_go (number.Const n) e = tt
  can_go (number.Line line) e = absurd (cc)

  goes : (f g : IntForm) → form_cell f ≡ None → GoesThroughTo f old g → GoesThroughTo f new g
  goes (number.Const n) g e h = h
  goes (number.Line line) g e h = absurd (cc)

  can_come : (c : ℕ) (g : Form) → AddsConstants g → CanComeAfter forms lefts old c g → CanComeAfter forms lefts new c g
  can_come c (form.Enum (label.Const l)) none h = h
  can_come c (form.Enum (label.Copy d)) none h = h
  can_come c (form.Int f) none h = h
  can_come c (form.Hold (hold.Const ps)) none h = h
  can_come c (form.Hold (hold.Copy d)) none h = h
  can_come c (form.Nums added) none h = (h.0, all_from (λ f. CanGoThrough f new) added (λ i f e. can_go f (all_at (λ g. form_cell g ≡ None) added i f none e)))
  can_come c (form.Words added) none h = h

  nums_after : (added : List IntForm) (o : Option Form) (r : Form) → All (λ f. form_cell f ≡ None) added → NumsAfter old added o r → NumsAfter new added o r
  nums_after added (Some (form.Nums first)) (form.Nums after) none h = (
    h.0,
    zip_from (λ f g. GoesThroughTo f new g) added (drop (length first) after) (zip_length (λ f g. GoesThroughTo f old g) added (drop (length first) after) h.1) (λ i f g e k. goes f g (all_at (λ x. form_cell x ≡ None) added i f none e) (zip_at (λ x y. GoesThroughTo x old y) added (drop (length first) after) i f g h.1 e k)),
  )
  nums_after added (Some (form.Nums first)) (form.Enum r) none h = absurd h
  nums_after added (Some (form.Nums first)) (form.Int r) none h = absurd h
  nums_after added (Some (form.Nums first)) (form.Hold r) none h = absurd h
  nums_after added (Some (form.Nums first)) (form.Words r) none h = absurd h
  nums_after added (Some (form.Enum first)) r none h = absurd h
  nums_after added (Some (form.Int first)) r none h = absurd h
  nums_after added (Some (form.Hold first)) r none h = absurd h
  nums_after added (Some (form.Words first)) r none h = absurd h
  nums_after added None r none h = absurd h

  form_after : (c : ℕ) (g r : Form) → AddsConstants g → FormAfter forms lefts old c g r → FormAfter forms lefts new c g r
  form_after c (form.Enum (label.Const l)) r none h = h
  form_after c (form.Enum (label.Copy d)) r none h = h
  form_after c (form.Int f) r none h = h
  form_after c (form.Hold (hold.Const ps)) r none h = h
  form_after c (form.Hold (hold.Copy d)) r none h = h
  form_after c (form.Nums added) r none h = nums_after added (slice_get forms c) r none h
  form_after c (form.Words added) r none h = h

  pub all_can_come_by : (gs : List Form) → All AddsConstants gs → AllCanComeAfter forms lefts old gs → AllCanComeAfter forms lefts new gs
  all_can_come_by gs none h c g e = can_come c g (all_at AddsConstants gs c g none e) (h c g e)

  pub are_after_by : (gs rs : List Form) → All AddsConstants gs → AreAfter forms lefts old gs rs → AreAfter forms lefts new gs rs
  are_after_by gs rs none h = record { lengths = h.lengths; each = λ c g r e k. form_after c g r (all_at AddsConstants gs c g none e) (h.each c g r e k) }

-- ---- without a context

module _ (forms : List Form) (lefts : List Part) (context : IntForms) (gs : List Form) (known : All AddsConstants gs ⊎ IsContext forms lefts context) where
  -- The forms can come after those of a context that suits them,
  pub all_come : ((c : IntForms) → IsContext forms lefts c → AllCanComeAfter forms lefts c gs) → AllCanComeAfter forms lefts context gs
  all_come h = elim known [
    | inl none ↦ let (c, is) = some_context forms lefts in all_can_come_by forms lefts c context gs none (h c is)
    | inr is ↦ h context is
  ]

  -- and become what they do by one.
  pub next_is : (end : PathEnd) (rs : List Form) → end ≡ Next rs → AreAfter forms lefts context gs rs → AreNext forms lefts gs end
  next_is end rs e h = elim known [
    | inl none ↦ let (c, is) = some_context forms lefts in record { after = rs; is = e; context = c; known = is; become = are_after_by forms lefts context c gs rs none h }
    | inr is ↦ record { after = rs; is = e; context = context; known = is; become = h }
  ]
