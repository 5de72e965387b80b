-- Steps of the loops over the cells of two paths.
use Rattle.std.proofs.Common.{◌≡◌, ◌+◌, ℕ, List, [], ◌∷◌, ◌++◌, Option, Some, None, inl, inr, length, refl, sym, ap, ◌∙◌, subst, arith}
use Rattle.std.proofs.lemmas.Bool.{cases_eq}
use Rattle.std.specs.Prelude.{slice_get, slice_set}
use Rattle.sym_int.specs.declared.element.IntForms.{IntForms}
use Rattle.sym_int.specs.declared.form.IntForm.{IntForm}
use Rattle.sym_int.specs.declared.form.IntForm.TheVariants as number
use Rattle.sym_int.specs.declared.form.Line.{Line}
use Rattle.sym_enum.specs.declared.form.EnumForm.TheVariants as label
use Rattle.sym_pred.specs.declared.form.HoldForm.TheVariants as hold
use Rattle.sym_path.specs.declared.form.Form.{Form}
use Rattle.sym_path.specs.declared.form.Form.TheVariants as form
use Rattle.sym_int.specs.Elements.{Composes, IsComposed}
use Rattle.sym_path.specs.Kinds.{number_form_in}
use Rattle.sym_path.specs.FormsAfter.{part_spans, IsList, IsCopied, Copies, CopiedFrom, NeededFrom, LacksOnly, KeepsNeeded, IsNums, IsWords, CanLead, LedTo, CanComeAfter, NumsAfter, WordsAfter, FormAfter, KeepsOthers}
use Rattle.sym_path.specs.declared.part.Part.{Part}
use Rattle.sym_path.proofs.FollowingTaken.{int_map}
use Rattle.sym_path.proofs.Lists.{push_cases, set_other}

-- What holds of the items of two lists, with one more item at the end of the second.
pub push_next : {A B : Type 0} (R : ℕ → A → B → Type 0) (xs : List A) (items news : List B) (i : ℕ) (x : A) (y : B) → slice_get xs i ≡ Some x → R i x y → news ≡ items ++ y ∷ [] → length items ≡ i → ((c : ℕ) (a : A) (b : B) → slice_get xs c ≡ Some a → slice_get items c ≡ Some b → R c a b) → (c : ℕ) (a : A) (b : B) → slice_get xs c ≡ Some a → slice_get news c ≡ Some b → R c a b
push_next {A} {B} R xs items news i x y at r e l h c a b ea eb = elim (push_cases items y c b (ap (λ ys. slice_get ys c) (sym e) ∙ eb)) [
  | inl k ↦ h c a b ea k.1
  | inr k ↦
      let here : c ≡ i = k.0 ∙ l in
      let z : Some x ≡ Some a = sym at ∙ ap (λ n. slice_get xs n) (sym here) ∙ ea in
      let same : x ≡ a = cc in
      let P : B → Type 0 = λ v. R c a v in
      let Q : A → Type 0 = λ v. R c v y in
      let S : ℕ → Type 0 = λ n. R n x y in
      subst P (sym k.1) (subst Q same (subst S (sym here) r))
]

longer : {A : Type 0} (xs : List A) (y : A) → length (xs ++ y ∷ []) ≡ length xs + 1
longer [] y = refl
longer (x ∷ xs) y = let l = longer xs y in omega arith

pub push_length : {A : Type 0} (items news : List A) (i : ℕ) (y : A) → news ≡ items ++ y ∷ [] → length items ≡ i → length news ≡ i + 1
push_length items news i y e l = ap length e ∙ longer items y ∙ ap (λ n. n + 1) l

-- The form of a list, which is moved out.
pub nums_moved : (context : IntForms) (first added new : List IntForm) (o : Option Form) → Some (form.Nums first) ≡ o → NumsAfter context added (Some (form.Nums first)) (form.Nums new) → NumsAfter context added o (form.Nums new)
nums_moved context first added new o e h = subst (λ (k : Option Form). NumsAfter context added k (form.Nums new)) e h

pub words_moved : (first added new : List (List ℕ)) (o : Option Form) → Some (form.Words first) ≡ o → WordsAfter added (Some (form.Words first)) (form.Words new) → WordsAfter added o (form.Words new)
words_moved first added new o e h = subst (λ (k : Option Form). WordsAfter added k (form.Words new)) e h

-- A form that is put in the place of a list keeps the others.
pub list_replaced : (c : ℕ) (old new : List Form) (at there : Form) → new ≡ slice_set old c at → Some there ≡ slice_get old c → IsList there → KeepsOthers c old new
list_replaced c old new at there e h list d f is (inl other) = ap (λ fs. slice_get fs d) e ∙ set_other old c d at other ∙ is
list_replaced c old new at there e h list d f is (inr value) = elim (cases_eq d c) [
  | inl same ↦
      let z : Some f ≡ Some there = sym is ∙ ap (λ n. slice_get old n) same ∙ sym h in
      let own : f ≡ there = cc in
      absurd (value (subst (λ (k : Form). IsList k) (sym own) list))
  | inr other ↦ ap (λ fs. slice_get fs d) e ∙ set_other old c d at other ∙ is
]

-- ---- what is needed later

-- What a step keeps but for the form of its own list is needed later.
pub keeps_needed : (gs : List Form) (c : ℕ) (old new : List Form) → KeepsOthers c old new → KeepsNeeded gs c old new
keeps_needed gs c old new keeps d (form.Enum f) e h = keeps d (form.Enum f) e (inr (λ t. t))
keeps_needed gs c old new keeps d (form.Int f) e h = keeps d (form.Int f) e (inr (λ t. t))
keeps_needed gs c old new keeps d (form.Hold f) e h = keeps d (form.Hold f) e (inr (λ t. t))
keeps_needed gs c old new keeps d (form.Nums f) e h = keeps d (form.Nums f) e (inl (λ q. omega arith))
keeps_needed gs c old new keeps d (form.Words f) e h = keeps d (form.Words f) e (inl (λ q. omega arith))

pub same_needed : (gs : List Form) (c : ℕ) (old new : List Form) → new ≡ old → KeepsNeeded gs c old new
same_needed gs c old new same d f e h = ap (λ fs. slice_get fs d) same ∙ e

-- A form that is copied and moved out, where no later form copies it.
pub moved_needed : (gs : List Form) (n c : ℕ) (old new : List Form) → IsCopied (slice_get old c) → (CopiedFrom gs (n + 1) c → ⊥) → LacksOnly c old new → KeepsNeeded gs n old new
moved_needed gs n c old new is none lacks d f e h = elim (cases_eq d c) [
  | inl same ↦ absurd (none (subst (λ (k : ℕ). CopiedFrom gs (n + 1) k) same (copied f (subst (λ (o : Option Form). IsCopied o) (ap (λ k. slice_get old k) (sym same) ∙ e) is) h)))
  | inr other ↦ lacks d other ∙ e
]
  where
    copied : (f : Form) → IsCopied (Some f) → NeededFrom gs (n + 1) d f → CopiedFrom gs (n + 1) d
    copied (form.Enum f) is h = h
    copied (form.Int f) is h = absurd is
    copied (form.Hold f) is h = h
    copied (form.Nums f) is h = absurd is
    copied (form.Words f) is h = absurd is

needed_before : (gs : List Form) (n d : ℕ) (f : Form) → NeededFrom gs (n + 1) d f → NeededFrom gs n d f
needed_before gs n d (form.Enum f) h = let from = h.from in record { at = h.at; form = h.form; from = omega arith; has = h.has; copies = h.copies }
needed_before gs n d (form.Int f) h = tt
needed_before gs n d (form.Hold f) h = let from = h.from in record { at = h.at; form = h.form; from = omega arith; has = h.has; copies = h.copies }
needed_before gs n d (form.Nums f) h = omega arith
needed_before gs n d (form.Words f) h = omega arith

-- The forms of which those that are still needed are there.
module _ (gs start now : List Form) (c : ℕ) (kept : (d : ℕ) (f : Form) → slice_get start d ≡ Some f → NeededFrom gs c d f → slice_get now d ≡ Some f) where
  copy_same : (d : ℕ) → IsCopied (slice_get start d) → CopiedFrom gs c d → slice_get now d ≡ slice_get start d
  copy_same d h from = go (slice_get start d) refl h
    where
      go : (o : Option Form) → slice_get start d ≡ o → IsCopied o → slice_get now d ≡ slice_get start d
      go None e v = absurd v
      go (Some (form.Enum f)) e v = kept d (form.Enum f) e from ∙ sym e
      go (Some (form.Int f)) e v = absurd v
      go (Some (form.Hold f)) e v = kept d (form.Hold f) e from ∙ sym e
      go (Some (form.Nums f)) e v = absurd v
      go (Some (form.Words f)) e v = absurd v

  nums_same : IsNums (slice_get start c) → slice_get now c ≡ slice_get start c
  nums_same h = go (slice_get start c) refl h
    where
      go : (o : Option Form) → slice_get start c ≡ o → IsNums o → slice_get now c ≡ slice_get start c
      go None e v = absurd v
      go (Some (form.Enum f)) e v = absurd v
      go (Some (form.Int f)) e v = absurd v
      go (Some (form.Hold f)) e v = absurd v
      go (Some (form.Nums f)) e v = kept c (form.Nums f) e (omega arith) ∙ sym e
      go (Some (form.Words f)) e v = absurd v

  words_same : IsWords (slice_get start c) → slice_get now c ≡ slice_get start c
  words_same h = go (slice_get start c) refl h
    where
      go : (o : Option Form) → slice_get start c ≡ o → IsWords o → slice_get now c ≡ slice_get start c
      go None e v = absurd v
      go (Some (form.Enum f)) e v = absurd v
      go (Some (form.Int f)) e v = absurd v
      go (Some (form.Hold f)) e v = absurd v
      go (Some (form.Nums f)) e v = absurd v
      go (Some (form.Words f)) e v = kept c (form.Words f) e (omega arith) ∙ sym e

  led_same : (lefts : List Part) (line : Line) → CanLead start lefts (number.Line line) → slice_get now line.cell ≡ slice_get start line.cell
  led_same lefts line h = go (slice_get start line.cell) refl h
    where
      go : (o : Option Form) → slice_get start line.cell ≡ o → Composes (number.Line line) (number_form_in o) (part_spans lefts) → slice_get now line.cell ≡ slice_get start line.cell
      go None e v = absurd v
      go (Some (form.Enum f)) e v = absurd v
      go (Some (form.Int f)) e v = kept line.cell (form.Int f) e tt ∙ sym e
      go (Some (form.Hold f)) e v = absurd v
      go (Some (form.Nums f)) e v = absurd v
      go (Some (form.Words f)) e v = absurd v

  can_lead_now : (lefts : List Part) (f : IntForm) → CanLead start lefts f → CanLead now lefts f
  can_lead_now lefts (number.Const n) h = tt
  can_lead_now lefts (number.Line line) h = subst (λ (o : Option Form). Composes (number.Line line) (number_form_in o) (part_spans lefts)) (sym (led_same lefts line h)) h

  led_start : (lefts : List Part) (f g : IntForm) → CanLead start lefts f → LedTo now lefts f g → LedTo start lefts f g
  led_start lefts (number.Const n) g h t = t
  led_start lefts (number.Line line) g h t = subst (λ (o : Option Form). IsComposed (number.Line line) (number_form_in o) (part_spans lefts) g) (led_same lefts line h) t

  here : (d : ℕ) (g : Form) → slice_get gs c ≡ Some g → Copies d g → CopiedFrom gs c d
  here d g at copies = record { at = c; form = g; from = omega arith; has = at; copies = copies }

  pub can_come_now : (lefts : List Part) (context : IntForms) (f : Form) → slice_get gs c ≡ Some f → CanComeAfter start lefts context c f → CanComeAfter now lefts context c f
  can_come_now lefts context (form.Enum (label.Const l)) at h = tt
  can_come_now lefts context (form.Enum (label.Copy d)) at h = rw (copy_same d h (here d (form.Enum (label.Copy d)) at refl)) h
  can_come_now lefts context (form.Int f) at h = can_lead_now lefts f h
  can_come_now lefts context (form.Hold (hold.Const ps)) at h = tt
  can_come_now lefts context (form.Hold (hold.Copy d)) at h = rw (copy_same d h (here d (form.Hold (hold.Copy d)) at refl)) h
  can_come_now lefts context (form.Nums added) at h = (rw (nums_same h.0) h.0, h.1)
  can_come_now lefts context (form.Words added) at h = rw (words_same h) h

  pub after_start : (lefts : List Part) (context : IntForms) (f g : Form) → slice_get gs c ≡ Some f → CanComeAfter start lefts context c f → FormAfter now lefts context c f g → FormAfter start lefts context c f g
  after_start lefts context (form.Enum (label.Const l)) g at h t = t
  after_start lefts context (form.Enum (label.Copy d)) g at h t = sym (copy_same d h (here d (form.Enum (label.Copy d)) at refl)) ∙ t
  after_start lefts context (form.Int f) g at h t = int_map (LedTo now lefts f) (LedTo start lefts f) (λ k u. led_start lefts f k h u) g t
  after_start lefts context (form.Hold (hold.Const ps)) g at h t = t
  after_start lefts context (form.Hold (hold.Copy d)) g at h t = sym (copy_same d h (here d (form.Hold (hold.Copy d)) at refl)) ∙ t
  after_start lefts context (form.Nums added) g at h t = rw (nums_same h.0) at t
  after_start lefts context (form.Words added) g at h t = rw (words_same h) at t

  pub kept_next : (new : List Form) → KeepsNeeded gs c now new → (d : ℕ) (f : Form) → slice_get start d ≡ Some f → NeededFrom gs (c + 1) d f → slice_get new d ≡ Some f
  kept_next new keeps d f e h = keeps d f (kept d f e (needed_before gs c d f h)) h
