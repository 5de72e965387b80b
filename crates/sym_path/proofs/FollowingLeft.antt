-- A constraint that becomes what is left of it in place, cell by cell, beside forms that stay.
use Rattle.std.proofs.Common.{◌≡◌, ◌<◌, ◌≤◌, ◌+◌, ℕ, List, Some, inl, inr, length, refl, sym, ap, ◌∙◌, subst, arith}
use Rattle.std.proofs.lemmas.Bool.{cases_lt}
use Rattle.std.proofs.lemmas.Option.{slice_get_within}
use Rattle.std.specs.Prelude.{slice_get}
use Rattle.sym_path.specs.declared.part.Part.{Part}
use Rattle.sym_path.specs.declared.form.Form.{Form}
use Rattle.sym_path.specs.Left.{AreLeft, HasLeft, LeftAt, PartLeft}
use Rattle.sym_path.specs.Possible.{AllLeft}
use Rattle.sym_path.proofs.FollowingNarrowed.{set_length}
use Rattle.sym_path.proofs.Lists.{get_within, set_other, set_same}

module _ (forms : List Form) (needs old : List Part) where
  -- What is left of the cells below an index is in the place of their parts, and the others are as
  -- they were.
  pub record LeftBelow (i : ℕ) (now : List Part) : Type 0 where
    pub lengths : length now ≡ length old
    pub below : (c : ℕ) (p q : Part) → c < i → slice_get old c ≡ Some p → slice_get now c ≡ Some q → PartLeft forms needs c p q
    pub others : (c : ℕ) → i ≤ c → slice_get now c ≡ slice_get old c

  pub left_none : LeftBelow 0 old
  left_none = record {
    lengths = refl;
    below = λ c p q lt a b. absurd (let n = lt in omega (arith, n));
    others = λ c le. refl;
  }

  pub left_can : (i : ℕ) (now : List Part) → LeftBelow i now → i < length old → AllLeft old forms needs → HasLeft forms needs i now
  left_can i now h within all =
      let (p, is) = get_within old i within in
      record { part = p; is = h.others i (omega arith) ∙ is; some = all i p is }

  module _ (i : ℕ) (now new : List Part) (h : LeftBelow i now) (k : LeftAt forms needs i now new) where
    other : (c : ℕ) → (c ≡ i → ⊥) → slice_get new c ≡ slice_get now c
    other c away = ap (λ (ps : List Part). slice_get ps c) k.is ∙ set_other now i c k.left away

    here : (p q : Part) → slice_get old i ≡ Some p → slice_get new i ≡ Some q → PartLeft forms needs i p q
    here p q a b =
        let first : Some k.part ≡ Some p = sym k.was ∙ h.others i (omega arith) ∙ a in
        let second : Some k.left ≡ Some q = sym (set_same now i k.left k.part k.was) ∙ sym (ap (λ (ps : List Part). slice_get ps i) k.is) ∙ b in
        subst (λ (v : Part). PartLeft forms needs i p v) (some_is second) (subst (λ (v : Part). PartLeft forms needs i v k.left) (some_is first) k.some)
      where
        some_is : {v w : Part} → Some v ≡ Some w → v ≡ w
        some_is e = cc

    below_more : (c : ℕ) (p q : Part) → c < i + 1 → slice_get old c ≡ Some p → slice_get new c ≡ Some q → PartLeft forms needs c p q
    below_more c p q lt a b = elim (cases_lt c i) [
      | inl under ↦ h.below c p q under a (sym (other c (λ e. let u = under in omega (arith, u, e))) ∙ b)
      | inr over ↦
          let at : c ≡ i = omega (arith, lt, over) in
          subst (λ (d : ℕ). PartLeft forms needs d p q) (sym at) (here p q (sym (ap (λ (d : ℕ). slice_get old d) at) ∙ a) (sym (ap (λ (d : ℕ). slice_get new d) at) ∙ b))
    ]

    pub left_next : LeftBelow (i + 1) new
    left_next = record {
      lengths = ap length k.is ∙ set_length now i k.left ∙ h.lengths;
      below = below_more;
      others = λ c le. other c (λ e. omega (arith, le, e)) ∙ h.others c (omega (arith, le));
    }

  pub left_whole : (i : ℕ) (now : List Part) → LeftBelow i now → length old ≤ i → AreLeft forms needs old now
  left_whole i now h past = record {
    lengths = h.lengths;
    each = λ c p q a b. let within : c < length old = slice_get_within old c p a in h.below c p q (omega (arith, within, past)) a b;
  }
