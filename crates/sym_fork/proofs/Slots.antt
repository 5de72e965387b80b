-- Results that are put in slots, each at its index.
use Rattle.std.proofs.Common.{◌++◌, ◌∷◌, [], length-append, arith, ◌≡◌, ◌<◌, ℕ, Option, Some, IfSome, List, length, slice_index_or, slice_set, subst, sym, inl, inr, ap, ◌∙◌}
use Rattle.std.proofs.Math.Seq.{get_or-append_seam}
use Rattle.std.proofs.lemmas.Bool.{cases_eq, cases_lt}
use Rattle.std.proofs.lemmas.List.{get_or_append_left, get_or-set_other, get_or-set_same, length-set}
use Rattle.sym_fork.specs.Slots.{AreSlots}

-- Where what fits an index is put there, they are such slots still.
pub put_slot : {X : Type 0} (P : ℕ → X → Type 0) (slots : List (Option X)) (at : ℕ) (x : X)
    → at < length slots → P at x → AreSlots P slots
    → AreSlots P (slice_set slots at (Some x))
put_slot {X} P slots at x within fits all i d less =
    let lt : i < length slots = omega (arith, less, length-set slots at (Some x)) in
    elim (cases_eq i at) [
      | inl same ↦
          let put : slice_index_or (slice_set slots at (Some x)) i d ≡ Some x = ap (λ (k : ℕ). slice_index_or (slice_set slots at (Some x)) k d) same ∙ get_or-set_same slots at (Some x) d within in
          subst (λ (one : Option X). IfSome one (P i)) (sym put) (subst (λ (k : ℕ). P k x) (sym same) fits)
      | inr other ↦ subst (λ (one : Option X). IfSome one (P i)) (sym (get_or-set_other slots at i (Some x) d other)) (all i d lt)
    ]

-- Each result is what fits its index.
abbrev pub AreResults : {X : Type 0} → (ℕ → X → Type 0) → List X → Type 0
AreResults {X} P results = (i : ℕ) (d : X) → i < length results → P i (slice_index_or results i d)

-- Where what fits the next index is pushed, they are such results still.
pub push_result : {X : Type 0} (P : ℕ → X → Type 0) (results : List X) (x : X) → P (length results) x → AreResults P results → AreResults P (results ++ x ∷ [])
push_result {X} P results x fits all i d less =
    elim (cases_lt i (length results)) [
      | inl before ↦ subst (P i) (sym (get_or_append_left results (x ∷ []) d i before)) (all i d before)
      | inr after ↦
          let last : i ≡ length results = omega (arith, less, after, length-append results (x ∷ [])) in
          let is : slice_index_or (results ++ x ∷ []) i d ≡ x = ap (λ (k : ℕ). slice_index_or (results ++ x ∷ []) k d) last ∙ get_or-append_seam results x [] d in
          subst (P i) (sym is) (subst (λ (k : ℕ). P k x) (sym last) fits)
    ]
