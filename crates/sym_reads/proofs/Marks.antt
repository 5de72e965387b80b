-- Marks at the numbers of a list.
use Rattle.std.proofs.Common.{◌≡◌, ◌↔◌, ◌⊎◌, inl, inr, ⊎_elim, refl, ap, ◌∙◌, subst, ℕ, zero, suc, ◌<◌, Bool, true, false, List, [], ◌∷◌, length, replicate, Some, slice_get, slice_set, arith, length-set}
use Rattle.sym_check.specs.Plan.ScriptPlans.{ScriptPlan}
use Rattle.sym_check.specs.Plan.WellFormed.{IsWellFormed}
use Rattle.sym_reads.specs.NamedFields.{with_marks, named_fields}
use Rattle.sym_reads.specs.Naming.{NamesField}
use Rattle.sym_reads.proofs.Declared.{named_declared}
use Rattle.sym_reads.proofs.Listed.{IsIn, dos_listed, dos_named}

pub marks_length : (xs : List ℕ) (marks : List Bool) → length (with_marks xs marks) ≡ length marks
marks_length [] marks = refl
marks_length (x ∷ xs) marks = marks_length xs (slice_set marks x true) ∙ length-set marks x true

-- A mark that is there was there before, or has just been made.
set_found : (marks : List Bool) (j i : ℕ) → slice_get (slice_set marks j true) i ≡ Some true → (slice_get marks i ≡ Some true) ⊎ (i ≡ j)
set_found [] j i e = inl e
set_found (x ∷ marks) zero zero e = inr refl
set_found (x ∷ marks) zero (suc i) e = inl e
set_found (x ∷ marks) (suc j) zero e = inl e
set_found (x ∷ marks) (suc j) (suc i) e = ⊎_elim (λ (t : slice_get marks i ≡ Some true). inl t) (λ (t : i ≡ j). inr (ap suc t)) (set_found marks j i e)

set_kept : (marks : List Bool) (j i : ℕ) → slice_get marks i ≡ Some true → slice_get (slice_set marks j true) i ≡ Some true
set_kept [] j i e = e
set_kept (x ∷ marks) zero zero e = refl
set_kept (x ∷ marks) zero (suc i) e = e
set_kept (x ∷ marks) (suc j) zero e = e
set_kept (x ∷ marks) (suc j) (suc i) e = set_kept marks j i e

set_made : (marks : List Bool) (i : ℕ) → i < length marks → slice_get (slice_set marks i true) i ≡ Some true
set_made [] i lt = absurd (omega arith)
set_made (x ∷ marks) zero lt = refl
set_made (x ∷ marks) (suc i) lt = set_made marks i (omega arith)

found : (xs : List ℕ) (marks : List Bool) (i : ℕ) → slice_get (with_marks xs marks) i ≡ Some true → (slice_get marks i ≡ Some true) ⊎ IsIn i xs
found [] marks i e = inl e
found (x ∷ xs) marks i e =
    ⊎_elim
    (λ (t : slice_get (slice_set marks x true) i ≡ Some true). ⊎_elim (λ (u : slice_get marks i ≡ Some true). inl u) (λ (u : i ≡ x). inr (inl u)) (set_found marks x i t))
    (λ (t : IsIn i xs). inr (inr t))
    (found xs (slice_set marks x true) i e)

kept : (xs : List ℕ) (marks : List Bool) (i : ℕ) → slice_get marks i ≡ Some true → slice_get (with_marks xs marks) i ≡ Some true
kept [] marks i e = e
kept (x ∷ xs) marks i e = kept xs (slice_set marks x true) i (set_kept marks x i e)

made : (xs : List ℕ) (marks : List Bool) (i : ℕ) → i < length marks → IsIn i xs → slice_get (with_marks xs marks) i ≡ Some true
made [] marks i lt h = absurd h
made (x ∷ xs) marks i lt (inl e) = kept xs (slice_set marks x true) i (subst (λ (j : ℕ). slice_get (slice_set marks j true) i ≡ Some true) e (set_made marks i lt))
made (x ∷ xs) marks i lt (inr h) = let same : length (slice_set marks x true) ≡ length marks = length-set marks x true in made xs (slice_set marks x true) i (omega arith) h

-- Nothing is marked at first.
none_marked : (n i : ℕ) → slice_get (replicate n false) i ≡ Some true → ⊥
none_marked zero i e = cc
none_marked (suc n) zero e = cc
none_marked (suc n) (suc i) e = none_marked n i e

all_false : (n : ℕ) → length (replicate n false) ≡ n
all_false zero = refl
all_false (suc n) = ap suc (all_false n)

-- The marks at the fields that an update names, among as many as there are fields.
pub marked_exactly : (p : ScriptPlan) → IsWellFormed p → (i : ℕ) → (slice_get (with_marks (named_fields p) (replicate (length p.fields) false)) i ≡ Some true) ↔ NamesField p i
marked_exactly p w i = (
  λ e. ⊎_elim (λ (t : slice_get (replicate (length p.fields) false) i ≡ Some true). absurd (none_marked (length p.fields) i t)) (λ (t : IsIn i (named_fields p)). dos_named i p.update t) (found (named_fields p) (replicate (length p.fields) false) i e),
  λ h. let lt : i < length p.fields = named_declared p i w h in let same : length (replicate (length p.fields) false) ≡ length p.fields = all_false (length p.fields) in made (named_fields p) (replicate (length p.fields) false) i (omega arith) (dos_listed i p.update h),
)

pub marked_length : (p : ScriptPlan) → length (with_marks (named_fields p) (replicate (length p.fields) false)) ≡ length p.fields
marked_length p = marks_length (named_fields p) (replicate (length p.fields) false) ∙ all_false (length p.fields)

-- The marks that are made from none, for a plan that is the same as another one.
pub marks_are : (p q : ScriptPlan) (n : ℕ) (first marks : List Bool) → p ≡ q → n ≡ length p.fields → first ≡ replicate n false → marks ≡ with_marks (named_fields p) first → marks ≡ with_marks (named_fields q) (replicate (length q.fields) false)
marks_are p q n first marks same count none e =
    e
    ∙ ap (with_marks (named_fields p)) (none ∙ ap (λ (m : ℕ). replicate m false) count)
    ∙ ap (λ (s : ScriptPlan). with_marks (named_fields s) (replicate (length s.fields) false)) same
