-- Lists along which borders never fall.
use Rattle.std.proofs.Common.{◌≡◌, ℕ, ◌+◌, ◌-◌, ◌<◌, ◌≤◌, List, [], ◌∷◌, ◌++◌, length, get_or, Option, None, Some, slice_get, refl, ap, sym, subst, ◌∙◌, arith, length-append}
use Rattle.std.proofs.lemmas.List.Sorted.{IsNonDecreasingBy-push, IsNonDecreasingBy-take, IsNonDecreasingBy-short}
use Rattle.std.proofs.lemmas.Option.{slice_get-get_or}
use Rattle.std.proofs.Math.Seq.{get_or-append_seam}
use mathlib.Core.List.{IsPrefix}
use Rattle.sym_plain.specs.Shown.{last}
use Rattle.sym_watch.specs.declared.partial.Partial.{Partial}
use Rattle.sym_watch.specs.Partials.{Rises, MayFollow}
use Rattle.sym_watch.proofs.Prefixes.{prefix_take}

-- The empty list.
pub rises_none : Rises []
rises_none = IsNonDecreasingBy-short (λ (p : Partial). p.upto) [] (omega arith)

-- With a partial that may follow.
pub rises_more : (log : List Partial) (p : Partial) → Rises log → MayFollow log p
    → Rises (log ++ p ∷ [])
rises_more log p rises may =
    IsNonDecreasingBy-push (λ (q : Partial). q.upto) log p rises
    (λ d some. may (get_or log (length log - 1) d)
    (slice_get-get_or log (length log - 1) d (omega arith)))

-- A prefix.
pub rises_prefix : (xs ys : List Partial) → IsPrefix xs ys → Rises ys → Rises xs
rises_prefix xs ys p rises =
    subst Rises (sym (prefix_take xs ys p))
    (IsNonDecreasingBy-take (λ (q : Partial). q.upto) (length xs) ys rises)

-- The last item of a list that one was added to.
pub last_more : {A : Type 0} (xs : List A) (x : A) → last (xs ++ x ∷ []) ≡ Some x
last_more xs x =
    let long : length (xs ++ x ∷ []) - 1 ≡ length xs = omega (arith, length-append xs (x ∷ [])) in
    ap (λ n. slice_get (xs ++ x ∷ []) n) long
    ∙ slice_get-get_or (xs ++ x ∷ []) (length xs) x (omega (arith, length-append xs (x ∷ [])))
    ∙ ap Some (get_or-append_seam xs x [] x)

-- A list without a last item is empty.
pub last_none : {A : Type 0} (xs : List A) → last xs ≡ None → xs ≡ []
last_none [] none = refl
last_none (x ∷ xs) none =
    absurd (cc (sym (slice_get-get_or (x ∷ xs) (length (x ∷ xs) - 1) x (omega arith)) ∙ none))
