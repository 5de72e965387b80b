-- The definitions on logs and lists of partials, tried on examples.
use Rattle.std.specs.Prelude.{◌≡◌, ◌≤◌, refl, ℕ, List, [], ◌∷◌, Option, Some, None}
use Rattle.std.proofs.Common.{ap, sym, ◌∙◌, arith, lit≤, lit<}
use Rattle.sym_plain.specs.Shown.{last}
use Rattle.sym_watch.specs.declared.partial.Partial.{Partial}
use Rattle.sym_watch.specs.Logs.{grown}
use Rattle.sym_watch.specs.Partials.{Rises, MayFollow, last_border}
use Rattle.sym_watch.proofs.Rising.{rises_none, rises_more}

abbrev partial_to : ℕ → Partial
partial_to border = record { upto = border; rows = [] }

-- A log has what an observer was told of after what it had, in order. One that isn't seen stays so.
two_more : grown (partial_to 128 ∷ partial_to 130 ∷ []) (Some (partial_to 64 ∷ [])) ≡ Some (partial_to 64 ∷ partial_to 128 ∷ partial_to 130 ∷ [])
two_more = refl

first_one : grown (partial_to 64 ∷ []) (Some []) ≡ Some (partial_to 64 ∷ [])
first_one = refl

unseen : grown (partial_to 64 ∷ []) None ≡ None
unseen = refl

last_of_two : last_border (partial_to 64 ∷ partial_to 128 ∷ []) ≡ Some 128
last_of_two = refl

last_of_none : last_border [] ≡ None
last_of_none = refl

-- Borders may stand still and rise, and don't fall.
falls : Rises (partial_to 5 ∷ partial_to 9 ∷ partial_to 7 ∷ []) → ⊥
falls h = let fell : 9 ≤ 7 = h 1 2 (partial_to 0) (lit≤ tt) (lit< tt) in absurd (omega (arith, fell))

may_not_fall : MayFollow (partial_to 5 ∷ partial_to 9 ∷ []) (partial_to 8) → ⊥
may_not_fall may = let fell : 9 ≤ 8 = may (partial_to 9) refl in absurd (omega (arith, fell))

same_last : (list : List Partial) (p q : Partial) → last list ≡ Some p → last list ≡ Some q → p.upto ≡ q.upto
same_last list p q one other =
    let both : ◌≡◌ {A = Option Partial} (Some p) (Some q) = sym one ∙ other in
    let same : p ≡ q = cc in ap (λ (r : Partial). r.upto) same

may_begin : MayFollow [] (partial_to 5)
may_begin p is = absurd (cc is)

may_stand : MayFollow (partial_to 5 ∷ []) (partial_to 5)
may_stand p is = omega (arith, same_last (partial_to 5 ∷ []) (partial_to 5) p refl is)

may_rise : MayFollow (partial_to 5 ∷ partial_to 5 ∷ []) (partial_to 9)
may_rise p is = omega (arith, same_last (partial_to 5 ∷ partial_to 5 ∷ []) (partial_to 5) p refl is)

rises : Rises (partial_to 5 ∷ partial_to 5 ∷ partial_to 9 ∷ [])
rises = rises_more (partial_to 5 ∷ partial_to 5 ∷ []) (partial_to 9) (rises_more (partial_to 5 ∷ []) (partial_to 5) (rises_more [] (partial_to 5) rises_none may_begin) may_stand) may_rise
