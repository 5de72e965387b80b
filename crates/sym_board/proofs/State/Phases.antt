-- Phases of nodes, and one of them put in place of another.
use Rattle.std.proofs.Common.{◌≡◌, ◌≢◌, ℕ, ◌+◌, ◌<◌, ◌≤◌, ◌⊎◌, true, false, List, eqb, eq-eqb, ne_eqb, refl, sym, ap, ◌∙◌, subst, inl, inr, arith, Option, Some, None}
use Rattle.std.proofs.lemmas.Bool.Decides.{eqb_tells}
use mathlib.Core.Option.{Option as Maybe, some}
use lib.ListN.{get_elem?}
use Rattle.sym_board.specs.Core.{Phase, fresh, held, home, used, rank, mark, begins, Family, InPhase}

pub put : (ℕ → Phase) → ℕ → Phase → ℕ → Phase
put f k p j = elim (eqb j k) [ true ↦ p | false ↦ f j ]

pub put_here : (f : ℕ → Phase) (k : ℕ) (p : Phase) (j : ℕ) → j ≡ k → put f k p j ≡ p
unfolding put
put_here f k p j e = rw (eq-eqb j k e, put)

pub put_else : (f : ℕ → Phase) (k : ℕ) (p : Phase) (j : ℕ) → j ≢ k → put f k p j ≡ f j
unfolding put
put_else f k p j n = rw (ne_eqb j k n, put)

abbrev pub At : (ℕ → Phase) → ℕ → Phase → ℕ → Type 0
At f k p j = ((j ≡ k) × (put f k p j ≡ p)) ⊎ ((j ≢ k) × (put f k p j ≡ f j))

at_tells : (f : ℕ → Phase) (k : ℕ) (p : Phase) (j : ℕ) → ((eqb j k ≡ true) × (j ≡ k)) ⊎ ((eqb j k ≡ false) × (j ≢ k)) → At f k p j
at_tells f k p j (inl t) = inl (t.1, put_here f k p j t.1)
at_tells f k p j (inr t) = inr (t.1, put_else f k p j t.1)

pub at_put : (f : ℕ → Phase) (k : ℕ) (p : Phase) (j : ℕ) → At f k p j
at_put f k p j = at_tells f k p j (eqb_tells j k)

-- a number that the new phase shares with the old one is the same everywhere
pub put_same : (g : Phase → ℕ) (f : ℕ → Phase) (k : ℕ) (p : Phase) → g p ≡ g (f k) → (j : ℕ) → g (put f k p j) ≡ g (f j)
put_same g f k p e j = elim (at_put f k p j) as (λ _. g (put f k p j) ≡ g (f j)) [ inl t ↦ ap g t.1 ∙ e ∙ ap (λ i. g (f i)) (sym t.0) | inr t ↦ ap g t.1 ]

pub quiet : (p : Phase) → begins p ≡ 0 → p ≡ fresh
quiet fresh e = refl
quiet (held j) e = absurd (omega arith)
quiet home e = absurd (omega arith)
quiet used e = absurd (omega arith)

pub is_used : (p : Phase) → rank p ≡ 2 → p ≡ used
is_used fresh e = absurd (omega arith)
is_used (held j) e = absurd (omega arith)
is_used home e = absurd (omega arith)
is_used used e = refl

pub is_home : (p : Phase) → rank p ≡ 1 → p ≡ home
is_home fresh e = absurd (omega arith)
is_home (held j) e = absurd (omega arith)
is_home home e = refl
is_home used e = absurd (omega arith)

pub rank_few : (p : Phase) → rank p ≤ 2
rank_few fresh = omega arith
rank_few (held j) = omega arith
rank_few home = omega arith
rank_few used = omega arith

-- the mark is 0 exactly where the rank is
pub mark_rank : (p : Phase) → (mark p ≡ 0 → rank p ≡ 0) × (rank p ≡ 0 → mark p ≡ 0) × (mark p ≤ 1) × (rank p ≤ 2) × (0 < rank p → (begins p ≡ 1) × (mark p ≡ 1))
mark_rank fresh = (λ _. refl, λ _. refl, omega arith, omega arith, λ h. absurd (omega arith))
mark_rank (held j) = (λ _. refl, λ _. refl, omega arith, omega arith, λ h. absurd (omega arith))
mark_rank home = (λ e. absurd (omega arith), λ e. absurd (omega arith), omega arith, omega arith, λ _. (refl, refl))
mark_rank used = (λ e. absurd (omega arith), λ e. absurd (omega arith), omega arith, omega arith, λ _. (refl, refl))

-- begun and not arrived is held
pub is_held : (p : Phase) → begins p ≡ 1 → rank p ≡ 0 → (j : ℕ) × (p ≡ held j)
is_held fresh e d = absurd (omega arith)
is_held (held j) e d = (j, refl)
is_held home e d = absurd (omega arith)
is_held used e d = absurd (omega arith)

pub family_like : (l r p l2 r2 p2 : Phase) → rank l2 ≡ rank l → rank r2 ≡ rank r → begins p2 ≡ begins p → Family l r p → Family l2 r2 p2
family_like l r p l2 r2 p2 a b c (inl t) = inl (omega (arith, t.0), omega (arith, t.1))
family_like l r p l2 r2 p2 a b c (inr t) = inr (omega (arith, t.0), omega (arith, t.1))

-- where the node above has begun, both children are used
pub both_used : (l r p : Phase) → Family l r p → begins p ≡ 1 → (rank l ≡ 2) × (rank r ≡ 2)
both_used l r p (inl t) e = let a = rank_few l in let b = rank_few r in (omega (arith, t.0), omega (arith, t.0))
both_used l r p (inr t) e = absurd (omega (arith, t.1))

-- where one child isn't used, the node above hasn't begun
pub not_above : (l r p : Phase) → Family l r p → rank l + rank r < 4 → (begins p ≡ 0) × (rank l + rank r ≤ 1)
not_above l r p (inl t) h = absurd (omega (arith, t.0))
not_above l r p (inr t) h = (t.1, t.0)

module _ {P I : Type 0} (stands : I → ℕ → ℕ → P → Type 0) (input : I) (n : ℕ) where
  pub in_phase_same : (p : Phase) (before after : List (Maybe (Option P))) (k : ℕ) → get_elem? after k ≡ get_elem? before k → InPhase stands input n before k p → InPhase stands input n after k p
  in_phase_same fresh before after k e h = e ∙ h
  in_phase_same (held j) before after k e h = e ∙ h
  in_phase_same home before after k e h = (h.0, e ∙ h.1, h.2)
  in_phase_same used before after k e h = λ x d. h x (sym e ∙ d)

  pub in_phase : (p q : Phase) (homes : List (Maybe (Option P))) (k : ℕ) → p ≡ q → InPhase stands input n homes k p → InPhase stands input n homes k q
  in_phase p q homes k e h = subst (InPhase stands input n homes k) e h

pub not_some : {P : Type 0} (x : P) → ◌≡◌ {A = Maybe (Maybe (Option P))} (some (some None)) (some (some (Some x))) → ⊥
not_some x e = cc
