-- What the words show of the phases.
use Rattle.std.proofs.Common.{◌≡◌, ◌≢◌, ℕ, ◌/◌, ◌%◌, ◌<◌, ◌≤◌, Bool, true, false, not, cond, List, slice_index, eq-eqb, ne_eqb, sym, ap, ◌∙◌, subst, arith, Option}
use mathlib.Core.Option.{Option as Maybe}
use mathlib.Core.Logic.{dite}
use native.Mathlib.Decide.{ℕ_discrete}
use Rattle.sym_board.specs.Tree.{nodes, root, place, side}
use Rattle.sym_board.specs.State.{arrivals, sibling}
use Rattle.sym_board.specs.Core.{Phase, mark, Grown}
use Rattle.sym_board.proofs.Nodes.Laws.{at_node, at_inner}
use Rattle.sym_board.proofs.State.Phases.{mark_rank}

pub arrivals_root : (n : ℕ) (words : List ℕ) (k : ℕ) → k ≡ root n → arrivals n words k ≡ slice_index words n
arrivals_root n words k e = ap (λ b. cond b (slice_index words n) (cond (place n k).is_left (slice_index words (place n k).above % 2) (slice_index words (place n k).above / 2))) (eq-eqb k (root n) e)

pub arrivals_else : (n : ℕ) (words : List ℕ) (k : ℕ) → k ≢ root n → arrivals n words k ≡ cond (place n k).is_left (slice_index words (place n k).above % 2) (slice_index words (place n k).above / 2)
arrivals_else n words k ne = ap (λ b. cond b (slice_index words n) (cond (place n k).is_left (slice_index words (place n k).above % 2) (slice_index words (place n k).above / 2))) (ne_eqb k (root n) ne)

module _ (n : ℕ) (some_leaf : 0 < n) (few : n ≤ 64) where
  -- at a child of the inner node at m
  pub arrivals_side : (words : List ℕ) (m : ℕ) (b : Bool) → 0 < m → m < n → arrivals n words (side n m b) ≡ cond b (slice_index words m % 2) (slice_index words m / 2)
  arrivals_side words m b h near = let c = (at_inner n some_leaf few m h near).child b in
      arrivals_else n words (side n m b) c.not_root ∙ ap (λ d. cond d (slice_index words (place n (side n m b)).above % 2) (slice_index words (place n (side n m b)).above / 2)) c.side_is ∙ ap (λ l. cond b (slice_index words l % 2) (slice_index words l / 2)) c.above_is

  pub sibling_side : (m : ℕ) (b : Bool) → 0 < m → m < n → sibling n (side n m b) ≡ side n m (not b)
  sibling_side m b h near = let c = (at_inner n some_leaf few m h near).child b in ap (λ l. side n l (not (place n (side n m b)).is_left)) c.above_is ∙ ap (λ d. side n m (not d)) c.side_is

module _ {P I : Type 0} (stands : I → ℕ → ℕ → P → Type 0) (input : I) (n : ℕ) (some_leaf : 0 < n) (few : n ≤ 64) (phase : ℕ → Phase) (words : List ℕ) (homes : List (Maybe (Option P))) (g : Grown stands input n phase words homes) where
  word_mark : (m : ℕ) (b : Bool) → 0 < m → m < n → cond b (slice_index words m % 2) (slice_index words m / 2) ≡ mark (phase (side n m b))
  word_mark m true h near = let w = g.each_word m h near in let a : mark (phase (side n m true)) ≤ 1 = (mark_rank (phase (side n m true))).2 in omega arith
  word_mark m false h near = let w = g.each_word m h near in let a : mark (phase (side n m true)) ≤ 1 = (mark_rank (phase (side n m true))).2 in omega arith

  pub side_mark : (m : ℕ) (b : Bool) → 0 < m → m < n → arrivals n words (side n m b) ≡ mark (phase (side n m b))
  side_mark m b h near = arrivals_side n some_leaf few words m b h near ∙ word_mark m b h near

  -- a node has arrived exactly where its phase says so
  pub arrivals_mark : (k : ℕ) → k < nodes n → arrivals n words k ≡ mark (phase k)
  arrivals_mark k h = dite (ℕ_discrete k (root n))
      (λ e. arrivals_root n words k e ∙ g.crown ∙ ap (λ j. mark (phase j)) (sym e))
      (λ ne. let u = (at_node n some_leaf few k h).hangs ne in subst (λ j. arrivals n words j ≡ mark (phase j)) u.is_side (side_mark (place n k).above (place n k).is_left u.positive u.near))
