-- Each step leads from an orderly state to an orderly one.
use Rattle.std.proofs.Common.{◌≡◌, ◌≢◌, ℕ, ◌+◌, ◌<◌, ◌≤◌, Bool, true, false, not, List, slice_index, set, get_or-set_same, get_or-set_other, refl, sym, ap, ◌∙◌, subst, ⊎_elim, eq-zero-or-pos, arith, sum_by, Option, Some, None}
use Rattle.std.proofs.lemmas.Option.{none-some, same_Some}
use mathlib.Core.Option.{Option as Maybe, some, none, some-injective}
use lib.ListN.{get_elem?}
use Rattle.atomic_table.specs.Table.{State}
use Rattle.sym_board.specs.Tree.{leaf, inner, nodes, root, side}
use Rattle.sym_board.specs.State.{arrivals}
use Rattle.sym_board.specs.Lawful.{IsActive}
use Rattle.sym_board.specs.Core.{Phase, fresh, held, home, used, rank, mark, Grown, Seated, Orderly}
use Rattle.sym_board.specs.Steps.{bit, with_leaf, with_end, with_hand, ClaimsLeaf, ClaimsNone, Claims, ArrivesFirst, ArrivesSecond, Crowns, Splits, Joins, Step, claim, arrive_first, arrive_second, crown, split, join, close}
use Rattle.sym_board.specs.declared.view.View.{View}
use Rattle.sym_board.proofs.State.Phases.{put, put_here, put_else, at_put, quiet, is_home, mark_rank, not_above}
use Rattle.sym_board.proofs.State.Sums.{sum_one}
use Rattle.sym_board.proofs.State.Arrivals.{side_mark}
use Rattle.sym_board.proofs.Steps.Growing.{sides_sum, grown_claim, grown_past, grown_first, grown_second, grown_crown, raised, parent, child, other, raised_tells, raised_above, above_fresh}
use Rattle.sym_board.proofs.Steps.Seating.{seated_set, seated_cut, seated_join, is_active}

fresh_held : (j : ℕ) → fresh ≡ held j → ⊥
fresh_held j e = cc

home_held : (j : ℕ) → home ≡ held j → ⊥
home_held j e = cc

used_held : (j : ℕ) → used ≡ held j → ⊥
used_held j e = cc

pub same_held : (i j : ℕ) → held i ≡ held j → i ≡ j
same_held i j e = cc

module _ {P I : Type 0} (stands : I → ℕ → ℕ → P → Type 0) (input : I) (n seats : ℕ) (s t : State (Option P) (View I)) (id : ℕ) (v : View I) (o : Orderly stands input n seats s) (at : get_elem? s.views id ≡ some v) (pos : 0 < v.passes) where
  assembled : (phase2 : ℕ → Phase) (words : List ℕ) (homes : List (Maybe (Option P))) (views : List (View I)) (next2 : ℕ) → Grown stands input n phase2 words homes → Seated input n seats phase2 next2 views → slice_index words 0 ≡ next2 → t.words ≡ words → t.homes ≡ homes → t.views ≡ views → Orderly stands input n seats t
  assembled phase2 words homes views next2 g sd zeroth a b c = record {
    some_leaf = o.some_leaf;
    few = o.few;
    few_seats = o.few_seats;
    phase = phase2;
    grown = subst (λ w. Grown stands input n phase2 w t.homes) (sym a) (subst (λ h. Grown stands input n phase2 words h) (sym b) g);
    seated = subst (λ k. Seated input n seats phase2 k t.views) (sym (ap (λ w. slice_index w 0) a ∙ zeroth)) (subst (Seated input n seats phase2 next2) (sym c) sd);
  }

  me : IsActive input n seats v
  me = is_active input n seats o.phase (slice_index s.words 0) s.views o.seated id v at pos

  -- what this seat holds is in its hand
  mine : (k : ℕ) → k < nodes n → o.phase k ≡ held id → v.hand ≡ Some k
  mine k h d = let w = o.seated.held_hand k id h d in ap (λ (x : View I). x.hand) (some-injective v w.0 (sym at ∙ w.1)) ∙ w.2

  -- where a leaf is open this view counts no ended pass
  none_found : {A : Type 0} → slice_index s.words 0 < n → 0 < v.ended → A
  none_found below positive = let one = sum_one (λ (x : View I). x.ended) s.views id v at in let late : 0 < sum_by (λ (x : View I). x.ended) s.views → sum_by (λ (x : View I). x.claimed) s.views ≡ n = o.seated.ended_late in
      let all = late (omega arith) in let both = o.seated.claims_sum in absurd (omega arith)

  keeps_leaf : Claims n s t id v → ClaimsLeaf n s t id v → Orderly stands input n seats t
  keeps_leaf c l = let next : ℕ = slice_index s.words 0 in let below : next < n = l.below in let k0 : ℕ = leaf next in let w : View I = with_leaf v next in
      let calm : o.phase k0 ≡ fresh = quiet (o.phase k0) (o.grown.leaf_fresh next below (omega arith)) in
      let active : IsActive input n seats w = record { input_is = me.input_is; leaves_is = me.leaves_is; seats_is = me.seats_is; some_pass = pos; few_ended = me.few_ended; ended_found = none_found below; hand_near = λ k e. let d : k0 ≡ k = same_Some k0 k e in omega arith } in
      assembled (put o.phase k0 (held id)) (set s.words 0 (next + 1)) (set s.homes k0 none) (set s.views id w) (next + 1)
      (grown_claim stands input n o.some_leaf o.few o.phase s.words s.homes o.grown id below)
      (seated_set input n seats o.phase next s.views o.seated (put o.phase k0 (held id)) (next + 1) id v w at active
      (λ k e. put_here o.phase k0 (held id) k (sym (same_Some k0 k e)))
      (λ k h e. ⊎_elim (λ p. ap Some (sym p.0)) (λ p. absurd (none-some k (sym c.no_hand ∙ mine k h (sym p.1 ∙ e)))) (at_put o.phase k0 (held id) k))
      (λ k j ne e. put_else o.phase k0 (held id) k (λ q. fresh_held j (sym calm ∙ ap o.phase (sym q) ∙ e)) ∙ e)
      (λ k j ne e. ⊎_elim (λ p. absurd (ne (sym (same_held id j (sym p.1 ∙ e))))) (λ p. sym p.1 ∙ e) (at_put o.phase k0 (held id) k))
      refl
      (λ a e a2 e2 x y z. let z1 = z.both in let z2 = z.late in record { both = omega arith; few = let q : 0 < e → a ≡ n = z2 in omega arith; late = λ u. let q : 0 < e → a ≡ n = z2 in omega arith }))
      (get_or-set_same s.words 0 (next + 1) 0 (omega (arith, o.grown.wide))) c.words_are l.homes_are l.views_are

  keeps_none : Claims n s t id v → ClaimsNone n s t id v → Orderly stands input n seats t
  keeps_none c l = let next : ℕ = slice_index s.words 0 in let past : n ≤ next = l.past in let w : View I = with_end v next in
      let active : IsActive input n seats w = record { input_is = me.input_is; leaves_is = me.leaves_is; seats_is = me.seats_is; some_pass = pos; few_ended = let q = c.not_ended in omega arith; ended_found = λ _. past; hand_near = me.hand_near } in
      assembled o.phase (set s.words 0 (next + 1)) s.homes (set s.views id w) (next + 1)
      (grown_past stands input n o.some_leaf o.few o.phase s.words s.homes o.grown past)
      (seated_set input n seats o.phase next s.views o.seated o.phase (next + 1) id v w at active
      (λ k e. o.seated.hand_held id v k at e) (λ k h e. mine k h e) (λ k j ne e. e) (λ k j ne e. e) refl
      (λ a e a2 e2 x y z. let z1 = z.both in let z2 : 0 < e → a ≡ n = z.late in let z3 = z.few in record { both = omega arith; few = omega arith; late = λ u. ⊎_elim (λ q. omega arith) (λ q. let r = z2 q in omega arith) (eq-zero-or-pos e) }))
      (get_or-set_same s.words 0 (next + 1) 0 (omega (arith, o.grown.wide))) c.words_are l.homes_are l.views_are

  keeps_claim : Claims n s t id v → Orderly stands input n seats t
  keeps_claim c = ⊎_elim (keeps_leaf c) (keeps_none c) c.found

  -- the views after the hand was emptied, and its node went home
  emptied : (k0 r : ℕ) → v.hand ≡ Some k0 → Seated input n seats (put o.phase k0 home) (slice_index s.words 0) (set s.views id (with_hand v None r))
  emptied k0 r hand = let next : ℕ = slice_index s.words 0 in let here : o.phase k0 ≡ held id = o.seated.hand_held id v k0 at hand in
      let active : IsActive input n seats (with_hand v None r) = record { input_is = me.input_is; leaves_is = me.leaves_is; seats_is = me.seats_is; some_pass = pos; few_ended = me.few_ended; ended_found = me.ended_found; hand_near = λ k e. absurd (none-some k e) } in
      seated_set input n seats o.phase next s.views o.seated (put o.phase k0 home) next id v (with_hand v None r) at active
      (λ k e. absurd (none-some k e))
      (λ k h e. ⊎_elim (λ p. absurd (home_held id (sym p.1 ∙ e))) (λ p. absurd (p.0 (same_Some k k0 (sym (mine k h (sym p.1 ∙ e)) ∙ hand)))) (at_put o.phase k0 home k))
      (λ k j ne e. put_else o.phase k0 home k (λ q. ne (sym (same_held id j (sym here ∙ ap o.phase (sym q) ∙ e)))) ∙ e)
      (λ k j ne e. ⊎_elim (λ p. absurd (home_held j (sym p.1 ∙ e))) (λ p. sym p.1 ∙ e) (at_put o.phase k0 home k))
      refl (λ a e a2 e2 x y z. let z1 = z.both in let z2 : 0 < e → a ≡ n = z.late in let z3 = z.few in record { both = omega arith; few = omega arith; late = λ u. omega arith })

  keeps_first : ArrivesFirst stands input n s t id v → Orderly stands input n seats t
  keeps_first c = let m : ℕ = c.parent in let b : Bool = c.is_left in let near : m < n = c.near in let h : 0 < m = c.positive in
      assembled (put o.phase (side n m b) home) (set s.words m (slice_index s.words m + bit b)) t.homes (set s.views id (with_hand v None (slice_index s.words m))) (slice_index s.words 0)
      (grown_first stands input n o.some_leaf o.few o.phase s.words s.homes o.grown id m b c.piece t.homes h near (o.seated.hand_held id v (side n m b) at c.hand_is)
      (sym (side_mark stands input n o.some_leaf o.few o.phase s.words s.homes o.grown m (not b) h near) ∙ c.alone) c.homes_are c.piece_stands)
      (emptied (side n m b) (slice_index s.words m) c.hand_is)
      (get_or-set_other s.words m 0 (slice_index s.words m + bit b) 0 (λ e. absurd (omega arith))) c.words_are refl c.views_are

  keeps_crown : Crowns stands input n s t id v → Orderly stands input n seats t
  keeps_crown c = let some_leaf = o.some_leaf in assembled (put o.phase (root n) home) (set s.words n 1) t.homes (set s.views id (with_hand v None (slice_index s.words n))) (slice_index s.words 0)
      (grown_crown stands input n o.some_leaf o.few o.phase s.words s.homes o.grown id c.piece t.homes (o.seated.hand_held id v (root n) at c.hand_is) c.homes_are c.piece_stands)
      (emptied (root n) (slice_index s.words n) c.hand_is)
      (get_or-set_other s.words n 0 1 0 (λ e. absurd (omega arith))) c.words_are refl c.views_are

  -- a sibling that has arrived rests at home where this node is in the hand
  pub met_home : (m : ℕ) (b : Bool) → 0 < m → m < n → o.phase (side n m b) ≡ held id → arrivals n s.words (side n m (not b)) ≡ 1 → o.phase (side n m (not b)) ≡ home
  met_home m b h near here met = let q : ℕ = side n m (not b) in
      let marked : mark (o.phase q) ≡ 1 = sym (side_mark stands input n o.some_leaf o.few o.phase s.words s.homes o.grown m (not b) h near) ∙ met in
      let zero : rank (o.phase (side n m b)) ≡ 0 = ap rank here in
      let sum = sides_sum stands input n o.some_leaf o.few o.phase s.words s.homes o.grown (λ j. rank (o.phase j)) m b in
      let q_rank = mark_rank (o.phase q) in
      let q_some : rank (o.phase q) ≢ 0 = λ e. let z = q_rank.1 e in absurd (omega arith) in
      let q_few : rank (o.phase q) ≤ 2 = q_rank.3 in
      let up = not_above (o.phase (side n m true)) (o.phase (side n m false)) (o.phase (inner m)) (o.grown.each_family m h near) (omega arith) in
      let sum_few = up.1 in is_home (o.phase q) (omega arith)

  keeps_second : ArrivesSecond n s t id v → Orderly stands input n seats t
  keeps_second c = let m : ℕ = c.parent in let b : Bool = c.is_left in let near : m < n = c.near in let h : 0 < m = c.positive in let next : ℕ = slice_index s.words 0 in
      let here : o.phase (side n m b) ≡ held id = o.seated.hand_held id v (side n m b) at c.hand_is in
      let met : o.phase (side n m (not b)) ≡ home = met_home m b h near here c.met in
      let calm : o.phase (inner m) ≡ fresh = above_fresh stands input n o.some_leaf o.few o.phase s.words s.homes o.grown id m b h near here met in
      let ph : ℕ → Phase = raised stands input n o.some_leaf o.few o.phase s.words s.homes o.grown id m b in
      let tells = raised_tells stands input n o.some_leaf o.few o.phase s.words s.homes o.grown id m b in
      let w : View I = with_hand v (Some (inner m)) (slice_index s.words m) in
      let active : IsActive input n seats w = record { input_is = me.input_is; leaves_is = me.leaves_is; seats_is = me.seats_is; some_pass = pos; few_ended = me.few_ended; ended_found = me.ended_found; hand_near = λ k e. let d : inner m ≡ k = same_Some (inner m) k e in omega arith } in
      assembled ph (set s.words m (slice_index s.words m + bit b)) t.homes (set s.views id w) next
      (grown_second stands input n o.some_leaf o.few o.phase s.words s.homes o.grown id m b t.homes h near here met c.homes_are)
      (seated_set input n seats o.phase next s.views o.seated ph next id v w at active
      (λ k e. ap ph (sym (same_Some (inner m) k e)) ∙ raised_above stands input n o.some_leaf o.few o.phase s.words s.homes o.grown id m b)
      (λ k hk e. elim (tells k) as (λ _. w.hand ≡ Some k) [ parent q d ↦ ap Some (sym q) | child q y d ↦ absurd (used_held id (sym d ∙ e)) | other q y z d ↦ absurd (y (same_Some k (side n m b) (sym (mine k hk (sym d ∙ e)) ∙ c.hand_is))) ])
      (λ k j ne e. elim (tells k) as (λ _. ph k ≡ held j) [ parent q d ↦ absurd (fresh_held j (sym calm ∙ ap o.phase (sym q) ∙ e)) | child q y d ↦ absurd (⊎_elim (λ u. ne (sym (same_held id j (sym here ∙ ap o.phase (sym u) ∙ e)))) (λ u. home_held j (sym met ∙ ap o.phase (sym u) ∙ e)) y) | other q y z d ↦ d ∙ e ])
      (λ k j ne e. elim (tells k) as (λ _. o.phase k ≡ held j) [ parent q d ↦ absurd (ne (sym (same_held id j (sym d ∙ e)))) | child q y d ↦ absurd (used_held j (sym d ∙ e)) | other q y z d ↦ sym d ∙ e ])
      refl (λ a e a2 e2 x y z. let z1 = z.both in let z2 : 0 < e → a ≡ n = z.late in let z3 = z.few in record { both = omega arith; few = omega arith; late = λ u. omega arith }))
      (get_or-set_other s.words m 0 (slice_index s.words m + bit b) 0 (λ e. absurd (omega arith))) c.words_are refl c.views_are

  keeps_split : Splits s t id v → Orderly stands input n seats t
  keeps_split c = assembled o.phase s.words s.homes _ (slice_index s.words 0) o.grown (seated_cut input n seats o.phase (slice_index s.words 0) s.views o.seated id v at c.two c.none_ended) refl c.words_are c.homes_are c.views_are

  keeps_join : Joins s t id v → Orderly stands input n seats t
  keeps_join c = assembled o.phase s.words s.homes _ (slice_index s.words 0) o.grown (seated_join input n seats o.phase (slice_index s.words 0) s.views o.seated id c.other v c.gone at c.distinct c.there pos c.no_hand) refl c.words_are c.homes_are c.views_are

  pub step_keeps : Step stands input n s t id v → Orderly stands input n seats t
  step_keeps (claim c) = keeps_claim c
  step_keeps (arrive_first c) = keeps_first c
  step_keeps (arrive_second c) = keeps_second c
  step_keeps (crown c) = keeps_crown c
  step_keeps (split c) = keeps_split c
  step_keeps (join c) = keeps_join c
  step_keeps (close c) = subst (Orderly stands input n seats) (sym c.same) o
