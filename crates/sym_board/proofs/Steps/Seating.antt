-- Each step keeps the views in agreement with the phases and the counts.
use Rattle.std.proofs.Common.{◌≡◌, ◌≢◌, ℕ, ◌+◌, ◌<◌, ◌≤◌, ◌⊎◌, List, [], ◌∷◌, ◌++◌, set, refl, sym, ap, ◌∙◌, subst, inl, inr, ⊎_elim, eq-zero-or-pos, max, arith, Some, None, sum_by}
use Rattle.std.proofs.lemmas.Option.{none-some}
use mathlib.Core.Option.{some, some-injective}
use mathlib.Core.Logic.{dite}
use native.Mathlib.Decide.{ℕ_discrete}
use lib.ListN.{get_elem?}
use Rattle.atomic_table.proofs.Lists.{at_set, set_here, set_else, at_longer, at_snoc}
use Rattle.sym_board.specs.Tree.{nodes}
use Rattle.sym_board.specs.Lawful.{IsActive, IsEmpty}
use Rattle.sym_board.specs.Core.{Phase, held, Seated}
use Rattle.sym_board.specs.Steps.{less_one, one_pass, with_counts, spent}
use Rattle.sym_board.specs.declared.view.View.{View}
use Rattle.sym_board.proofs.State.Sums.{sum_set, at_below}
use Rattle.std.proofs.lemmas.List.Sums.{sum_by_push}

-- the sums a of claimed leaves and e of ended passes agree with the claim number
pub record Sums (n next a e : ℕ) : Type 0 where
  pub both : a + e ≡ next
  pub few : a ≤ n
  pub late : 0 < e → a ≡ n

module _ {I : Type 0} (input : I) (n seats : ℕ) (phase : ℕ → Phase) (next : ℕ) (views : List (View I)) (t : Seated input n seats phase next views) where
  pub sums : Sums n next (sum_by (λ (v : View I). v.claimed) views) (sum_by (λ (v : View I). v.ended) views)
  sums = record { both = t.claims_sum; few = t.leaves_sum; late = t.ended_late }

  -- One view changes, and the phases change only as its hand does.
  pub seated_set : (phase2 : ℕ → Phase) (next2 id : ℕ) (v w : View I) → get_elem? views id ≡ some v → IsActive input n seats w
      → ((k : ℕ) → w.hand ≡ Some k → phase2 k ≡ held id)
      → ((k : ℕ) → k < nodes n → phase2 k ≡ held id → w.hand ≡ Some k)
      → ((k j : ℕ) → j ≢ id → phase k ≡ held j → phase2 k ≡ held j)
      → ((k j : ℕ) → j ≢ id → phase2 k ≡ held j → phase k ≡ held j)
      → w.passes ≡ v.passes
      → ((a e a2 e2 : ℕ) → a2 + v.claimed ≡ a + w.claimed → e2 + v.ended ≡ e + w.ended → Sums n next a e → Sums n next2 a2 e2)
      → Seated input n seats phase2 next2 (set views id w)
  seated_set phase2 next2 id v w at active to from keep back passes add = let c = sum_set (λ (x : View I). x.claimed) views id v w at in let e = sum_set (λ (x : View I). x.ended) views id v w at in
      let s = add (sum_by (λ (x : View I). x.claimed) views) (sum_by (λ (x : View I). x.ended) views) (sum_by (λ (x : View I). x.claimed) (set views id w)) (sum_by (λ (x : View I). x.ended) (set views id w)) c e sums in
      record {
        each_view = λ j x h. ⊎_elim (λ p. inl (subst (IsActive input n seats) p.1 active)) (λ p. t.each_view j x p.1) (at_set views id j w x h);
        hand_held = λ j x k h d. ⊎_elim (λ p. to k (ap (λ (y : View I). y.hand) p.1 ∙ d) ∙ ap held (sym p.0)) (λ p. keep k j p.0 (t.hand_held j x k p.1 d)) (at_set views id j w x h);
        held_hand = λ k j h d. dite (ℕ_discrete j id)
            (λ p. (w, subst (λ i. get_elem? (set views id w) i ≡ some w) (sym p) (set_here views id w (at_below views id v at)), from k h (d ∙ ap held p)))
            (λ p. let o = t.held_hand k j h (back k j p d) in (o.0, set_else views id j w p ∙ o.1, o.2));
        passes_sum = let a = sum_set (λ (x : View I). x.passes) views id v w at in let b = t.passes_sum in omega arith;
        claims_sum = s.both;
        leaves_sum = s.few;
        ended_late = s.late;
      }

  active_of : (j : ℕ) (v : View I) → get_elem? views j ≡ some v → 0 < v.passes → IsActive input n seats v ⊎ IsEmpty v → IsActive input n seats v
  active_of j v at pos (inl a) = a
  active_of j v at pos (inr e) = let z = e.no_pass in absurd (omega arith)

  pub is_active : (j : ℕ) (v : View I) → get_elem? views j ≡ some v → 0 < v.passes → IsActive input n seats v
  is_active j v at pos = active_of j v at pos (t.each_view j v at)

  -- a view is cut in two
  pub seated_cut : (id : ℕ) (v : View I) → get_elem? views id ≡ some v → 1 < v.passes → v.ended ≡ 0 → Seated input n seats phase next (set views id (less_one v) ++ one_pass v ∷ [])
  seated_cut id v at two none_ended = let a = is_active id v at (omega arith) in let vs : List (View I) = set views id (less_one v) in
      let first : IsActive input n seats (less_one v) = record { input_is = a.input_is; leaves_is = a.leaves_is; seats_is = a.seats_is; some_pass = omega arith; few_ended = omega arith; ended_found = λ positive. absurd (omega arith); hand_near = a.hand_near } in
      let second : IsActive input n seats (one_pass v) = record { input_is = a.input_is; leaves_is = a.leaves_is; seats_is = a.seats_is; some_pass = omega arith; few_ended = omega arith; ended_found = λ positive. absurd (omega arith); hand_near = λ k e. absurd (none-some k e) } in
      let c = sum_set (λ (x : View I). x.claimed) views id v (less_one v) at in let c2 = sum_by_push (λ (x : View I). x.claimed) vs (one_pass v) in
      let e = sum_set (λ (x : View I). x.ended) views id v (less_one v) at in let e2 = sum_by_push (λ (x : View I). x.ended) vs (one_pass v) in
      let p = sum_set (λ (x : View I). x.passes) views id v (less_one v) at in let p2 = sum_by_push (λ (x : View I). x.passes) vs (one_pass v) in
      let s1 = t.passes_sum in let s2 = t.claims_sum in let s3 = t.leaves_sum in
      record {
        each_view = λ j x h. ⊎_elim (λ d. ⊎_elim (λ q. inl (subst (IsActive input n seats) q.1 first)) (λ q. t.each_view j x q.1) (at_set views id j (less_one v) x d)) (λ d. inl (subst (IsActive input n seats) d second)) (at_snoc vs (one_pass v) x j h);
        hand_held = λ j x k h d. ⊎_elim
            (λ f. ⊎_elim (λ q. t.hand_held j v k (subst (λ i. get_elem? views i ≡ some v) (sym q.0) at) (ap (λ (y : View I). y.hand) q.1 ∙ d)) (λ q. t.hand_held j x k q.1 d) (at_set views id j (less_one v) x f))
            (λ f. absurd (none-some k (ap (λ (y : View I). y.hand) f ∙ d))) (at_snoc vs (one_pass v) x j h);
        held_hand = λ k j h d. let o = t.held_hand k j h d in dite (ℕ_discrete j id)
            (λ q. (
              less_one v,
              at_longer vs (one_pass v ∷ []) j (less_one v) (subst (λ i. get_elem? vs i ≡ some (less_one v)) (sym q) (set_here views id (less_one v) (at_below views id v at))),
              ap (λ (y : View I). y.hand) (some-injective v o.0 (sym at ∙ ap (get_elem? views) (sym q) ∙ o.1)) ∙ o.2,
            ))
            (λ q. (o.0, at_longer vs (one_pass v ∷ []) j o.0 (set_else views id j (less_one v) q ∙ o.1), o.2));
        passes_sum = omega arith;
        claims_sum = omega arith;
        leaves_sum = omega arith;
        ended_late = λ pos. let late : 0 < sum_by (λ (x : View I). x.ended) views → sum_by (λ (x : View I). x.claimed) views ≡ n = t.ended_late in let got = late (omega arith) in omega arith;
      }

  -- a view takes in another one
  pub seated_join : (id other : ℕ) (v w : View I) → get_elem? views id ≡ some v → other ≢ id → get_elem? views other ≡ some w → 0 < v.passes → w.hand ≡ None → Seated input n seats phase next (set (set views id (with_counts v w)) other spent)
  seated_join id other v w at ne there pos no_hand = let a = is_active id v at pos in let both : View I = with_counts v w in let vs : List (View I) = set views id both in
      let there2 : get_elem? vs other ≡ some w = set_else views id other both ne ∙ there in
      let few_w : w.ended ≤ w.passes = ⊎_elim (λ (x : IsActive input n seats w). x.few_ended) (λ (x : IsEmpty w). let z = x.no_end in omega arith) (t.each_view other w there) in
      let found_w : 0 < w.ended → n ≤ w.claim_found = λ positive. ⊎_elim (λ (x : IsActive input n seats w). x.ended_found positive) (λ (x : IsEmpty w). let z = x.no_end in absurd (omega arith)) (t.each_view other w there) in
      let found : 0 < v.ended + w.ended → n ≤ max v.claim_found w.claim_found = λ positive. ⊎_elim (λ zero. let large = found_w (omega arith) in omega arith) (λ pos_v. let large = a.ended_found pos_v in omega arith) (eq-zero-or-pos v.ended) in
      let active : IsActive input n seats both = record { input_is = a.input_is; leaves_is = a.leaves_is; seats_is = a.seats_is; some_pass = omega arith; few_ended = let f = a.few_ended in omega arith; ended_found = found; hand_near = a.hand_near } in
      let empty : IsEmpty (spent {I = I}) = record { spent = refl; no_hand = refl; no_claim = refl; no_end = refl; no_pass = refl } in
      let c = sum_set (λ (x : View I). x.claimed) views id v both at in let c2 = sum_set (λ (x : View I). x.claimed) vs other w spent there2 in
      let e = sum_set (λ (x : View I). x.ended) views id v both at in let e2 = sum_set (λ (x : View I). x.ended) vs other w spent there2 in
      let p = sum_set (λ (x : View I). x.passes) views id v both at in let p2 = sum_set (λ (x : View I). x.passes) vs other w spent there2 in
      let s1 = t.passes_sum in let s2 = t.claims_sum in let s3 = t.leaves_sum in
      record {
        each_view = λ j x h. ⊎_elim (λ q. inr (subst IsEmpty q.1 empty)) (λ q. ⊎_elim (λ r. inl (subst (IsActive input n seats) r.1 active)) (λ r. t.each_view j x r.1) (at_set views id j both x q.1)) (at_set vs other j spent x h);
        hand_held = λ j x k h d. ⊎_elim (λ q. absurd (none-some k (ap (λ (y : View I). y.hand) q.1 ∙ d)))
            (λ q. ⊎_elim (λ r. t.hand_held j v k (subst (λ i. get_elem? views i ≡ some v) (sym r.0) at) (ap (λ (y : View I). y.hand) r.1 ∙ d)) (λ r. t.hand_held j x k r.1 d) (at_set views id j both x q.1)) (at_set vs other j spent x h);
        held_hand = λ k j h d. let o = t.held_hand k j h d in
            let far : j ≢ other = λ q. none-some k (sym no_hand ∙ ap (λ (y : View I). y.hand) (some-injective w o.0 (sym there ∙ ap (get_elem? views) (sym q) ∙ o.1)) ∙ o.2) in
            dite (ℕ_discrete j id)
            (λ q. (
              both,
              set_else vs other j spent far ∙ subst (λ i. get_elem? vs i ≡ some both) (sym q) (set_here views id both (at_below views id v at)),
              ap (λ (y : View I). y.hand) (some-injective v o.0 (sym at ∙ ap (get_elem? views) (sym q) ∙ o.1)) ∙ o.2,
            ))
            (λ q. (o.0, set_else vs other j spent far ∙ set_else views id j both q ∙ o.1, o.2));
        passes_sum = omega arith;
        claims_sum = omega arith;
        leaves_sum = omega arith;
        ended_late = λ pos2. let late : 0 < sum_by (λ (x : View I). x.ended) views → sum_by (λ (x : View I). x.claimed) views ≡ n = t.ended_late in let got = late (omega arith) in omega arith;
      }
