-- Lists of entries whose keys strictly rise: where a key stands, and what an edit at a place does.
use Rattle.std.proofs.Common.{◌≡◌, ℕ, zero, suc, ◌+◌, ◌<◌, ◌≤◌, Bool, true, false, cond, ◌&&◌, List, [], ◌∷◌, length, get_or, set, refl, sym, ap, subst, ◌∙◌, arith, Some, None}
use Rattle.std.specs.Prelude.{T}
use Rattle.std.proofs.lemmas.Option.{same_Some}
use Rattle.std.specs.declared.cmp.Ordering.{Ordering}
use Rattle.std.specs.declared.cmp.Ordering.TheVariants.{Less, Equal, Greater}
use Rattle.std.specs.Ordering.{is_lt, is_eq, eq_by_cmp, ordering_reverse}
use Rattle.std.specs.Cmp.{IsTotalOrder, tied_back, alike_right}
use Rattle.std.specs.List.{insert, remove}
use Rattle.std.specs.List.Sorted.{IsSortedBy}
use Rattle.std.specs.FinMap.{find, put, is_sorted}
use Rattle.std.specs.FinMap.Entries.{by_order, below_all}

pub T_both : (a b : Bool) → T a → T b → T (a && b)
T_both true b p q = q
T_both false b p q = p

pub T_first : (a b : Bool) → T (a && b) → T a
T_first true b p = tt
T_first false b p = p

pub T_second : (a b : Bool) → T (a && b) → T b
T_second true b p = p
T_second false b p = absurd p

pub is_Less : (r : Ordering) → T (is_lt r) → r ≡ Less
is_Less Less p = refl
is_Less Equal p = absurd p
is_Less Greater p = absurd p

pub is_Equal : (r : Ordering) → is_eq r ≡ true → r ≡ Equal
is_Equal Less p = cc
is_Equal Equal p = refl
is_Equal Greater p = cc

pub lt_is_Less : (r : Ordering) → is_lt r ≡ true → r ≡ Less
lt_is_Less Less p = refl
lt_is_Less Equal p = cc
lt_is_Less Greater p = cc

pub lt_Less : {r : Ordering} → r ≡ Less → T (is_lt r)
lt_Less e = subst (λ r. T (is_lt r)) (sym e) tt

module _ {K : Type 0} {R : K → K → Ordering} (o : IsTotalOrder R) where
  pub flipped : (x y : K) → R x y ≡ Less → R y x ≡ Greater
  flipped x y e = o.antisymm y x ∙ ap ordering_reverse e

  pub flipped_back : (x y : K) → R x y ≡ Greater → R y x ≡ Less
  flipped_back x y e = o.antisymm y x ∙ ap ordering_reverse e

module _ {K X : Type 0} {R : K → K → Ordering} (o : IsTotalOrder R) where
  -- ---- keys below the others

  pub below_less : (x y : K) (es : List (K × X)) → R x y ≡ Less → T (below_all R y es) → T (below_all R x es)
  below_less x y [] p h = tt
  below_less x y (e ∷ es) p h = T_both _ _ (lt_Less (o.trans x y e.0 p (is_Less _ (T_first _ _ h)))) (below_less x y es p (T_second _ _ h))

  pub below_tied : (x y : K) (es : List (K × X)) → R x y ≡ Equal → T (below_all R y es) → T (below_all R x es)
  below_tied x y [] p h = tt
  below_tied x y (e ∷ es) p h = T_both _ _ (subst (λ r. T (is_lt r)) (sym (o.congr x y e.0 p)) (T_first _ _ h)) (below_tied x y es p (T_second _ _ h))

  pub find_below : (q : K) (es : List (K × X)) → T (below_all R q es) → find R q es ≡ None
  find_below q [] h = refl
  find_below q (e ∷ es) h = ap (λ r. cond (is_eq r) (Some e.1) (find R q es)) (is_Less _ (T_first _ _ h)) ∙ find_below q es (T_second _ _ h)

  pub below-at : (x : K) (es : List (K × X)) (i : ℕ) (d : K × X) → T (below_all R x es) → i < length es → R x (get_or es i d).0 ≡ Less
  below-at x [] i d h p = absurd (omega arith)
  below-at x (e ∷ es) zero d h p = is_Less _ (T_first _ _ h)
  below-at x (e ∷ es) (suc i) d h p = below-at x es i d (T_second _ _ h) (omega arith)

  pub sorted-at : (es : List (K × X)) (i j : ℕ) (d : K × X) → T (is_sorted R es) → i < j → j < length es → R (get_or es i d).0 (get_or es j d).0 ≡ Less
  sorted-at [] i j d h p q = absurd (omega arith)
  sorted-at (e ∷ es) i zero d h p q = absurd (omega arith)
  sorted-at (e ∷ es) zero (suc j) d h p q = below-at e.0 es j d (T_first _ _ h) (omega arith)
  sorted-at (e ∷ es) (suc i) (suc j) d h p q = sorted-at es i j d (T_second _ _ h) (omega arith) (omega arith)

  -- Keys that rise from each place to the next are in order.
  pub sorted_from_adjacent : (es : List (K × X)) → ((k : ℕ) (d : K × X) → suc k < length es → R (get_or es k d).0 (get_or es (suc k) d).0 ≡ Less) → T (is_sorted R es)
  sorted_from_adjacent [] rises = tt
  sorted_from_adjacent (e ∷ []) rises = tt
  sorted_from_adjacent (e ∷ f ∷ es) rises =
      let rest = sorted_from_adjacent (f ∷ es) (λ k d p. rises (suc k) d (omega arith)) in
      let less = rises 0 e (omega arith) in
      T_both _ _ (T_both _ _ (lt_Less less) (below_less e.0 f.0 es less (T_first _ _ rest))) rest

  -- so that a binary search may be made
  pub sorted-IsSortedBy : (es : List (K × X)) → T (is_sorted R es) → IsSortedBy (λ x y. is_lt (R x.0 y.0)) es
  sorted-IsSortedBy es h k d low high = ap is_lt (flipped o _ _ (sorted-at es k (k + 1) d h (omega arith) high))

  -- ---- a key that stands at a place

  key_above : (e : K × X) (es : List (K × X)) (i : ℕ) (d : K × X) (q : K) → T (below_all R e.0 es) → i < length es → R (get_or es i d).0 q ≡ Equal → R q e.0 ≡ Greater
  key_above e es i d q h p t = flipped o e.0 q (sym (alike_right o _ q e.0 t) ∙ below-at e.0 es i d h p)

  pub find-at : (es : List (K × X)) (i : ℕ) (d : K × X) (q : K) → T (is_sorted R es) → i < length es → R (get_or es i d).0 q ≡ Equal → find R q es ≡ Some (get_or es i d).1
  find-at [] i d q h p t = absurd (omega arith)
  find-at (e ∷ es) zero d q h p t = ap (λ r. cond (is_eq r) (Some e.1) (find R q es)) (tied_back o e.0 q t)
  find-at (e ∷ es) (suc i) d q h p t =
      let inner : i < length es = omega arith in
      ap (λ r. cond (is_eq r) (Some e.1) (find R q es)) (key_above e es i d q (T_first _ _ h) inner t) ∙ find-at es i d q (T_second _ _ h) inner t

  pub put-at : (es : List (K × X)) (i : ℕ) (d : K × X) (q : K) (w : X) → T (is_sorted R es) → i < length es → R (get_or es i d).0 q ≡ Equal → put R q w es ≡ set es i ((get_or es i d).0, w)
  put-at [] i d q w h p t = absurd (omega arith)
  put-at (e ∷ es) zero d q w h p t = ap (λ r. by_order r ((q, w) ∷ e ∷ es) ((e.0, w) ∷ es) (e ∷ put R q w es)) (tied_back o e.0 q t)
  put-at (e ∷ es) (suc i) d q w h p t =
      let inner : i < length es = omega arith in
      ap (λ r. by_order r ((q, w) ∷ e ∷ es) ((e.0, w) ∷ es) (e ∷ put R q w es)) (key_above e es i d q (T_first _ _ h) inner t)
      ∙ ap (λ rest. e ∷ rest) (put-at es i d q w (T_second _ _ h) inner t)

  -- the place of a key that is found
  pub find-place : (es : List (K × X)) (q : K) (v : X) → find R q es ≡ Some v → (i : ℕ) × (i < length es) × ((d : K × X) → (R (get_or es i d).0 q ≡ Equal) × ((get_or es i d).1 ≡ v))
  find-place [] q v is = cc
  find-place (e ∷ es) q v is =
      elim (eq_by_cmp R q e.0) as (λ b. eq_by_cmp R q e.0 ≡ b → cond b (Some e.1) (find R q es) ≡ Some v → (i : ℕ) × (i < suc (length es)) × ((d : K × X) → (R (get_or (e ∷ es) i d).0 q ≡ Equal) × ((get_or (e ∷ es) i d).1 ≡ v))) [
        | true ↦ λ t is. (0, omega arith, λ d. (tied_back o q e.0 (is_Equal _ t), same_Some _ _ is))
        | false ↦ λ t is. let r = find-place es q v is in (suc r.0, (let p = r.1 in omega arith), r.2)
      ] refl is

  -- ---- a key that stands nowhere

  pub find-between : (es : List (K × X)) (i : ℕ) (q : K) → ((k : ℕ) (d : K × X) → k < i → R (get_or es k d).0 q ≡ Less) → ((k : ℕ) (d : K × X) → i ≤ k → k < length es → R (get_or es k d).0 q ≡ Greater) → find R q es ≡ None
  find-between [] i q below above = refl
  find-between (e ∷ es) zero q below above =
      ap (λ r. cond (is_eq r) (Some e.1) (find R q es)) (flipped_back o e.0 q (above 0 e (omega arith) (omega arith)))
      ∙ find-between es zero q (λ k d p. absurd (omega arith)) (λ k d p r. above (suc k) d (omega arith) (omega arith))
  find-between (e ∷ es) (suc i) q below above =
      ap (λ r. cond (is_eq r) (Some e.1) (find R q es)) (flipped o e.0 q (below 0 e (omega arith)))
      ∙ find-between es i q (λ k d p. below (suc k) d (omega arith)) (λ k d p r. above (suc k) d (omega arith) (omega arith))

  pub put-between : (es : List (K × X)) (i : ℕ) (q : K) (v : X) → i ≤ length es → ((k : ℕ) (d : K × X) → k < i → R (get_or es k d).0 q ≡ Less) → ((k : ℕ) (d : K × X) → i ≤ k → k < length es → R (get_or es k d).0 q ≡ Greater) → put R q v es ≡ insert es i (q, v)
  put-between [] zero q v p below above = refl
  put-between [] (suc i) q v p below above = absurd (omega arith)
  put-between (e ∷ es) zero q v p below above =
      ap (λ r. by_order r ((q, v) ∷ e ∷ es) ((e.0, v) ∷ es) (e ∷ put R q v es)) (flipped_back o e.0 q (above 0 e (omega arith) (omega arith)))
  put-between (e ∷ es) (suc i) q v p below above =
      ap (λ r. by_order r ((q, v) ∷ e ∷ es) ((e.0, v) ∷ es) (e ∷ put R q v es)) (flipped o e.0 q (below 0 e (omega arith)))
      ∙ ap (λ rest. e ∷ rest) (put-between es i q v (omega arith) (λ k d p. below (suc k) d (omega arith)) (λ k d p r. above (suc k) d (omega arith) (omega arith)))

  -- ---- without the entry at a place

  pub below-remove : (x : K) (es : List (K × X)) (i : ℕ) → T (below_all R x es) → T (below_all R x (remove es i))
  below-remove x [] zero h = tt
  below-remove x [] (suc i) h = tt
  below-remove x (e ∷ es) zero h = T_second _ _ h
  below-remove x (e ∷ es) (suc i) h = T_both _ _ (T_first _ _ h) (below-remove x es i (T_second _ _ h))

  pub sorted-remove : (es : List (K × X)) (i : ℕ) → T (is_sorted R es) → T (is_sorted R (remove es i))
  sorted-remove [] zero h = tt
  sorted-remove [] (suc i) h = tt
  sorted-remove (e ∷ es) zero h = T_second _ _ h
  sorted-remove (e ∷ es) (suc i) h = T_both _ _ (below-remove e.0 es i (T_first _ _ h)) (sorted-remove es i (T_second _ _ h))

  pub find-remove : (es : List (K × X)) (i : ℕ) (d : K × X) (q : K) → T (is_sorted R es) → i < length es → find R q (remove es i) ≡ cond (eq_by_cmp R q (get_or es i d).0) None (find R q es)
  find-remove [] i d q h p = absurd (omega arith)
  find-remove (e ∷ es) zero d q h p =
      elim (eq_by_cmp R q e.0) as (λ b. eq_by_cmp R q e.0 ≡ b → find R q es ≡ cond b None (cond b (Some e.1) (find R q es))) [
        | true ↦ λ t. find_below q es (below_tied q e.0 es (is_Equal _ t) (T_first _ _ h))
        | false ↦ λ t. refl
      ] refl
  find-remove (e ∷ es) (suc i) d q h p =
      let inner : i < length es = omega arith in
      elim (eq_by_cmp R q e.0) as (λ b. eq_by_cmp R q e.0 ≡ b → cond b (Some e.1) (find R q (remove es i)) ≡ cond (eq_by_cmp R q (get_or es i d).0) None (cond b (Some e.1) (find R q es))) [
        | true ↦ λ t. sym (ap (λ r. cond (is_eq r) None (Some e.1)) (o.congr q e.0 _ (is_Equal _ t) ∙ below-at e.0 es i d (T_first _ _ h) inner))
        | false ↦ λ t. find-remove es i d q (T_second _ _ h) inner
      ] refl
