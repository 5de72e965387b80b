-- Reading items one after the other, as a loop does.
use Rattle.std.proofs.Common.{◌≡◌, ℕ, suc, ◌-◌, ◌+◌, ◌≤◌, ◌<◌, List, [], ◌∷◌, ◌++◌, drop, length, get_or, Some, None, refl, sym, ap, ◌∙◌, append_assoc, arith, add-one, drop-cons}
use Rattle.std.proofs.lemmas.List.{append-nil, drop_all}
use Rattle.sym_base.specs.declared.values.value.Key.{Key}
use Rattle.sym_check.specs.Plan.ScriptPlans.{ScriptPlan}
use Rattle.sym_run.specs.Chained.{Chained}
use Rattle.sym_run.specs.Runs.{added}
use Rattle.sym_file.specs.Reading.{Fails, Read, ◌>>=◌, each, group_at, groups_at, many}
use Rattle.sym_file.specs.declared.saved_err.SavedErr.{SavedErr}
use Rattle.sym_file.specs.declared.saved_err.SavedErr.TheVariants as error

module _ {A : Type 0} where
  -- What was read before, and what is still read.
  abbrev pub with_front : List A → Read (List A) → Read (List A)
  with_front front read = read >>= λ x. Some (front ++ x.0, x.1)

  regroup : (front : List A) (x : A) (read : Read (List A)) → with_front front (read >>= λ xs. Some (x ∷ xs.0, xs.1)) ≡ with_front (front ++ x ∷ []) read
  regroup front x (Some xs) = ap (λ (ys : List A). Some (ys, xs.1)) (sym (append_assoc front (x ∷ []) xs.0))
  regroup front x None = refl

  none_left : (front : List A) (bytes : List ℕ) → with_front front (Some ([], bytes)) ≡ Some (front, bytes)
  none_left front bytes = ap (λ (xs : List A). Some (xs, bytes)) (append-nil front)

  module _ (item : List ℕ → Read A) (front : List A) (count i : ℕ) (bytes : List ℕ) (total : Read (List A)) where
    pub goes_on : (x : A) (after : List ℕ) → i < count → item bytes ≡ Some (x, after) → with_front front (many item (count - i) bytes) ≡ total
        → with_front (front ++ x ∷ []) (many item (count - (i + 1)) after) ≡ total
    unfolding many
    goes_on x after lt h so_far =
        let k : count - i ≡ suc (count - (i + 1)) = omega (arith, lt) in
        let one : with_front front (many item (count - i) bytes) ≡ with_front (front ++ x ∷ []) (many item (count - (i + 1)) after) =
        rw (k, h) (regroup front x (many item (count - (i + 1)) after)) in
        sym one ∙ so_far

    pub stops : (e : SavedErr) → i < count → Fails e (item bytes) → with_front front (many item (count - i) bytes) ≡ total → Fails e total
    unfolding many
    stops error.OtherScript lt h so_far = h
    stops error.NoMemory lt h so_far = tt
    stops error.Malformed lt h so_far =
        let k : count - i ≡ suc (count - (i + 1)) = omega (arith, lt) in
        let one : with_front front (many item (count - i) bytes) ≡ None = rw (k, h) refl in
        sym so_far ∙ one

    pub is_done : count ≤ i → with_front front (many item (count - i) bytes) ≡ total → total ≡ Some (front, bytes)
    unfolding many
    is_done le so_far =
        let k : count - i ≡ 0 = omega (arith, le) in
        let one : with_front front (many item (count - i) bytes) ≡ Some (front, bytes) = rw k (none_left front bytes) in
        sym so_far ∙ one

  module _ {K : Type 0} (item : K → List ℕ → Read A) (front : List A) (ks : List K) (i : ℕ) (bytes : List ℕ) (total : Read (List A)) where
    pub each_goes_on : (k : K) (x : A) (after : List ℕ) → drop i ks ≡ k ∷ drop (i + 1) ks → item k bytes ≡ Some (x, after) → with_front front (each item (drop i ks) bytes) ≡ total
        → with_front (front ++ x ∷ []) (each item (drop (i + 1) ks) after) ≡ total
    unfolding each
    each_goes_on k x after there h so_far =
        let one : with_front front (each item (drop i ks) bytes) ≡ with_front (front ++ x ∷ []) (each item (drop (i + 1) ks) after) =
        ap (λ (rest : List K). with_front front (each item rest bytes)) there ∙ rw h (regroup front x (each item (drop (i + 1) ks) after)) in
        sym one ∙ so_far

    pub each_stops : (k : K) (e : SavedErr) → drop i ks ≡ k ∷ drop (i + 1) ks → Fails e (item k bytes) → with_front front (each item (drop i ks) bytes) ≡ total → Fails e total
    unfolding each
    each_stops k error.OtherScript there h so_far = h
    each_stops k error.NoMemory there h so_far = tt
    each_stops k error.Malformed there h so_far =
        let one : with_front front (each item (drop i ks) bytes) ≡ None = ap (λ (rest : List K). with_front front (each item rest bytes)) there ∙ rw h refl in
        sym so_far ∙ one

    pub each_done : length ks ≤ i → with_front front (each item (drop i ks) bytes) ≡ total → total ≡ Some (front, bytes)
    unfolding each
    each_done past so_far =
        let one : with_front front (each item (drop i ks) bytes) ≡ Some (front, bytes) = ap (λ (rest : List K). with_front front (each item rest bytes)) (drop_all i ks past) ∙ none_left front bytes in
        sym so_far ∙ one

-- The item at an index, before what is left.
pub left_from : {A : Type 0} (xs : List A) (i : ℕ) (x : A) → i < length xs → x ≡ get_or xs i x → drop i xs ≡ x ∷ drop (i + 1) xs
left_from xs i x within is = rw add-one (drop-cons xs i x within ∙ ap (λ y. y ∷ drop (suc i) xs) (sym is))

-- ---- groups, after those that are there
abbrev Group : Type 0
Group = Key × Chained

module _ (p : ScriptPlan) (count i : ℕ) (groups : List Group) (bytes : List ℕ) (total : Read (List Group)) where
  pub groups_go_on : (key : Key) (chain : Chained) (after : List ℕ) (more : List Group) → i < count → group_at p bytes ≡ Some ((key, chain), after) → added groups key chain ≡ Some more
      → groups_at p (count - i) groups bytes ≡ total → groups_at p (count - (i + 1)) more after ≡ total
  unfolding groups_at
  groups_go_on key chain after more lt h new so_far =
      let k : count - i ≡ suc (count - (i + 1)) = omega (arith, lt) in
      let one : groups_at p (count - i) groups bytes ≡ groups_at p (count - (i + 1)) more after = rw (k, h, new) refl in
      sym one ∙ so_far

  pub key_twice : (key : Key) (chain : Chained) (after : List ℕ) → i < count → group_at p bytes ≡ Some ((key, chain), after) → added groups key chain ≡ None
      → groups_at p (count - i) groups bytes ≡ total → total ≡ None
  unfolding groups_at
  key_twice key chain after lt h twice so_far =
      let k : count - i ≡ suc (count - (i + 1)) = omega (arith, lt) in
      let one : groups_at p (count - i) groups bytes ≡ None = rw (k, h, twice) refl in
      sym so_far ∙ one

  pub groups_stop : (e : SavedErr) → i < count → Fails e (group_at p bytes) → groups_at p (count - i) groups bytes ≡ total → Fails e total
  unfolding groups_at
  groups_stop error.OtherScript lt h so_far = h
  groups_stop error.NoMemory lt h so_far = tt
  groups_stop error.Malformed lt h so_far =
      let k : count - i ≡ suc (count - (i + 1)) = omega (arith, lt) in
      let one : groups_at p (count - i) groups bytes ≡ None = rw (k, h) refl in
      sym so_far ∙ one

  pub groups_done : count ≤ i → groups_at p (count - i) groups bytes ≡ total → total ≡ Some (groups, bytes)
  unfolding groups_at
  groups_done le so_far =
      let k : count - i ≡ 0 = omega (arith, le) in
      let one : groups_at p (count - i) groups bytes ≡ Some (groups, bytes) = rw k refl in
      sym so_far ∙ one
