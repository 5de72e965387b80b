-- A lawful state is orderly: its nodes' phases can be read from it. So lawful and orderly states are the same, and steps keep states lawful.
use Rattle.std.proofs.Common.{◌≡◌, ◌≢◌, ℕ, ◌+◌, ◌*◌, ◌<◌, ◌≤◌, Bool, true, false, not, slice_index, refl, sym, ap, ◌∙◌, subst, inl, inr, ⊎_elim, arith, Option, Some}
use Rattle.std.proofs.lemmas.Option.{none-some}
use mathlib.Core.Option.{some}
use mathlib.Core.Logic.{dite}
use native.Mathlib.Decide.{dec_lt, ℕ_discrete}
use lib.ListN.{get_elem?}
use Rattle.atomic_table.specs.Table.{State}
use Rattle.sym_board.specs.Tree.{leaf, inner, nodes, root, place, side}
use Rattle.sym_board.specs.State.{arrivals, sibling, HasBegun, IsInHand}
use Rattle.sym_board.specs.Lawful.{IsActive, IsEmpty, IsFresh, IsHeld, HasArrived, IsLawful}
use Rattle.sym_board.specs.Core.{Phase, fresh, held, home, used, rank, mark, begins, Family, InPhase, Orderly}
use Rattle.sym_board.specs.Steps.{Step}
use Rattle.sym_board.specs.declared.view.View.{View}
use Rattle.sym_board.proofs.Nodes.Laws.{at_node, at_inner, root_near}
use Rattle.sym_board.proofs.State.Arrivals.{arrivals_root, arrivals_side, sibling_side}
use Rattle.sym_board.proofs.Steps.Growing.{not_inner}
use Rattle.sym_board.proofs.Steps.Keeping.{same_held, step_keeps}
use Rattle.sym_board.proofs.State.Lawful.{lawful}
use Rattle.sym_board.proofs.State.Chunks.{begun_or, one_or_none, sides_arrived}

fresh_held : (j : ℕ) → fresh ≡ held j → ⊥
fresh_held j e = cc

home_held : (j : ℕ) → home ≡ held j → ⊥
home_held j e = cc

used_held : (j : ℕ) → used ≡ held j → ⊥
used_held j e = cc

module _ {P I : Type 0} (stands : I → ℕ → ℕ → P → Type 0) (input : I) (n seats : ℕ) (some_leaf : 0 < n) (few : n ≤ 64) (few_seats : seats ≤ 64) (s : State (Option P) (View I)) (w : IsLawful stands input n seats s) where
  record Status (k : ℕ) (p : Phase) : Type 0 where
    shape : InPhase stands input n s.homes k p
    marked : arrivals n s.words k ≡ mark p
    hand_to : (j : ℕ) → IsInHand s.views j k → p ≡ held j
    hand_from : (j : ℕ) → p ≡ held j → IsInHand s.views j k
    begin_to : HasBegun n s.words k → begins p ≡ 1
    begin_from : ¬ HasBegun n s.words k → begins p ≡ 0
    at_root : k ≡ root n → rank p ≤ 1
    alone : k ≢ root n → arrivals n s.words (sibling n k) ≡ 0 → rank p ≡ arrivals n s.words k
    met : k ≢ root n → arrivals n s.words k ≡ 1 → arrivals n s.words (sibling n k) ≡ 1 → rank p ≡ 2
    absent : arrivals n s.words k ≡ 0 → rank p ≡ 0

  fresh_status : (k : ℕ) → ¬ HasBegun n s.words k → IsFresh n s k → Status k fresh
  fresh_status k nb f = let z = f.not_arrived in record {
    shape = f.at_home;
    marked = z;
    hand_to = λ j t. absurd (f.no_hand j t);
    hand_from = λ j e. absurd (fresh_held j e);
    begin_to = λ b. absurd (nb b);
    begin_from = λ _. refl;
    at_root = λ _. omega arith;
    alone = λ _ _. sym z;
    met = λ _ one _. absurd (omega arith);
    absent = λ _. refl;
  }

  held_status : (k : ℕ) → HasBegun n s.words k → (x : IsHeld n s k) → Status k (held x.holder)
  held_status k b x = let z = x.not_arrived in record {
    shape = x.out;
    marked = z;
    hand_to = λ j t. ap held (sym (x.once j t));
    hand_from = λ j e. subst (λ i. IsInHand s.views i k) (same_held x.holder j e) x.held;
    begin_to = λ _. refl;
    begin_from = λ nb. absurd (nb b);
    at_root = λ _. omega arith;
    alone = λ _ _. sym z;
    met = λ _ one _. absurd (omega arith);
    absent = λ _. refl;
  }

  home_status : (k : ℕ) → k < nodes n → HasBegun n s.words k → HasArrived n s k → (k ≢ root n → arrivals n s.words (sibling n k) ≡ 0) → Status k home
  home_status k h b x by_self = let one = x.arrived in record {
    shape = w.waiting k h (record { arrived = one; alone = by_self });
    marked = one;
    hand_to = λ j t. absurd (x.no_hand j t);
    hand_from = λ j e. absurd (home_held j e);
    begin_to = λ _. refl;
    begin_from = λ nb. absurd (nb b);
    at_root = λ _. omega arith;
    alone = λ _ _. sym one;
    met = λ ne _ sib. let z = by_self ne in absurd (omega arith);
    absent = λ z. absurd (omega arith);
  }

  used_status : (k : ℕ) → k < nodes n → HasBegun n s.words k → HasArrived n s k → k ≢ root n → arrivals n s.words (sibling n k) ≡ 1 → Status k used
  used_status k h b x ne sib = let one = x.arrived in record {
    shape = λ p at. let z = (w.no_other k p h at).alone ne in absurd (omega arith);
    marked = one;
    hand_to = λ j t. absurd (x.no_hand j t);
    hand_from = λ j e. absurd (used_held j e);
    begin_to = λ _. refl;
    begin_from = λ nb. absurd (nb b);
    at_root = λ e. absurd (ne e);
    alone = λ _ z. absurd (omega arith);
    met = λ _ _ _. refl;
    absent = λ z. absurd (omega arith);
  }

  sibling_near : (k : ℕ) → k < nodes n → k ≢ root n → sibling n k < nodes n
  sibling_near k h ne = let u = (at_node n some_leaf few k h).hangs ne in ((at_inner n some_leaf few (place n k).above u.positive u.near).child (not (place n k).is_left)).near

  status : (k : ℕ) → k < nodes n → (p : Phase) × Status k p
  status k h = ⊎_elim
      (λ b. ⊎_elim (λ x. (held x.holder, held_status k b x))
      (λ x. dite (ℕ_discrete k (root n)) (λ e. (home, home_status k h b x (λ ne. absurd (ne e))))
      (λ ne. ⊎_elim (λ z. (home, home_status k h b x (λ _. z))) (λ one. (used, used_status k h b x ne one)) (one_or_none stands input n seats some_leaf few s w (sibling n k) (sibling_near k h ne))))
      (w.begun k h b))
      (λ nb. (fresh, fresh_status k nb (w.fresh k h nb)))
      (begun_or n s.words k h)

  phase_by : (k : ℕ) → Dec (k < nodes n) → Phase
  phase_by k (yes h) = (status k h).0
  phase_by k (no h) = fresh

  status_by : (k : ℕ) (d : Dec (k < nodes n)) → k < nodes n → Status k (phase_by k d)
  unfolding phase_by
  status_by k (yes h) g = (status k h).1
  status_by k (no h) g = absurd (h g)

  phase : ℕ → Phase
  phase k = phase_by k (dec_lt k (nodes n))

  of_node : (k : ℕ) → k < nodes n → Status k (phase k)
  unfolding phase
  of_node k h = status_by k (dec_lt k (nodes n)) h

  family : (m : ℕ) → 0 < m → m < n → Family (phase (side n m true)) (phase (side n m false)) (phase (inner m))
  family m pos less = let t = at_inner n some_leaf few m pos less in let lt = t.child true in let rt = t.child false in let near : inner m < nodes n = omega arith in
      let l = of_node (side n m true) lt.near in let r = of_node (side n m false) rt.near in let u = of_node (inner m) near in
      let sl = sibling_side n some_leaf few m true pos less in let sr = sibling_side n some_leaf few m false pos less in
      let closed : (b : Bool) → arrivals n s.words (side n m b) ≡ 0 → begins (phase (inner m)) ≡ 0 = λ b z. u.begin_from (λ g. let one = sides_arrived stands input n seats some_leaf few s w m pos g b in absurd (omega arith)) in
      ⊎_elim
      (λ lz. let x : rank (phase (side n m true)) ≡ 0 = l.absent lz in let y = r.alone rt.not_root (ap (arrivals n s.words) sr ∙ lz) in
      inr (⊎_elim (λ rz. omega arith) (λ ro. omega arith) (one_or_none stands input n seats some_leaf few s w (side n m false) rt.near), closed true lz))
      (λ lo. ⊎_elim
      (λ rz. let y : rank (phase (side n m false)) ≡ 0 = r.absent rz in let x = l.alone lt.not_root (ap (arrivals n s.words) sl ∙ rz) in inr (omega arith, closed false rz))
      (λ ro. let x = l.met lt.not_root lo (ap (arrivals n s.words) sl ∙ ro) in let y = r.met rt.not_root ro (ap (arrivals n s.words) sr ∙ lo) in inl (omega arith, u.begin_to (inr (m, refl, pos, less, lo, ro))))
      (one_or_none stands input n seats some_leaf few s w (side n m false) rt.near))
      (one_or_none stands input n seats some_leaf few s w (side n m true) lt.near)

  word_is : (m : ℕ) → 0 < m → m < n → slice_index s.words m ≡ mark (phase (side n m true)) + 2 * mark (phase (side n m false))
  word_is m pos less = let t = at_inner n some_leaf few m pos less in let bits = w.two_bits m pos less in
      let a = sym (arrivals_side n some_leaf few s.words m true pos less) ∙ (of_node (side n m true) (t.child true).near).marked in
      let b = sym (arrivals_side n some_leaf few s.words m false pos less) ∙ (of_node (side n m false) (t.child false).near).marked in omega arith

  node_near : (j : ℕ) (v : View I) (k : ℕ) → get_elem? s.views j ≡ some v → v.hand ≡ Some k → k < nodes n
  node_near j v k at e = ⊎_elim (λ (a : IsActive input n seats v). a.hand_near k e) (λ (z : IsEmpty v). absurd (none-some k (sym z.no_hand ∙ e))) (w.each_view j v at)

  pub orderly : Orderly stands input n seats s
  orderly = let both = w.claims_sum in let least = w.leaves_sum in record {
    some_leaf = some_leaf;
    few = few;
    few_seats = few_seats;
    phase = phase;
    grown = record {
      wide = w.word_count;
      long = w.slot_count;
      each_node = λ k h. (of_node k h).shape;
      leaf_begun = λ i h lt. (of_node (leaf i) (omega arith)).begin_to (inl (i, refl, lt));
      leaf_fresh = λ i h le. (of_node (leaf i) (omega arith)).begin_from (λ b. ⊎_elim (λ t. let e : leaf i ≡ leaf t.0 = t.1 in let lt = t.2 in absurd (omega arith)) (λ t. not_inner i t.0 t.2 t.1) b);
      each_word = word_is;
      each_family = family;
      crown = sym (arrivals_root n s.words (root n) refl) ∙ (of_node (root n) (root_near n some_leaf few)).marked;
      not_joined = (of_node (root n) (root_near n some_leaf few)).at_root refl;
    };
    seated = record {
      each_view = w.each_view;
      hand_held = λ j v k at e. (of_node k (node_near j v k at e)).hand_to j (v, at, e);
      held_hand = λ k j h e. (of_node k h).hand_from j e;
      passes_sum = w.passes_sum;
      claims_sum = both;
      leaves_sum = omega arith;
      ended_late = λ pos. omega arith;
    };
  }

  -- each step leads from a lawful state to a lawful one
  pub lawful_step : (t : State (Option P) (View I)) (id : ℕ) (v : View I) → get_elem? s.views id ≡ some v → 0 < v.passes → Step stands input n s t id v → IsLawful stands input n seats t
  lawful_step t id v at pos step = lawful stands input n seats t (step_keeps stands input n seats s t id v orderly at pos step)
