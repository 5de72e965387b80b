-- The state in which a board ends.
use Rattle.std.proofs.Common.{◌≡◌, ◌≢◌, ℕ, zero, suc, ◌-◌, ◌<◌, ◌≤◌, ◌⊎◌, true, false, List, [], ◌∷◌, slice_index, refl, sym, ap, ◌∙◌, subst, subst₂, inl, inr, ⊎_elim, lt_of_not-le, eq-zero-or-pos, arith, Option, Some, None, IfSome, IfNone, sum_by}
use Rattle.std.proofs.lemmas.Option.{none-some, same_Some}
use mathlib.Core.Option.{some, some-injective, some-ne-none}
use mathlib.Core.Logic.{dite}
use native.Mathlib.Decide.{ℕ_discrete}
use lib.ListN.{get_elem?}
use Rattle.atomic_table.specs.Table.{State, Final, Seen}
use Rattle.sym_board.specs.Tree.{inner, nodes, root, place, side}
use Rattle.sym_board.specs.Lawful.{IsActive, IsEmpty}
use Rattle.sym_board.specs.Core.{Phase, fresh, held, home, used, rank, mark, begins, Family, Orderly}
use Rattle.sym_board.specs.declared.view.View.{View}
use Rattle.sym_board.proofs.Nodes.Laws.{at_node, at_inner, root_near, root_lo, root_hi}
use Rattle.sym_board.proofs.State.Sums.{sum_two, sum_one}
use Rattle.sym_board.proofs.State.Phases.{in_phase, mark_rank}
use Rattle.sym_board.proofs.State.Lawful.{node_kind}

at_slice : (l : List ℕ) (i w : ℕ) → get_elem? l i ≡ some w → slice_index l i ≡ w
at_slice [] i w e = absurd (some-ne-none w (sym e))
at_slice (x ∷ xs) zero w e = some-injective x w e
at_slice (x ∷ xs) (suc i) w e = at_slice xs i w e

begun_rank : (p : Phase) → begins p ≡ 1 → ((j : ℕ) → p ≢ held j) → 0 < rank p
begun_rank fresh e free = absurd (omega arith)
begun_rank (held j) e free = absurd (free j refl)
begun_rank home e free = omega arith
begun_rank used e free = omega arith

one_home : (p : Phase) → rank p ≤ 1 → 0 < rank p → p ≡ home
one_home fresh few pos = absurd (omega arith)
one_home (held j) few pos = absurd (omega arith)
one_home home few pos = refl
one_home used few pos = absurd (omega arith)

above_begun : (l r p : Phase) → Family l r p → 0 < rank l → 0 < rank r → begins p ≡ 1
above_begun l r p (inl t) a b = t.1
above_begun l r p (inr t) a b = let few = t.0 in absurd (omega arith)

module _ {P I : Type 0} (stands : I → ℕ → ℕ → P → Type 0) (input : I) (n seats : ℕ) (s : State (Option P) (View I)) (o : Orderly stands input n seats s) where
  -- the root's piece rests at home where the crown word says so
  pub crowned_home : slice_index s.words n ≡ 1 → (x : P) × (get_elem? s.homes (root n) ≡ some (some (Some x))) × stands input 0 n x
  crowned_home w = let p : Phase = o.phase (root n) in let m : mark p ≡ 1 = sym o.grown.crown ∙ w in let r = mark_rank p in let few = o.grown.not_joined in
      let pos : rank p ≢ 0 = λ z. let q = r.1 z in absurd (omega arith) in
      let is : p ≡ home = one_home p few (omega arith) in let t = in_phase stands input n p home s.homes (root n) is (o.grown.each_node (root n) (root_near n o.some_leaf o.few)) in
      (t.0, t.1, subst₂ (λ a b. stands input a b t.0) (root_lo n o.some_leaf o.few) (root_hi n o.some_leaf o.few) t.2)

  -- where every leaf was claimed and no hand holds a node, every node has arrived
  all_arrived : n ≤ slice_index s.words 0 → ((k j : ℕ) → k < nodes n → o.phase k ≢ held j) → (f k : ℕ) → k < nodes n → (place n k).hi - (place n k).lo ≤ f → 0 < rank (o.phase k)
  all_arrived past free zero k h le = let t = at_node n o.some_leaf o.few k h in let l = t.long in absurd (omega arith)
  all_arrived past free (suc f) k h le = begun_rank (o.phase k) (⊎_elim
      (λ l. ap (λ j. begins (o.phase j)) l.1 ∙ o.grown.leaf_begun l.0 l.2 (omega arith))
      (λ l. let m : ℕ = l.0 in let t = at_inner n o.some_leaf o.few m l.2 l.3 in
      let lo_is : (place n k).lo ≡ (place n (inner m)).lo = ap (λ j. (place n j).lo) l.1 in let hi_is : (place n k).hi ≡ (place n (inner m)).hi = ap (λ j. (place n j).hi) l.1 in
      let a = t.after in let b = t.before in let c1 = t.left_lo in let c2 = t.left_hi in let d1 = t.right_lo in let d2 = t.right_hi in
      ap (λ j. begins (o.phase j)) l.1 ∙ above_begun (o.phase (side n m true)) (o.phase (side n m false)) (o.phase (inner m)) (o.grown.each_family m l.2 l.3)
      (all_arrived past free f (side n m true) (t.child true).near (omega arith)) (all_arrived past free f (side n m false) (t.child false).near (omega arith)))
      (node_kind n k h)) (λ j e. free k j h e)

  -- One seat with an empty hand counts every pass: so the other views are empty, and where a leaf has no claim no pass has ended.
  pub uncrowned : (id : ℕ) (v : View I) → get_elem? s.views id ≡ some v → v.hand ≡ None → v.passes ≡ seats → slice_index s.words n ≢ 1 → (v.ended ≡ 0) × (v.claimed < n)
  uncrowned id v at hand all not_one =
      let sum = o.seated.passes_sum in
      let others : (j : ℕ) (w : View I) → j ≢ id → get_elem? s.views j ≡ some w → IsEmpty w = λ j w ne there. ⊎_elim (λ (a : IsActive input n seats w). let pos = a.some_pass in let two = sum_two (λ (x : View I). x.passes) s.views j id w v ne there at in absurd (omega arith)) (λ e. e) (o.seated.each_view j w there) in
      let free : (k j : ℕ) → k < nodes n → o.phase k ≢ held j = λ k j h e. let t = o.seated.held_hand k j h e in dite (ℕ_discrete j id)
      (λ d. none-some k (sym hand ∙ ap (λ (x : View I). x.hand) (some-injective v t.0 (sym at ∙ ap (get_elem? s.views) (sym d) ∙ t.1)) ∙ t.2))
      (λ ne. none-some k (sym (others j t.0 ne t.1).no_hand ∙ t.2)) in
      let open_leaf : ¬ (n ≤ slice_index s.words 0) = λ past. let r = root n in
      let pos : 0 < rank (o.phase r) = all_arrived past free ((place n r).hi - (place n r).lo) r (root_near n o.some_leaf o.few) (omega arith) in
      not_one (o.grown.crown ∙ ((mark_rank (o.phase r)).4 pos).1) in
      let below = lt_of_not-le open_leaf in let both = o.seated.claims_sum in
      let mine = sum_one (λ (x : View I). x.claimed) s.views id v at in let over = sum_one (λ (x : View I). x.ended) s.views id v at in
      let late : 0 < sum_by (λ (x : View I). x.ended) s.views → sum_by (λ (x : View I). x.claimed) s.views ≡ n = o.seated.ended_late in
      ⊎_elim (λ z. (omega arith, omega arith)) (λ p. let full = late p in absurd (omega arith)) (eq-zero-or-pos (sum_by (λ (x : View I). x.ended) s.views))

module _ {P I : Type 0} (stands : I → ℕ → ℕ → P → Type 0) (input : I) (n seats : ℕ) (words : List ℕ) (slots : List (Option P)) where
  pub closed_some : Final (Orderly stands input n seats) words slots → (x : P) → get_elem? words n ≡ some 1 → get_elem? slots (root n) ≡ some (Some x) → stands input 0 n x
  closed_some (s, o, same, long, values) x w at = let t = crowned_home stands input n seats s o (ap (λ l. slice_index l n) same ∙ at_slice words n 1 w) in
      subst (λ (y : P). stands input 0 n y) (same_Some t.0 x (some-injective (Some t.0) (Some x) (sym (values (root n) (Some t.0) t.1) ∙ at))) t.2

  -- no piece was at the root, so it wasn't crowned
  pub closed_none : (id : ℕ) (v : View I) → Final (Seen (Orderly stands input n seats) id v) words slots → ((w : ℕ) × (get_elem? words n ≡ some w) × (w ≢ 1)) ⊎ (get_elem? slots (root n) ≡ some None)
      → v.hand ≡ None → v.passes ≡ seats → (v.ended ≡ 0) × (v.claimed < n)
  closed_none id v (s, seen, same, long, values) why hand all = uncrowned stands input n seats s seen.0 id v seen.1 hand all
      (λ w. ⊎_elim (λ t. t.2 (sym (at_slice words n t.0 t.1) ∙ ap (λ l. slice_index l n) (sym same) ∙ w))
      (λ empty. let t = crowned_home stands input n seats s seen.0 w in none-some t.0 (some-injective None (Some t.0) (sym empty ∙ values (root n) (Some t.0) t.1))) why)

-- the view of a seat is more than `close_with` needs here
pub forget_seen : {P I : Type 0} (holds : State (Option P) (View I) → Type 0) (id : ℕ) (v : View I) (words : List ℕ) (slots : List (Option P)) → Final (Seen holds id v) words slots → Final holds words slots
forget_seen holds id v words slots (s, seen, same, long, values) = (s, seen.0, same, long, values)

pub if_some : {X : Type 0} (A B : X → Type 0) (r : Option X) → ((x : X) → A x → B x) → IfSome r A → IfSome r B
if_some A B None f h = h
if_some A B (Some x) f h = f x h

pub if_none : {X : Type 0} (A B : Type 0) (r : Option X) → (A → B) → IfNone r A → IfNone r B
if_none A B None f h = f h
if_none A B (Some x) f h = h
