-- The rule of a board's table allows each call's operation on a word.
use Rattle.std.proofs.Common.{◌≡◌, ◌≢◌, ℕ, ◌+◌, ◌%◌, ◌^◌, ◌<◌, ◌≤◌, Bool, not, slice_index, bit_or, sym, ap, ◌∙◌, subst, arith, Option, Some, None}
use mathlib.Core.Logic.{dite}
use native.Mathlib.Decide.{ℕ_discrete}
use Rattle.atomic_table.specs.Table.{State, Me, Step as Told, Allows, Splits as MaySplit, Joins as MayJoin, stepped}
use Rattle.atomic_table.proofs.Lists.{set_else}
use Rattle.sym_board.specs.Tree.{nodes, root, Place, spot, place, side}
use Rattle.sym_board.specs.Core.{mark, Orderly}
use Rattle.sym_board.specs.Steps.{bit, less_one, one_pass, with_counts, spent, claim, arrive_first, arrive_second, crown, split, join}
use Rattle.sym_board.specs.Plays.{hand_slots, claimed, arrived, crowned}
use Rattle.sym_board.specs.Laws.{cut_at, merged_at}
use Rattle.sym_board.specs.declared.view.View.{View}
use Rattle.sym_board.proofs.Nodes.Laws.{at_node}
use Rattle.sym_board.proofs.State.Phases.{mark_rank}
use Rattle.sym_board.proofs.Steps.Keeping.{step_keeps}
use Rattle.sym_board.proofs.Steps.Taken.{claim_taken, crown_taken, first_taken, second_taken, cut_splits, merged_joins}

module _ {P I : Type 0} (stands : I → ℕ → ℕ → P → Type 0) (input : I) (n seats : ℕ) where
  abbrev Rule : State (Option P) (View I) → Type 0
  Rule = Orderly stands input n seats

  -- a claim
  pub claim_allows : (slots id : ℕ) (me : Me (Option P) (View I)) (told : Told (Option P)) → me.0.hand ≡ None → me.0.ended < me.0.passes → Allows Rule slots id me 0 (λ w. (w + 1) % 2 ^ 64) (claimed told me)
  claim_allows slots id me told hand more s o long at fits = let t = claim_taken stands input n seats s o id me.0 me.1 told at hand more in
      (t.0, t.1, t.2, step_keeps stands input n seats s (stepped s 0 ((slice_index s.words 0 + 1) % 2 ^ 64) id me.1 t.0 t.1) id me.0 o at (omega arith) (claim t.3), t.4)

  -- the crowning of the root
  pub crown_allows : (slots id : ℕ) (v : View I) (x : P) (told : Told (Option P)) → v.hand ≡ Some (root n) → 0 < v.passes → stands input 0 n x
      → Allows Rule slots id (v, hand_slots n (root n) (Some x)) n (λ w. bit_or w 1) (crowned told (v, hand_slots n (root n) (Some x)))
  crown_allows slots id v x told hand pos st s o long at fits = let t = crown_taken stands input n seats s o id v x told at hand st in
      (t.0, t.1, t.2, step_keeps stands input n seats s (stepped s n (bit_or (slice_index s.words n) 1) id (hand_slots n (root n) (Some x)) t.0 t.1) id v o at pos (crown t.3), t.4)

  -- an arrival
  pub arrive_side : (slots id m : ℕ) (b : Bool) (v : View I) (x : P) (told : Told (Option P)) → 0 < m → m < n → v.hand ≡ Some (side n m b) → 0 < v.passes
      → stands input (place n (side n m b)).lo (place n (side n m b)).hi x
      → Allows Rule slots id (v, hand_slots n (side n m b) (Some x)) m (λ w. bit_or w (bit b)) (arrived stands told (v, hand_slots n (side n m b) (Some x)))
  arrive_side slots id m b v x told pos near hand some_pass st s o long at fits = dite (ℕ_discrete (mark (o.phase (side n m (not b)))) 0)
      (λ z. let t = first_taken stands input n seats s o id m b v x told at pos near hand some_pass st z in
      (t.0, t.1, t.2, step_keeps stands input n seats s (stepped s m (bit_or (slice_index s.words m) (bit b)) id (hand_slots n (side n m b) (Some x)) t.0 t.1) id v o at some_pass (arrive_first t.3), t.4))
      (λ nz. let few_mark = (mark_rank (o.phase (side n m (not b)))).2 in let t = second_taken stands input n seats s o id m b v x told at pos near hand some_pass st (omega arith) in
      (t.0, t.1, t.2, step_keeps stands input n seats s (stepped s m (bit_or (slice_index s.words m) (bit b)) id (hand_slots n (side n m b) (Some x)) t.0 t.1) id v o at some_pass (arrive_second t.3), t.4))

  -- an arrival of the node k, named by where k is
  pub arrive_allows : (slots id k word bits : ℕ) (v : View I) (x : P) (me : Me (Option P) (View I)) (told : Told (Option P)) → 0 < n → n ≤ 64 → k < nodes n → k ≢ root n → v.hand ≡ Some k → 0 < v.passes
      → stands input (place n k).lo (place n k).hi x → word ≡ (place n k).above → bits ≡ bit (place n k).is_left → me ≡ (v, hand_slots n k (Some x))
      → Allows Rule slots id me word (λ w. bit_or w bits) (arrived stands told me)
  arrive_allows slots id k word bits v x me told some_leaf few near ne hand pos st ew eb em = let u = (at_node n some_leaf few k near).hangs ne in let m : ℕ = (place n k).above in let b : Bool = (place n k).is_left in
      let at_side : Allows Rule slots id (v, hand_slots n k (Some x)) m (λ w. bit_or w (bit b)) (arrived stands told (v, hand_slots n k (Some x))) =
      subst (λ j. v.hand ≡ Some j → stands input (place n j).lo (place n j).hi x → Allows Rule slots id (v, hand_slots n j (Some x)) m (λ w. bit_or w (bit b)) (arrived stands told (v, hand_slots n j (Some x)))) u.is_side
      (λ e s. arrive_side slots id m b v x told u.positive u.near e pos s) hand st in
      subst (λ (z : Me (Option P) (View I)). Allows Rule slots id z word (λ w. bit_or w bits) (arrived stands told z)) (sym em)
      (subst (λ i. Allows Rule slots id (v, hand_slots n k (Some x)) i (λ w. bit_or w bits) (arrived stands told (v, hand_slots n k (Some x)))) (sym ew)
      (subst (λ i. Allows Rule slots id (v, hand_slots n k (Some x)) m (λ w. bit_or w i) (arrived stands told (v, hand_slots n k (Some x)))) (sym eb) at_side))

  pub crown_allows_as : (slots id k word : ℕ) (v : View I) (x : P) (me : Me (Option P) (View I)) (told : Told (Option P)) → k ≡ root n → v.hand ≡ Some k → 0 < v.passes → stands input 0 n x → word ≡ n → me ≡ (v, hand_slots n k (Some x))
      → Allows Rule slots id me word (λ w. bit_or w 1) (crowned told me)
  crown_allows_as slots id k word v x me told is hand pos st ew em =
      subst (λ (z : Me (Option P) (View I)). Allows Rule slots id z word (λ w. bit_or w 1) (crowned told z)) (sym (em ∙ ap (λ j. (v, hand_slots n j (Some x))) is))
      (subst (λ i. Allows Rule slots id (v, hand_slots n (root n) (Some x)) i (λ w. bit_or w 1) (crowned told (v, hand_slots n (root n) (Some x)))) (sym ew) (crown_allows slots id v x told (hand ∙ ap Some is) pos st))

  -- the same, where the number of leaves has another name
  pub crown_allows_at : (leaves slots id k word : ℕ) (v : View I) (x : P) (me : Me (Option P) (View I)) (told : Told (Option P)) → n ≡ leaves → k ≡ root leaves → v.hand ≡ Some k → 0 < v.passes → stands input 0 leaves x → word ≡ leaves → me ≡ (v, hand_slots leaves k (Some x))
      → Allows Rule slots id me word (λ w. bit_or w 1) (crowned told me)
  crown_allows_at leaves slots id k word v x me told same is hand pos st ew em = subst (λ l. k ≡ root l → stands input 0 l x → word ≡ l → me ≡ (v, hand_slots l k (Some x)) → Allows Rule slots id me word (λ w. bit_or w 1) (crowned told me)) same
      (λ a c d e. crown_allows_as slots id k word v x me told a hand pos c d e) is st ew em

  pub arrive_allows_at : (leaves slots id k lo hi above bits : ℕ) (b : Bool) (v : View I) (x : P) (me : Me (Option P) (View I)) (told : Told (Option P)) → n ≡ leaves → 0 < leaves → leaves ≤ 64 → k < nodes leaves → k ≢ root leaves → spot lo hi above b ≡ place leaves k → v.hand ≡ Some k → 0 < v.passes
      → stands input lo hi x → bits ≡ bit b → me ≡ (v, hand_slots leaves k (Some x))
      → Allows Rule slots id me above (λ w. bit_or w bits) (arrived stands told me)
  arrive_allows_at leaves slots id k lo hi above bits b v x me told same some_leaf few near ne at hand pos st eb em =
      subst (λ l. 0 < l → l ≤ 64 → k < nodes l → k ≢ root l → spot lo hi above b ≡ place l k → me ≡ (v, hand_slots l k (Some x)) → Allows Rule slots id me above (λ w. bit_or w bits) (arrived stands told me)) same
      (λ p q r z y e. arrive_allows slots id k above bits v x me told p q r z hand pos (subst (λ (u : Place). stands input u.lo u.hi x) y st) (ap (λ (u : Place). u.above) y) (eb ∙ ap (λ (u : Place). bit u.is_left) y) e)
      some_leaf few near ne at em

  -- splitting and joining passes
  pub split_allows : (id : ℕ) (v : View I) → 1 < v.passes → v.ended ≡ 0 → MaySplit Rule id v (less_one v) (one_pass v)
  split_allows id v two none_ended s o at = step_keeps stands input n seats s (cut_at s id v) id v o at (omega arith) (split (cut_splits s id v two none_ended))

  pub join_allows : (id other : ℕ) (v w : View I) → 0 < v.passes → w.hand ≡ None → MayJoin Rule id v other w (with_counts v w) spent
  join_allows id other v w pos no_hand s o at ne there = step_keeps stands input n seats s (merged_at s id v other w) id v o at pos
      (join (merged_joins s id v other w ne (sym (set_else s.views id other (with_counts v w) ne) ∙ there) no_hand))
