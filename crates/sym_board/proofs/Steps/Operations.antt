-- From a lawful state each call's operation on a word is a step of the board.
use Rattle.std.proofs.Common.{◌≡◌, ◌≢◌, ℕ, ◌+◌, ◌%◌, ◌^◌, ◌<◌, Bool, not, List, [], bit_or, slice_index, refl, sym, ◌∙◌, subst, Option, Some, None}
use mathlib.Core.Option.{none}
use Rattle.atomic_table.specs.Table.{State, Step as Told, step, Final, Seen}
use Rattle.sym_board.specs.Tree.{nodes, root, place, side}
use Rattle.sym_board.specs.State.{arrivals, sibling}
use Rattle.sym_board.specs.Lawful.{IsLawful}
use Rattle.sym_board.specs.Core.{mark, Orderly}
use Rattle.sym_board.specs.Steps.{bit, Claims, ArrivesFirst, ArrivesSecond, Crowns, Closes}
use Rattle.sym_board.specs.Plays.{hand_slots}
use Rattle.sym_board.specs.Rule.{Keeps}
use Rattle.sym_board.specs.Laws.{IsAt, StepsTo}
use Rattle.sym_board.specs.declared.view.View.{View}
use Rattle.sym_board.specs.declared.view.About.{About}
use Rattle.sym_board.proofs.Nodes.Laws.{at_node}
use Rattle.sym_board.proofs.State.Arrivals.{side_mark}
use Rattle.sym_board.proofs.State.Lawful.{lawful}
use Rattle.sym_board.proofs.State.Agreeing.{orderly}
use Rattle.sym_board.proofs.Steps.Seating.{is_active}
use Rattle.sym_board.proofs.Steps.Taken.{claim_taken, crown_taken, first_taken, second_taken}

-- the operation on a word that a step announces is of no account here
nothing : {P : Type 0} → Told (Option P)
nothing = step 0 0 0 0 none

module _ {P I : Type 0} (stands : I → ℕ → ℕ → P → Type 0) (input : I) (n seats : ℕ) (s : State (Option P) (View I)) (id : ℕ) (v : View I) (t : IsAt stands input n seats s id v) where
  o : Orderly stands input n seats s
  o = orderly stands input n seats t.some_leaf t.few_leaves t.few_seats s t.lawful

  pub adding : v.hand ≡ None → v.ended < v.passes → StepsTo s 0 ((slice_index s.words 0 + 1) % 2 ^ 64) id [] (λ u. Claims n s u id v)
  adding hand more = let a = claim_taken stands input n seats s o id v [] nothing t.there hand more in (a.0, a.1, a.2, a.3)

  pub crowning : (x : P) → v.hand ≡ Some (root n) → stands input 0 n x → StepsTo s n (bit_or (slice_index s.words n) 1) id (hand_slots n (root n) (Some x)) (λ u. Crowns stands input n s u id v)
  crowning x hand st = let a = crown_taken stands input n seats s o id v x nothing t.there hand st in (a.0, a.1, a.2, a.3)

  near_hand : (k : ℕ) → v.hand ≡ Some k → k < nodes n
  near_hand k hand = (is_active input n seats o.phase (slice_index s.words 0) s.views o.seated id v t.there t.some_pass).hand_near k hand

  -- the sibling's mark is what the words show
  shown : (m : ℕ) (b : Bool) → 0 < m → m < n → arrivals n s.words (side n m b) ≡ mark (o.phase (side n m b))
  shown = side_mark stands input n o.some_leaf o.few o.phase s.words s.homes o.grown

  pub setting_first : (k : ℕ) (x : P) → v.hand ≡ Some k → k ≢ root n → stands input (place n k).lo (place n k).hi x → arrivals n s.words (sibling n k) ≡ 0
      → StepsTo s (place n k).above (bit_or (slice_index s.words (place n k).above) (bit (place n k).is_left)) id (hand_slots n k (Some x)) (λ u. ArrivesFirst stands input n s u id v)
  setting_first k x hand ne st alone = let m : ℕ = (place n k).above in let b : Bool = (place n k).is_left in let h = (at_node n t.some_leaf t.few_leaves k (near_hand k hand)).hangs ne in
      subst (λ j. v.hand ≡ Some j → stands input (place n j).lo (place n j).hi x → StepsTo s m (bit_or (slice_index s.words m) (bit b)) id (hand_slots n j (Some x)) (λ u. ArrivesFirst stands input n s u id v)) h.is_side
      (λ e p. let a = first_taken stands input n seats s o id m b v x nothing t.there h.positive h.near e t.some_pass p (sym (shown m (not b) h.positive h.near) ∙ alone) in (a.0, a.1, a.2, a.3)) hand st

  pub setting_second : (k : ℕ) (x : P) → v.hand ≡ Some k → k ≢ root n → stands input (place n k).lo (place n k).hi x → arrivals n s.words (sibling n k) ≡ 1
      → StepsTo s (place n k).above (bit_or (slice_index s.words (place n k).above) (bit (place n k).is_left)) id (hand_slots n k (Some x)) (λ u. ArrivesSecond n s u id v)
  setting_second k x hand ne st met = let m : ℕ = (place n k).above in let b : Bool = (place n k).is_left in let h = (at_node n t.some_leaf t.few_leaves k (near_hand k hand)).hangs ne in
      subst (λ j. v.hand ≡ Some j → stands input (place n j).lo (place n j).hi x → StepsTo s m (bit_or (slice_index s.words m) (bit b)) id (hand_slots n j (Some x)) (λ u. ArrivesSecond n s u id v)) h.is_side
      (λ e p. let a = second_taken stands input n seats s o id m b v x nothing t.there h.positive h.near e t.some_pass p (sym (shown m (not b) h.positive h.near) ∙ met) in (a.0, a.1, a.2, a.3)) hand st

-- a table ends as a lawful state
pub ending : {P I : Type 0} (stands : I → ℕ → ℕ → P → Type 0) (about : About I) (id : ℕ) (v : View I) (words : List ℕ) (slots : List (Option P)) → Final (Seen (Keeps stands about) id v) words slots
    → Final (λ s. IsLawful stands about.input.value about.leaves about.seats s × Closes s s id v) words slots
ending stands about id v words slots (s, seen, same, long, values) = (s, (lawful stands about.input.value about.leaves about.seats s seen.0, record { there = seen.1; same = refl }), same, long, values)
