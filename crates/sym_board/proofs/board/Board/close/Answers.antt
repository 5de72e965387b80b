use Rattle.std.proofs.Common.{◌≡◌, ◌≢◌, ◌<◌, ◌⊎◌, All, None, Some, ℕ, false, sum_by, vec_len, ◌∙◌, subst₂, arith}
use mathlib.Core.Option.{some}
use lib.ListN.{get_elem?}
use Rattle.atomic_table.specs.Table.{Final, Seen}
use Rattle.std.specs.Slots.{slots_items}
use Rattle.sym_board.specs.Tree.{root}
use Rattle.sym_board.specs.Core.{Orderly}
use Rattle.sym_board.specs.Passes.{hand, has_ended, claims, board_leaves, board_seats, board_input}
use Rattle.sym_board.proofs.Calls.Closing.{closed_some, closed_none, forget_seen, if_some, if_none}
use Rattle.sym_board.proofs.board.Board.close.Goals as goal

pub returns-in-Some-clause-some : goal.returns-in-Some-clause-some
returns-in-Some-clause-some g c = let b = c.args.self in let k = b.table.shared.key in let s = c.in-Some.seat in let st = g.P.Piece.stands_for in
    let ws = slots_items c.close_with.result.words in let xs = slots_items c.close_with.result.slots in
    let final : Final (Orderly st (board_input b) b.leaves b.seats) ws xs = subst₂ (λ n t. Final (Orderly st (board_input b) n t) ws xs) b.key_is.0 b.key_is.1 (forget_seen (Orderly st (board_input b) k.leaves k.seats) s.id s.me.0 ws xs c.close_with.ensures.values.2) in
    if_some (λ x. (get_elem? ws b.leaves ≡ some 1) × (get_elem? xs (root b.leaves) ≡ some (Some x))) (λ x. st (board_input b) 0 (board_leaves b) x) c.settle.result (λ x h. closed_some st (board_input b) b.leaves b.seats ws xs final x h.0 h.1) c.settle.ensures.some

pub returns-in-Some-clause-none : goal.returns-in-Some-clause-none
returns-in-Some-clause-none g c = let b = c.args.self in let k = b.table.shared.key in let s = c.in-Some.seat in let st = g.P.Piece.stands_for in
    let ws = slots_items c.close_with.result.words in let xs = slots_items c.close_with.result.slots in
    let final : Final (Seen (Orderly st (board_input b) b.leaves b.seats) s.id s.me.0) ws xs = subst₂ (λ n t. Final (Seen (Orderly st (board_input b) n t) s.id s.me.0) ws xs) b.key_is.0 b.key_is.1 c.close_with.ensures.values.2 in
    if_none (((w : ℕ) × (get_elem? ws b.leaves ≡ some w) × (w ≢ 1)) ⊎ (get_elem? xs (root b.leaves) ≡ some None))
    (All (λ p. hand p ≡ None) c.args.passes.items → vec_len c.args.passes ≡ board_seats b → (sum_by claims c.args.passes.items < board_leaves b) × All (λ p. has_ended p ≡ false) c.args.passes.items) c.settle.result
    (λ why empty all. let w = c.in-Some.ensures.counts empty in let t = closed_none st (board_input b) b.leaves b.seats ws xs s.id s.me.0 final why w.0 (w.1 ∙ all) in
    (let same = w.2 in let less = t.1 in omega arith, w.3 t.0))
    c.settle.ensures.none

pub returns-in-None-clause-some : goal.returns-in-None-clause-some
returns-in-None-clause-some g c = let b = c.args.self in let k = b.table.shared.key in let st = g.P.Piece.stands_for in
    let ws = slots_items c.close.result.words in let xs = slots_items c.close.result.slots in
    let final : Final (Orderly st (board_input b) b.leaves b.seats) ws xs = subst₂ (λ n t. Final (Orderly st (board_input b) n t) ws xs) b.key_is.0 b.key_is.1 c.close.ensures.values.2 in
    if_some (λ x. (get_elem? ws b.leaves ≡ some 1) × (get_elem? xs (root b.leaves) ≡ some (Some x))) (λ x. st (board_input b) 0 (board_leaves b) x) c.settle-in-None.result (λ x h. closed_some st (board_input b) b.leaves b.seats ws xs final x h.0 h.1) c.settle-in-None.ensures.some

pub returns-in-None-clause-none : goal.returns-in-None-clause-none
returns-in-None-clause-none g c = let b = c.args.self in let ws = slots_items c.close.result.words in let xs = slots_items c.close.result.slots in
    if_none (((w : ℕ) × (get_elem? ws b.leaves ≡ some w) × (w ≢ 1)) ⊎ (get_elem? xs (root b.leaves) ≡ some None))
    (All (λ p. hand p ≡ None) c.args.passes.items → vec_len c.args.passes ≡ board_seats b → (sum_by claims c.args.passes.items < board_leaves b) × All (λ p. has_ended p ≡ false) c.args.passes.items) c.settle-in-None.result
    (λ why empty all. let none = c.in-None.ensures.counts empty in let some_seat = b.sizes.2 in absurd (omega arith))
    c.settle-in-None.ensures.none
