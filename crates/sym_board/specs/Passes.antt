-- What callers see of a board and its passes.
use Rattle.std.specs.Prelude.{◌≡◌, ℕ, ◌-◌, Bool, false, Option, Some, None}
use Rattle.sym_board.specs.Tree.{place}
use Rattle.sym_board.specs.declared.tree.Interval.{Interval}
use Rattle.sym_board.specs.declared.pass.Pass.{Pass}
use Rattle.sym_board.specs.declared.board.Board.{Board}

abbrev pub interval : ℕ → ℕ → Interval
interval lo hi = record { lo = lo; hi = hi }

-- the interval of a node by its number
abbrev pub span_of : ℕ → Option ℕ → Option Interval
span_of n None = None
span_of n (Some k) = Some (interval (place n k).lo (place n k).hi)

-- how many chunks
abbrev pub span_len : Option Interval → ℕ
span_len None = 0
span_len (Some i) = i.hi - i.lo

module _ {P I : Type 0} {g : _} where
  -- the chunks of the node in the hand
  abbrev pub hand : Pass P I g → Option Interval
  hand p = span_of p.leaves p.hand

  abbrev pub has_ended : Pass P I g → Bool
  has_ended p = p.over

  -- how many leaves this pass has claimed
  abbrev pub claims : Pass P I g → ℕ
  claims p = p.seat.me.0.claimed

  -- what the claim word held at this pass's last claim, as that step found it
  abbrev pub claim_found : Pass P I g → ℕ
  claim_found p = p.seat.me.0.claim_found

  -- the chunks of the node that this pass delivered last
  abbrev pub delivered : Pass P I g → Option Interval
  delivered p = span_of p.leaves p.seat.me.0.delivered

  -- What the word at which that node arrived held, as that step found it. For the root it is the
  -- crown word, and for any other node its parent's word, in which bit 1 is the left child's and
  -- bit 2 the right one's.
  abbrev pub arrival_found : Pass P I g → ℕ
  arrival_found p = p.seat.me.0.arrival_found

module _ {P I : Type 0} where
  abbrev pub board_leaves : Board P I → ℕ
  board_leaves b = b.leaves

  -- how many passes the board was made with
  abbrev pub board_seats : Board P I → ℕ
  board_seats b = b.seats

  abbrev pub board_input : Board P I → I
  board_input b = b.table.shared.key.input.value

  -- all chunks of the board, which are those of the root
  abbrev pub whole : Board P I → Interval
  whole b = interval 0 (board_leaves b)

module _ {P I : Type 0} {g : _} where
  -- a pass of the board's table, with the board's input, leaves and number of passes
  abbrev pub IsPassOf : Board P I → Pass P I g → Type 0
  IsPassOf b p =
      (p.seat.table_id ≡ b.table.shared.table_id) × (p.seat.me.0.input ≡ Some (board_input b))
      × (p.leaves ≡ b.leaves) × (p.seat.me.0.seats ≡ b.seats)

  -- a pass that may claim: its hand is empty, and it hasn't ended
  abbrev pub IsFree : Pass P I g → Type 0
  IsFree p = (hand p ≡ None) × (has_ended p ≡ false)

  -- a pass of this board that may claim and has claimed nothing
  abbrev pub IsNewPassOf : Board P I → Pass P I g → Type 0
  IsNewPassOf b p = IsPassOf b p × IsFree p × (claims p ≡ 0)

  -- The hand isn't empty, and the piece stands for the hand's interval of the board's input.
  abbrev pub StandsForHand : (I → ℕ → ℕ → P → Type 0) → Board P I → Pass P I g → P → Type 0
  StandsForHand stands b p x =
      (i : Interval) × (hand p ≡ Some i) × stands (board_input b) i.lo i.hi x

  -- What only a claim changes: whether the pass has ended, how many leaves it claimed, and what its
  -- last claim found.
  abbrev pub KeepsClaims : Pass P I g → Pass P I g → Type 0
  KeepsClaims old new = (has_ended new ≡ has_ended old)
      × (claims new ≡ claims old) × (claim_found new ≡ claim_found old)
