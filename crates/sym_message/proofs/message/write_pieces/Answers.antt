use Rattle.std.proofs.Common.{inl, inr, arith, rules}
use Rattle.sym_message.proofs.TellingLemmas.{prefix-within}
use Rattle.sym_message.proofs.message.write_pieces.Goals as goal

pub returns-in-Err-Failed-clause-told : goal.returns-in-Err-Failed-clause-told
returns-in-Err-Failed-clause-told g c = inr (
  prefix-within (λ piece. piece.now) c.args.pieces.now c.pieces.piece-index _ _ _ _
      (omega arith) c.pieces.invariant.put
      (rw c.as_bytes.ensures.value at c.in-Err-Failed.ensures.err),
  inl (search rules),
)

pub returns-in-Err-NoMemory-clause-told : goal.returns-in-Err-NoMemory-clause-told
returns-in-Err-NoMemory-clause-told g c = inr (
  prefix-within (λ piece. piece.now) c.args.pieces.now c.pieces.piece-index _ _ _ _
      (omega arith) c.pieces.invariant.put
      (rw c.as_bytes.ensures.value at c.in-Err-NoMemory.ensures.err),
  inr (search rules),
)
