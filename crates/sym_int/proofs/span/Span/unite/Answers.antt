use Rattle.std.proofs.Common.{inl, inr, arith}
use Rattle.std.proofs.lemmas.Int.{ints, clamps}
use Rattle.sym_int.proofs.Unions.{gap, turned, in_one, least, greatest}
use Rattle.sym_int.proofs.span.Span.unite.Goals as goal
use Rattle.sym_int.proofs.span.Span.unite.Goals.{then-self-other-via-then-self-other, then-self-other-via-else-self-other+then-other-self}

pub returns-then-self-other : goal.returns-then-self-other
returns-then-self-other c = λ union h.
    elim c.then-self-other.branch [ then-self-other-via-then-self-other w ↦ gap union c.args.self.now c.args.other.now h (omega (arith, ints)) | then-self-other-via-else-self-other+then-other-self w ↦ gap union c.args.other.now c.args.self.now (turned union c.args.self.now c.args.other.now h) (omega (arith, ints)) ]

pub invariant_of-result : goal.invariant_of-result
invariant_of-result c = record { lo_in = omega (arith, ints, clamps); ordered = omega (arith, ints, clamps); hi_in = omega (arith, ints, clamps) }

pub returns : goal.returns
returns c = λ x. (
  λ h. in_one c.args.self.now c.args.other.now x (omega (arith, ints)) (omega (arith, ints)) (least c.args.self.now.lo c.args.other.now.lo x (omega (arith, ints, clamps))) (greatest c.args.self.now.hi c.args.other.now.hi x (omega (arith, ints, clamps))),
  λ h. elim h [ inl p ↦ (omega (arith, ints, clamps), omega (arith, ints, clamps)) | inr p ↦ (omega (arith, ints, clamps), omega (arith, ints, clamps)) ],
)
