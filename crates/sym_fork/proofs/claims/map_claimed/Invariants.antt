-- What is in a slot is what the call gives at its index.
use Rattle.std.proofs.Common.{◌≡◌, IfOk, vec_len}
use Rattle.std.specs.List.{All}
use Rattle.std.specs.Vec.Iter.{into_iter_items}
use Rattle.sym_fork.specs.Slots.{AreSlots, IsGiven}
use Rattle.sym_fork.proofs.claims.map_claimed.Given as goal

abbrev pub invariant-parts : goal.invariant-parts
invariant-parts g l = record {
  len : vec_len l.slots ≡ l.fn.count;
  slots : AreSlots (IsGiven g.F.Fn l.call) l.slots.items;
  rest : All (λ part. IfOk part (λ made. All (λ one. IsGiven g.F.Fn l.call one.0 one.1) made.items)) (into_iter_items l.part-iterator);
}
