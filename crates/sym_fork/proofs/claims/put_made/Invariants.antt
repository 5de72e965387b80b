-- What is there, and what is still to be put there, are results of the call at their indices.
use Rattle.std.proofs.Common.{◌≡◌, vec_len}
use Rattle.std.specs.List.{All}
use Rattle.sym_fork.specs.Slots.{AreSlots, IsGiven}
use Rattle.sym_fork.proofs.claims.put_made.Given as goal

abbrev pub invariant-made : goal.invariant-made
invariant-made g l = record {
  len : vec_len l.slots ≡ vec_len l.fn.slots;
  slots : AreSlots (IsGiven g.F.Fn l.call) l.slots.items;
  rest : All (λ one. IsGiven g.F.Fn l.call one.0 one.1) l.index-iterator.rest.items;
}
