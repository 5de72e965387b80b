-- Each result so far is one that the call gives at its index.
use Rattle.std.specs.List.{All}
use Rattle.sym_fork.specs.Slots.{IsGiven}
use Rattle.sym_fork.proofs.claims.claimed.Given as goal

abbrev pub invariant-indices : goal.invariant-indices
invariant-indices g l = All (λ one. IsGiven g.F.Fn l.call one.0 one.1) l.made.items
