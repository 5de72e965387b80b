use Rattle.std.proofs.lemmas.Bool.Decides.{Decides-at}
use Rattle.sym_known.proofs.Equal.{outcome_eq-Decides}
use Rattle.sym_known.proofs.placed.is_same.Goals as goal

pub returns : goal.returns
returns c = (Decides-at _ _ c.eq.ensures (outcome_eq-Decides c.args.outcome.now c.args.other.now)).0
