use Rattle.std.proofs.lemmas.Bool.Decides.{Decides-at}
use Rattle.sym_path.proofs.JoiningEqual.{part_eq-Decides}
use Rattle.sym_path.proofs.joins.same_part.Goals as goal

pub returns : goal.returns
returns c = Decides-at _ _ c.eq.ensures (part_eq-Decides c.args.first.now c.args.second.now)
