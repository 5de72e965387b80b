use Rattle.sym_path.proofs.Checks.{kinds_decided}
use Rattle.sym_path.proofs.kinds.same_kinds.Goals as goal

pub returns : goal.returns
returns c = kinds_decided c.args.first.now c.args.second.now c.eq.result c.eq.ensures
