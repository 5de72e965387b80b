use Rattle.sym_parse.proofs.Refusing.{kept}
use Rattle.sym_parse.proofs.laws.limits_change_nothing_before_them.Goals as goal

pub returns : goal.returns
returns c = kept
