use Rattle.sym_pred.specs.Literals.{atom_of}
use Rattle.sym_file.proofs.Made.{none_yet, one_made}
use Rattle.sym_file.proofs.parts.facts_of_one.Goals as goal

pub with-requires : goal.with-requires
with-requires c = none_yet c.none.result (atom_of c.args.literal) c.none.ensures

pub returns : goal.returns
returns c = one_made c.args.literal c.none.result c.with.result c.none.ensures c.with.ensures.facts
