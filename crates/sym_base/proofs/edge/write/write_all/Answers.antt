use Rattle.std.proofs.Common.{rules}
use Rattle.sym_base.proofs.Appending.{appended-next}
use Rattle.sym_base.proofs.edge.write.write_all.Goals as goal

pub pieces-preserved : goal.pieces-preserved
pieces-preserved g c = record {
  inside = search rules;
  put = appended-next _ _ _ _ _ _ c.pieces.invariant.inside c.pieces.invariant.put c.in-Ok.ensures.ok;
  later = search rules;
  later_short = search rules;
}
