use Rattle.std.proofs.Common.{refl, arith}
use Rattle.sym_path.specs.Taking.{IsTakenTo}
use Rattle.sym_path.proofs.JoiningTaken.{whole_zip}
use Rattle.sym_path.proofs.joins.are_taken.Goals as goal

pub returns : goal.returns
returns c = (
  λ e. whole_zip (IsTakenTo c.args.when.now) c.args.forms.now c.args.others.now c.cells.index c.cells.invariant.0 (omega arith) c.cells.invariant.1,
  λ h. refl,
)
