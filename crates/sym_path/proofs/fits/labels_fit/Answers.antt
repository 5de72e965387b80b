use Rattle.std.proofs.Common.{arith}
use Rattle.sym_path.proofs.Checks.{labels_decided}
use Rattle.sym_path.proofs.fits.labels_fit.Goals as goal

pub returns : goal.returns
returns c = labels_decided c.args.set.now c.args.count c.labels.label c.labels.some (omega arith) c.labels.invariant
