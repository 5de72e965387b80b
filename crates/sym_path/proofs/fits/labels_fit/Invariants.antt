-- What is known of the labels so far.
use Rattle.sym_path.proofs.Checks.{AreLabelsSeen}
use Rattle.sym_path.proofs.fits.labels_fit.Given as goal

abbrev pub invariant-labels : goal.invariant-labels
invariant-labels l = AreLabelsSeen l.set l.count l.label l.some
