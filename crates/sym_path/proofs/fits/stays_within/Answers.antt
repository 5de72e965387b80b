use Rattle.sym_path.proofs.Checks.{stays_decided, stays_everywhere, stays_nowhere}
use Rattle.sym_path.proofs.fits.stays_within.Goals as goal

pub returns-in-In : goal.returns-in-In
returns-in-In c = stays_decided c.args.range.now c.args.span.now c.in-In.within c.args.form.now c.span_fits.result c.span_fits.ensures c.in-In.ensures.exact

pub returns-in-All : goal.returns-in-All
returns-in-All c = stays_everywhere c.args.range.now c.args.span.now c.args.form.now c.in-All.ensures.exact

pub returns-in-Never : goal.returns-in-Never
returns-in-Never c = stays_nowhere c.args.range.now c.args.span.now c.args.form.now c.in-Never.ensures.exact
