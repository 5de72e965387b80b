use Rattle.std.proofs.Common.{refl}
use Rattle.sym_check.specs.Checking.CheckedScripts.{checked_plan}
use Rattle.sym_bench.proofs.ChainLemmas.{longer, closed}
use Rattle.sym_bench.proofs.chain.extended.Goals as goal

pub returns-in-Fits : goal.returns-in-Fits
returns-in-Fits c = λ before h.
    longer (checked_plan c.args.checked.now) before c.args.rec.now c.args.chain _ c.in-Some.segment c.in-Fits.segment h c.in-Some.is refl refl (rw c.in-Fits.is at c.in_ok-segment-2.ensures.longer.stands)

pub returns-in_ok-push-in-Over : goal.returns-in_ok-push-in-Over
returns-in_ok-push-in-Over c = λ before h.
    closed (checked_plan c.args.checked.now) before c.args.rec.now c.args.chain _ c.in-Some.segment c.in-Over.segment h c.in-Some.is c.in_ok-push-in-Over.ensures.items refl (rw c.in-Over.is at c.in_ok-segment-2.ensures.longer.stands)
