use Rattle.std.proofs.Common.{Err, sym, ap, subst}
use Rattle.sym_top.specs.Promises.{WriteFails}
use Rattle.sym_top.proofs.Preparing.{fails-by}
use Rattle.sym_top.proofs.ends.write_report.Goals as goal

pub returns-in-Err-clause-part : goal.returns-in-Err-clause-part
returns-in-Err-clause-part g c =
    subst (WriteFails _ _) (sym c.write_refusal.ensures)
    (fails-by _ _ c.in-Err.error c.in-Err.ensures.err (λ e. c.in-Err.ensures.failed (ap Err e))
    (λ e. c.in-Err.ensures.no_memory (ap Err e)))
