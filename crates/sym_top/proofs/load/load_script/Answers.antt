use Rattle.std.proofs.Common.{Err, sym, ap, subst}
use Rattle.sym_files.specs.Passing.{May}
use Rattle.sym_top.specs.Loading.{Unloads}
use Rattle.sym_top.proofs.Preparing.{unread-unloads, read-may, loads-by, unloads-by}
use Rattle.sym_top.proofs.load.load_script.Goals as goal

pub returns-in-Err-clause-refused : goal.returns-in-Err-clause-refused
returns-in-Err-clause-refused g c =
    subst (Unloads _ _ _) (sym c.read_refusal.ensures)
    (unread-unloads _ _ _ c.in-Err.error (λ e. c.in-Err.ensures.too_large (ap Err e))
    (λ e. c.in-Err.ensures.failed (ap Err e)))

pub returns-clause-loaded : goal.returns-clause-loaded
returns-clause-loaded g c =
    loads-by _ c.as_slice.result.now c.accept.result
    (subst (May _) (sym c.as_slice.ensures.value) (read-may _ _ c.in-Ok.ensures.ok))
    c.accept.ensures.accepted

pub returns-clause-refused : goal.returns-clause-refused
returns-clause-refused g c =
    unloads-by _ _ _ c.as_slice.result.now c.accept.result
    (subst (May _) (sym c.as_slice.ensures.value) (read-may _ _ c.in-Ok.ensures.ok))
    c.accept.ensures.refused
