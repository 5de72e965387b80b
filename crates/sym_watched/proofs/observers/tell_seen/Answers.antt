use Rattle.sym_watched.proofs.Logs.{on_err, part_none}
use Rattle.sym_watched.proofs.observers.tell_seen.Goals as goal

pub returns-in_err-seen-clause-err : goal.returns-in_err-seen-clause-err
returns-in_err-seen-clause-err g c = on_err _ (part_none _ _)
