use Rattle.std.proofs.Common.{refl}
use Rattle.sym_run.proofs.opened.known_after.Goals as goal

pub returns-clause-stands : goal.returns-clause-stands
returns-clause-stands c = λ first rest before last. record { first = first; rest = rest; cut = refl; before = before; after = c.in_ok-of.ensures.stands rest last }

pub returns-clause-extends : goal.returns-clause-extends
returns-clause-extends c = λ first rest some before last. record { first = first; rest = rest; cut = refl; some = some; before = before; after = c.in_ok-of.ensures.stands rest last }
