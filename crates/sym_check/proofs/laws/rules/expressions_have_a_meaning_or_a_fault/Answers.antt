use Rattle.sym_check.proofs.ExpressionsAgree.{means_inferred, inferred_means, breaks_inferred, inferred_breaks}
use Rattle.sym_check.proofs.laws.rules.expressions_have_a_meaning_or_a_fault.Goals as goal

pub returns-clause-meaning : goal.returns-clause-meaning
returns-clause-meaning c s e t = (means_inferred s e t, inferred_means s e t)

pub returns-clause-fault : goal.returns-clause-fault
returns-clause-fault c s e f = (breaks_inferred s e f, inferred_breaks s e f)
