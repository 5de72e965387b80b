use Rattle.sym_check.proofs.ValidSteps.{number_is, label_is, all_fixed_are}
use Rattle.sym_check.proofs.laws.values.values_are_of_their_kinds.Goals as goal

pub returns-clause-number : goal.returns-clause-number
returns-clause-number c enums k v n x h t e = number_is enums k v h n x t e

pub returns-clause-label : goal.returns-clause-label
returns-clause-label c enums k v of l h t = label_is enums k v of h l t

pub returns-clause-values : goal.returns-clause-values
returns-clause-values c enums k v kinds es xs h t e = all_fixed_are enums k v h kinds es xs t e
