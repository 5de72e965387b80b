use Rattle.sym_check.proofs.ValidSteps.{fixed_is, more_known, record_known}
use Rattle.sym_check.proofs.laws.values.locals_are_of_their_kinds.Goals as goal

pub returns-clause-fields : goal.returns-clause-fields
returns-clause-fields c = record_known

pub returns-clause-local : goal.returns-clause-local
returns-clause-local c enums k v n last e x h t q = more_known enums k v n last x h (fixed_is enums k v h last e x t q)
