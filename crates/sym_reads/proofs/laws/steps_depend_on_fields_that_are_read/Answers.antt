use Rattle.sym_reads.proofs.Declared.{named_declared}
use Rattle.sym_reads.proofs.SameSteps.{step_same, after_same}
use Rattle.sym_reads.proofs.laws.steps_depend_on_fields_that_are_read.Goals as goal

pub returns-clause-one : goal.returns-clause-one
returns-clause-one c = step_same

pub returns-clause-many : goal.returns-clause-many
returns-clause-many c = after_same

pub returns-clause-declared : goal.returns-clause-declared
returns-clause-declared c = named_declared
