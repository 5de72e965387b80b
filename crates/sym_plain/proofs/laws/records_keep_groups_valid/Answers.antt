use Rattle.sym_plain.proofs.Valid.{record_valid, records_valid}
use Rattle.sym_plain.proofs.laws.records_keep_groups_valid.Goals as goal

pub returns-clause-one : goal.returns-clause-one
returns-clause-one c = record_valid

pub returns-clause-many : goal.returns-clause-many
returns-clause-many c = records_valid
