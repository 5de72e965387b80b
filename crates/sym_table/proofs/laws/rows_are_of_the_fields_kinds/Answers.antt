use Rattle.sym_table.proofs.FieldKinds.{row_is_record}
use Rattle.sym_table.proofs.RecordsAgree.{records_are}
use Rattle.sym_table.proofs.laws.rows_are_of_the_fields_kinds.Goals as goal

pub returns-clause-row : goal.returns-clause-row
returns-clause-row c = row_is_record

pub returns-clause-rows : goal.returns-clause-rows
returns-clause-rows c = records_are
