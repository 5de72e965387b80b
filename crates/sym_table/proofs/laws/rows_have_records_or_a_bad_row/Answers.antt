use Rattle.sym_table.proofs.RecordsAgree.{rows_records, rows_bad}
use Rattle.sym_table.proofs.laws.rows_have_records_or_a_bad_row.Goals as goal

pub returns-clause-records : goal.returns-clause-records
returns-clause-records c = rows_records

pub returns-clause-bad : goal.returns-clause-bad
returns-clause-bad c = rows_bad
