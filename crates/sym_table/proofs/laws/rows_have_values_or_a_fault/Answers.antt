use Rattle.sym_table.proofs.RowsAgree.{row_values, row_fault}
use Rattle.sym_table.proofs.laws.rows_have_values_or_a_fault.Goals as goal

pub returns-clause-values : goal.returns-clause-values
returns-clause-values c = row_values

pub returns-clause-fault : goal.returns-clause-fault
returns-clause-fault c = row_fault
