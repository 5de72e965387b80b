use Rattle.sym_table.proofs.HeadersAgree.{header_columns, header_fault}
use Rattle.sym_table.proofs.laws.headers_have_columns_or_a_fault.Goals as goal

pub returns-clause-columns : goal.returns-clause-columns
returns-clause-columns c = header_columns

pub returns-clause-fault : goal.returns-clause-fault
returns-clause-fault c = header_fault
