use Rattle.sym_table.proofs.RecordsAgree.{rows_append}
use Rattle.sym_table.proofs.laws.rows_run_on.Goals as goal

pub returns : goal.returns
returns c = rows_append
