use Rattle.sym_files.proofs.FilesAgree.{files_records, files_problem}
use Rattle.sym_files.proofs.laws.files_have_records_or_a_problem.Goals as goal

pub returns-clause-records : goal.returns-clause-records
returns-clause-records c = files_records

pub returns-clause-problem : goal.returns-clause-problem
returns-clause-problem c = files_problem
