use Rattle.sym_files.proofs.RoundsOnce.{done_first, files_once, rounds_fine}
use Rattle.sym_files.proofs.laws.files_have_one_list_of_rounds.Goals as goal

pub returns-clause-one : goal.returns-clause-one
returns-clause-one c p rules per first files rounds others some a b = files_once p rules per some first files rounds others a b

pub returns-clause-records : goal.returns-clause-records
returns-clause-records c p rules per first files rounds are = rounds_fine p rules per first files rounds are

pub returns-clause-done : goal.returns-clause-done
returns-clause-done c w files all file rounds others some see are done next = done_first w files all some see are file rounds others done next
