use Rattle.sym_files.proofs.FilesCut.{cuts_change_nothing}
use Rattle.sym_files.proofs.laws.files_are_cut_anywhere.Goals as goal

pub returns : goal.returns
returns c = cuts_change_nothing
