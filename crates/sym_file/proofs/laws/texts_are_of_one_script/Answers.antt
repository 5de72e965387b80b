use Rattle.sym_file.proofs.Read.{one_script}
use Rattle.sym_file.proofs.laws.texts_are_of_one_script.Goals as goal

pub returns : goal.returns
returns c = λ script p bytes saved few h o. one_script bytes few script p saved h o
