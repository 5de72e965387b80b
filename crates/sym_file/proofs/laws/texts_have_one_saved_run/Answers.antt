use Rattle.sym_file.proofs.Read.{one_saved}
use Rattle.sym_file.proofs.laws.texts_have_one_saved_run.Goals as goal

pub returns : goal.returns
returns c = λ script p bytes first second formed few a s b t. one_saved script p formed bytes few first second a s b t
