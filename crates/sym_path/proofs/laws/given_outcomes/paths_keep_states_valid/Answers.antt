use Rattle.sym_path.proofs.Fitted.{end_valid}
use Rattle.sym_path.proofs.laws.given_outcomes.paths_keep_states_valid.Goals as goal

pub returns : goal.returns
returns c = λ p truth path s fits a v. end_valid truth p path.when path.end s fits.end a v
