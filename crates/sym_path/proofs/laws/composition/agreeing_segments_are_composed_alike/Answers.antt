use Rattle.sym_path.proofs.Agreeing.{composed_alike}
use Rattle.sym_path.proofs.laws.composition.agreeing_segments_are_composed_alike.Goals as goal

pub returns : goal.returns
returns c = composed_alike
