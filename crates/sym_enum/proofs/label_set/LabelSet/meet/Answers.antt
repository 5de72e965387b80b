use Rattle.sym_enum.specs.Labels.{has_label}
use Rattle.sym_enum.proofs.Bits.{set_and}
use Rattle.sym_enum.proofs.label_set.LabelSet.meet.Goals as goal

pub returns : goal.returns
unfolding has_label
returns c = λ label. set_and c.args.self.now.bits c.args.other.now.bits label
