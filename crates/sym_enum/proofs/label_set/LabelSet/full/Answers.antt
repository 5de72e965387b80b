use Rattle.sym_enum.specs.Labels.{has_label}
use Rattle.sym_enum.proofs.Bits.{set_full}
use Rattle.sym_enum.proofs.label_set.LabelSet.full.Goals as goal

pub returns : goal.returns
unfolding has_label
returns c = λ label. set_full c.args.count label c.requires.all
