use Rattle.sym_enum.specs.Labels.{has_label}
use Rattle.sym_enum.proofs.Bits.{set_pow, one_label}
use Rattle.sym_enum.proofs.label_set.LabelSet.one.Goals as goal

pub returns : goal.returns
unfolding has_label
returns c = λ other. rw (one_label c.args.label c.requires) (set_pow c.args.label other)
