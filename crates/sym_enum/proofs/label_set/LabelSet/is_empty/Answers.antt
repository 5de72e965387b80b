use Rattle.std.proofs.lemmas.Bool.{eqb-true, eq-eqb}
use Rattle.sym_enum.specs.Labels.{has_label}
use Rattle.sym_enum.proofs.Bits.{no_bits, bits_of_none}
use Rattle.sym_enum.proofs.label_set.LabelSet.is_empty.Goals as goal

pub returns : goal.returns
unfolding has_label
returns c = (λ h. bits_of_none c.args.self.now.bits (eqb-true c.args.self.now.bits 0 h), λ h. eq-eqb c.args.self.now.bits 0 (no_bits c.args.self.now.bits h))
