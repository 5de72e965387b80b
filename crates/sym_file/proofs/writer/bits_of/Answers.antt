use Rattle.std.proofs.Common.{◌≡◌, ◌∙◌, ◌==◌, true, false, sym}
use Rattle.std.specs.Int.{bit_at}
use Rattle.sym_enum.specs.Labels.{has_label}
use Rattle.sym_file.proofs.SetBits.{bit_added, bit_kept, bits_whole}
use Rattle.sym_file.proofs.writer.bits_of.Goals as goal
use Rattle.sym_file.proofs.writer.bits_of.Goals.{then-has, else-has}

pub labels-preserved : goal.labels-preserved
unfolding has_label
labels-preserved c = elim c.if-has.branch [
  | then-has w ↦
      let is : (bit_at c.args.set.now.bits c.labels.label == 1) ≡ true = sym c.has.ensures.exact ∙ w.if-has.true in
      rw w.bits-is (bit_added c.args.set.now.bits c.labels.label c.labels.bits c.labels-test.true c.labels.invariant is)
  | else-has w ↦
      let is : (bit_at c.args.set.now.bits c.labels.label == 1) ≡ false = sym c.has.ensures.exact ∙ w.if-has.false in
      rw w.bits-is (bit_kept c.args.set.now.bits c.labels.label c.labels.bits c.labels.invariant is)
]

pub returns : goal.returns
returns c = bits_whole c.args.set.now.bits c.labels.label c.labels.bits c.args.set.now.below_32 c.labels-test.false c.labels.invariant
