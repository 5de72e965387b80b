use Rattle.std.proofs.Common.{sym, arith}
use Rattle.sym_file.proofs.Made.{no_set}
use Rattle.sym_file.proofs.SetBits.{absent, bit_kept, label_added, no_labels, present, set_whole}
use Rattle.sym_file.proofs.parts.set_of.Goals as goal
use Rattle.sym_file.proofs.parts.set_of.Goals.{then-bits-label-eq1, else-bits-label-eq1}

pub returns-then-number : goal.returns-then-number
returns-then-number c = sym (no_set c.args.number (λ less. let over = c.if-number.true in omega (arith, less, over)))

pub labels-init : goal.labels-init
labels-init c = no_labels c.args.number c.one.result c.split.result.1 c.one.ensures c.split.ensures.rest

pub labels-preserved : goal.labels-preserved
labels-preserved c = elim c.if-bits-label-eq1.branch [
  | then-bits-label-eq1 w ↦
      rw w.set-is (label_added c.args.number c.labels.label c.labels.set w.one-then-bits-label-eq1.result w.unite-set.result c.labels.invariant
      w.one-then-bits-label-eq1.ensures w.unite-set.ensures (present c.args.number c.labels.label w.if-bits-label-eq1.true))
  | else-bits-label-eq1 w ↦
      rw w.set-is (bit_kept c.args.number c.labels.label c.labels.set.bits c.labels.invariant (absent c.args.number c.labels.label w.if-bits-label-eq1.false))
]

pub returns : goal.returns
returns c = set_whole c.args.number c.labels.label c.labels.set (let less = c.if-number.false in omega (arith, less)) c.labels-test.false c.labels.invariant
