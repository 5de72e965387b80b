use Rattle.sym_reads.proofs.MarksNext.{marks_next}
use Rattle.sym_reads.proofs.fields.mark_all.Goals as goal

pub values-preserved : goal.values-preserved
values-preserved c = marks_next c.as_slice-value-items.result.now c.values.value-index c.value-item.result c.values.reads c.mark_fixed.new.reads _ c.values-test.true c.value-item.is c.mark_fixed.ensures c.values.invariant
