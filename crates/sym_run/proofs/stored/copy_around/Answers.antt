use Rattle.std.proofs.Common.{Some, ◌+◌, length}
use Rattle.sym_run.specs.Keeping.{with_empty}
use Rattle.sym_run.proofs.EmptyWords.{filled_on, there_is}
use Rattle.sym_run.proofs.stored.copy_around.Goals as goal
use Rattle.sym_run.proofs.stored.copy_around.Goals.{in-Some+in_ok-copy_beside, in_default}

pub values-preserved : goal.values-preserved
values-preserved c = elim c.match-get_mut.branch [
  | in-Some+in_ok-copy_beside w ↦
      let both = filled_on (with_empty (Some c.min-place.result) c.args.from.now) c.values.values c.match-get_mut.values c.values.index (length c.args.from.now + 1) w.copy_beside.new.value c.values.invariant.long c.values-test.true c.values.invariant.done
      w.in_ok-copy_beside.ensures w.values-is in
      record { long = both.0; done = both.1 }
  | in_default w ↦ absurd (there_is c.values.values c.values.index (length c.args.from.now + 1) c.values.invariant.long c.values-test.true w.in_default.ensures.item)
]
