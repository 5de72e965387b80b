use Rattle.std.specs.Vec.Iter.{into_iter_items}
use Rattle.sym_run.proofs.TakenGroups.{IsPutting}
use Rattle.sym_run.proofs.led_groups.put_all.Given as goal

abbrev pub invariant-groups : goal.invariant-groups
invariant-groups l = IsPutting l.fn.chains l.key-iterator l.fn.groups l.groups l.fn.taken.items (into_iter_items l.rest)
