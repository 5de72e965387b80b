use Rattle.std.specs.Vec.Iter.{into_iter_items}
use Rattle.sym_check.specs.Checking.CheckedScripts.{checked_plan}
use Rattle.sym_run.proofs.TakenGroups.{IsTakingAt}
use Rattle.sym_run.proofs.led_groups.take_all.Given as goal

abbrev pub invariant-groups : goal.invariant-groups
invariant-groups l = IsTakingAt (checked_plan l.fn.checked) l.fn.chains l.fn.groups l.groups l.taken.items (into_iter_items l.place-iterator)
