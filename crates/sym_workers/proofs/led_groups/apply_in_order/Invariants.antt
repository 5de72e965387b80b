-- The groups are those after the stretches whose runs were applied.
use Rattle.std.proofs.Common.{◌≡◌, ◌++◌, length}
use Rattle.std.specs.Vec.Iter.{into_iter_items}
use Rattle.sym_check.specs.Checking.CheckedScripts.{checked_plan}
use Rattle.sym_run.specs.declared.runs.Applied.TheVariants as applied
use Rattle.sym_run.specs.Applying.{AreValid}
use Rattle.sym_workers.proofs.LedRounds.{IsLed}
use Rattle.sym_workers.proofs.led_groups.apply_in_order.Given as goal

abbrev pub invariant-runs : goal.invariant-runs
invariant-runs g l =
    let L = g.S.LendsStretches in
    let work = L.lent l.fn.stretches in
    record {
      all : l.yielded ++ into_iter_items l.run-iterator ≡ l.fn.runs.items;
      led : IsLed work (L.size l.fn.stretches) (length l.yielded) l.fn.groups (applied.Done l.groups);
      valid : AreValid (checked_plan work.checked) l.groups;
    }
