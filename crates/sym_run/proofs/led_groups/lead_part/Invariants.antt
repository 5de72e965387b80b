-- The first ones were led, and the others are as before.
use Rattle.std.proofs.Common.{◌≡◌, ◌<◌, ◌≤◌, ◌+◌, ℕ, length}
use Rattle.std.specs.Prelude.{slice_get, slice_index_or}
use Rattle.sym_check.specs.Checking.CheckedScripts.{checked_plan}
use Rattle.sym_run.specs.Leading.{IsLedBy}
use Rattle.sym_run.specs.declared.led_groups.Taken.{Taken}
use Rattle.sym_run.proofs.led_groups.lead_part.Given as goal

abbrev pub invariant-groups : goal.invariant-groups
invariant-groups l =
    let p = checked_plan l.checked in
    record {
      long : length l.taken ≡ length l.fn.taken;
      done : (i : ℕ) (d : Taken) → i < l.k → IsLedBy p (slice_get l.chains (l.start + i)) (slice_index_or l.fn.taken i d) (slice_index_or l.taken i d);
      rest : (i : ℕ) (d : Taken) → l.k ≤ i → slice_index_or l.taken i d ≡ slice_index_or l.fn.taken i d;
    }
