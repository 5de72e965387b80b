-- The first ones were joined, and the others are as before.
use Rattle.std.proofs.Common.{◌≡◌, ◌<◌, ◌≤◌, ℕ, length}
use Rattle.std.specs.Prelude.{slice_index_or}
use Rattle.sym_check.specs.Checking.CheckedScripts.{checked_plan}
use Rattle.sym_run.specs.Closing.{IsJoinedTo}
use Rattle.sym_run.specs.declared.closed_groups.Joining.{Joining}
use Rattle.sym_run.proofs.closed_groups.join_part.Given as goal

abbrev pub invariant-groups : goal.invariant-groups
invariant-groups l =
    let p = checked_plan l.checked in
    record {
      long : length l.joining ≡ length l.fn.joining;
      done : (i : ℕ) (d : Joining) → i < l.k → IsJoinedTo p l.limit (slice_index_or l.fn.joining i d) (slice_index_or l.joining i d);
      rest : (i : ℕ) (d : Joining) → l.k ≤ i → slice_index_or l.joining i d ≡ slice_index_or l.fn.joining i d;
    }
