-- The entries that are copied and those that are left are those of the map.
use Rattle.std.proofs.Common.{◌≡◌, ◌++◌}
use Rattle.sym_run.proofs.run_groups.copy_map.Given as goal

abbrev pub invariant-entries : goal.invariant-entries
invariant-entries l = l.copied.entries ++ l.key-iterator ≡ l.map.entries
