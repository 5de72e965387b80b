-- The groups that are open and those that are left, opened, are all of them.
use Rattle.std.proofs.Common.{◌≡◌, ◌++◌, map}
use Rattle.sym_run.specs.Opened.{opened_group}
use Rattle.sym_run.proofs.open_groups.open_all.Given as goal

abbrev pub invariant-groups : goal.invariant-groups
invariant-groups l = l.opened.entries ++ map opened_group l.key-iterator ≡ map opened_group l.fn.groups
