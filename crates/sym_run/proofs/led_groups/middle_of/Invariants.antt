-- The cut lies between what was looked at in front and behind.
use Rattle.std.proofs.Common.{◌≤◌}
use Rattle.sym_run.proofs.led_groups.middle_of.Given as goal

abbrev pub invariant-groups : goal.invariant-groups
invariant-groups l = record {
  apart : l.front ≤ l.back;
  within : l.back ≤ l.count;
}
