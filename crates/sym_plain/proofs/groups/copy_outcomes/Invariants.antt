-- The outcomes up to the index are copied.
use Rattle.std.proofs.Common.{◌≡◌, take}
use Rattle.sym_plain.proofs.groups.copy_outcomes.Given as goal

abbrev pub invariant-outcomes : goal.invariant-outcomes
invariant-outcomes l = l.copied.items ≡ take l.outcome-index l.outcomes
