-- The first values and those of the other expressions are the values of all.
use Rattle.std.proofs.Common.{◌≡◌, ◌≤◌, drop, length, map, take}
use Rattle.sym_check.specs.Plan.FixedPlans.{fixed_plan}
use Rattle.sym_check.specs.Meaning.FixedValues.{fixed_values}
use Rattle.sym_check.specs.Checking.KnownValues.{known_values}
use Rattle.sym_check.specs.Meaning.Updates.{or_fault}
use Rattle.sym_plain.proofs.FixedLists.{values_after}
use Rattle.sym_plain.proofs.update.conditions.set_values.Given as goal

abbrev pub invariant-values : goal.invariant-values
invariant-values l = record {
  meaning : or_fault (fixed_values (known_values l.known) (map fixed_plan l.expressions))
      ≡ values_after (known_values l.known) (take l.index l.values) (map fixed_plan (drop l.index l.expression-items));
  long : l.index ≤ length l.values;
}
