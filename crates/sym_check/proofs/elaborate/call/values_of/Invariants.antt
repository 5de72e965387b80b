-- The values so far, before those that the rest of the kinds make of the rest of the operands.
use Rattle.std.proofs.Common.{◌≡◌, map, drop}
use Rattle.std.specs.Vec.Iter.{into_iter_items}
use Rattle.sym_check.specs.Meaning.Arithmetic.{and_then}
use Rattle.sym_check.specs.Elaborate.Expressions.{values_of}
use Rattle.sym_check.specs.Plan.FixedPlans.{fixed_plan}
use Rattle.sym_check.specs.Checking.TypedPlans.{located_plan}
use Rattle.sym_check.proofs.Gathered.{gathered}
use Rattle.sym_check.proofs.elaborate.call.values_of.Given as goal

abbrev pub invariant-kinds : goal.invariant-kinds
invariant-kinds l =
    values_of l.kinds (map located_plan l.fn.located.items)
    ≡ and_then (gathered (map fixed_plan l.values.items)) (values_of (drop l.kind-index l.kinds) (map located_plan (into_iter_items l.rest)))
