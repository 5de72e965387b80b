-- The paths are those of the left ones so far and then the right ones.
use Rattle.sym_check.specs.Checking.CheckedScripts.{checked_plan}
use Rattle.sym_path.specs.Composing.{AreComposed}
use Rattle.sym_path.proofs.composition.composed.Given as goal

abbrev pub invariant-paths : goal.invariant-paths
invariant-paths l = AreComposed (checked_plan l.checked) l.yielded l.right l.paths.items
