-- The list has grown by the paths of this one and each of the others so far.
use Rattle.std.proofs.Common.{take}
use Rattle.sym_check.specs.Checking.CheckedScripts.{checked_plan}
use Rattle.sym_path.specs.Composing.{GrowsByAll}
use Rattle.sym_path.proofs.composition.add_each.Given as goal

abbrev pub invariant-others : goal.invariant-others
invariant-others l = GrowsByAll (checked_plan l.checked) l.path (take l.next-index l.others) l.fn.out.items l.out.items
