use Rattle.sym_check.specs.Checking.CheckedScripts.{checked_plan}
use Rattle.sym_path.proofs.Composed.{composed_more}
use Rattle.sym_path.proofs.composition.composed.Goals as goal

pub paths-preserved : goal.paths-preserved
paths-preserved c = composed_more (checked_plan c.args.checked.now) c.in-Some.path c.paths.yielded c.args.right.now c.paths.paths.items c.add_path.new.out.items c.paths.invariant c.in_ok-add_path.ensures
