use Rattle.sym_check.specs.Plan.ScriptPlans.{script_plan}
use Rattle.sym_path.proofs.Decided.{admits_decided}
use Rattle.sym_path.proofs.path.Path.admits_by.Goals as goal

pub returns-clause-exact : goal.returns-clause-exact
returns-clause-exact c = rw c.admit_all.ensures (rw (c.as_slice.ensures, c.as_slice-2.ensures) (admits_decided _ c.args.self.now.when c.args.state.now))

pub admit_all-requires : goal.admit_all-requires
admit_all-requires c = c.well_formed_tests_are_fixed.ensures (script_plan c.args.plan.now) c.requires
