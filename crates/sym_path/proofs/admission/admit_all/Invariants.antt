-- The cells so far are as their parts say.
use Rattle.std.proofs.Common.{◌≡◌, length, drop}
use Rattle.sym_check.specs.Meaning.Conditions.{test_truth}
use Rattle.sym_check.specs.Plan.ScriptPlans.{script_plan}
use Rattle.sym_path.specs.Admitting.{admits}
use Rattle.sym_path.proofs.admission.admit_all.Given as goal

abbrev pub invariant-cells : goal.invariant-cells
invariant-cells l =
    (length l.when ≡ length l.cells)
    × (admits (test_truth (script_plan l.plan).tests) l.when l.cells ≡ admits (test_truth (script_plan l.plan).tests) (drop l.index l.when) (drop l.index l.cells))
