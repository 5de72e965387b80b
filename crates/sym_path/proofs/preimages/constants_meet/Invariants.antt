-- The constants so far are as they are needed.
use Rattle.std.proofs.Common.{◌≡◌, length, drop}
use Rattle.sym_check.specs.Meaning.Conditions.{test_truth}
use Rattle.sym_check.specs.Plan.ScriptPlans.{script_plan}
use Rattle.sym_path.specs.Pulling.{zip_all, constant_meets}
use Rattle.sym_path.proofs.preimages.constants_meet.Given as goal

abbrev pub invariant-cells : goal.invariant-cells
invariant-cells l =
    (length l.forms ≡ length l.needs)
    × (zip_all (constant_meets (test_truth (script_plan l.plan).tests)) l.forms l.needs ≡ zip_all (constant_meets (test_truth (script_plan l.plan).tests)) (drop l.index l.forms) (drop l.index l.needs))
