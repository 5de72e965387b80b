-- The literals so far have their outcomes.
use Rattle.std.proofs.Common.{◌≡◌, drop}
use Rattle.std.specs.List.{list_all}
use Rattle.sym_check.specs.Meaning.Conditions.{test_truth}
use Rattle.sym_check.specs.Plan.ScriptPlans.{script_plan}
use Rattle.sym_pred.specs.Literals.{literals}
use Rattle.sym_path.specs.Admitting.{gives_outcome}
use Rattle.sym_path.proofs.admission.give_all.Given as goal

abbrev pub invariant-literals : goal.invariant-literals
invariant-literals l =
    list_all (gives_outcome (test_truth (script_plan l.plan).tests) l.parts) (literals l.facts) ≡ list_all (gives_outcome (test_truth (script_plan l.plan).tests) l.parts) (drop l.index (literals l.facts))
