use Rattle.std.proofs.Common.{◌≡◌, ◌∙◌, sym, true, false}
use Rattle.sym_check.specs.Meaning.Conditions.{test_truth}
use Rattle.sym_check.specs.Plan.ScriptPlans.{script_plan}
use Rattle.sym_path.proofs.Possibly.{constants_decided}
use Rattle.sym_path.proofs.possible_pairs.can_follow.Goals as goal

pub returns-then-constants_meet : goal.returns-then-constants_meet
returns-then-constants_meet c = (
  λ h. record {
    constants = (constants_decided (test_truth (script_plan c.args.plan.now).tests) c.args.forms.now c.args.needs.now).0 (sym c.constants_meet.ensures ∙ c.if-constants_meet.true);
    cells = c.all_left.ensures.0 h;
  },
  λ h. c.all_left.ensures.1 h.cells,
)

pub returns-else-constants_meet : goal.returns-else-constants_meet
returns-else-constants_meet c = (
  λ h. absurd (let e : true ≡ false = sym h ∙ c.if-constants_meet.false in cc),
  λ h. c.constants_meet.ensures ∙ (constants_decided (test_truth (script_plan c.args.plan.now).tests) c.args.forms.now c.args.needs.now).1 h.constants,
)
