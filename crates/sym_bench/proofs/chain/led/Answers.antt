use Rattle.std.proofs.Common.{◌∙◌, sym, ap}
use Rattle.sym_base.specs.declared.values.state.Outcome.{Outcome}
use Rattle.sym_check.specs.Checking.CheckedScripts.{checked_plan}
use Rattle.sym_check.specs.Meaning.Updates.{after}
use Rattle.sym_check.proofs.PlanLaws.{ended_stays}
use Rattle.sym_bench.proofs.chain.led.Goals as goal

pub returns-in-Ended-clause-value : goal.returns-in-Ended-clause-value
returns-in-Ended-clause-value c = λ records stands.
    sym (ap (λ (o : Outcome). after (checked_plan c.args.checked.now) records o) c.in-Ended.is ∙ ended_stays (checked_plan c.args.checked.now) records c.in-Ended.fault)
