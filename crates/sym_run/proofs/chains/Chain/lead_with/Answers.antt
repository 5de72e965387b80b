use Rattle.std.proofs.Common.{subst, sym}
use Rattle.std.proofs.lemmas.Result.{on_ok_weaker}
use Rattle.sym_check.specs.Checking.CheckedScripts.{checked_plan}
use Rattle.sym_run.specs.Chained.{Chained}
use Rattle.sym_run.specs.Chains.{ChainStandsFor}
use Rattle.sym_run.proofs.KeptRecords.{chain_led}
use Rattle.sym_run.proofs.chains.Chain.lead_with.Goals as goal

pub returns-clause-value : goal.returns-clause-value
returns-clause-value c = λ records h.
    let p = checked_plan c.args.checked.now in
    let chain : Chained = record { segments = c.self.inside.segments; kept = c.self.inside.kept } in
    on_ok_weaker c.step_all.result
    (λ e. chain_led p chain records c.args.outcome.now c.lead.new.outcome c.step_all.new.outcome (subst (ChainStandsFor p records) (sym c.self.view_is) h) c.in_ok-lead.ensures.value e)
    c.step_all.ensures.value
