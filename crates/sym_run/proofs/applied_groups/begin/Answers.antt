use Rattle.std.proofs.Common.{◌≡◌, ◌∙◌, [], ◌∷◌, ◌++◌, ap}
use Rattle.std.proofs.lemmas.Result.{on_ok_weaker}
use Rattle.sym_base.specs.declared.values.value.Key.{Key}
use Rattle.sym_base.specs.declared.values.state.State.{State}
use Rattle.sym_base.specs.declared.values.state.Outcome.TheVariants.{Going}
use Rattle.sym_check.specs.Checking.CheckedScripts.{checked_plan}
use Rattle.sym_check.specs.Meaning.Updates.{after, initial}
use Rattle.sym_run.proofs.LedGroups.{begun_led}
use Rattle.sym_run.proofs.applied_groups.begin.Goals as goal

pub returns-clause-leads : goal.returns-clause-leads
returns-clause-leads c = λ records s.
    let p = checked_plan c.args.checked.now in
    let is : c.lead_with.new.outcome ≡ after p records (Going (initial p)) =
    c.in_ok-lead_with.ensures.value records s ∙ ap (λ (s : State). after p records (Going s)) c.in_ok-initial.ensures in
    on_ok_weaker c.begin.result
    (λ e. e ∙ ap (λ (k : Key). c.args.groups.now ++ (k, c.lead_with.new.outcome) ∷ []) c.in_ok-copy.ensures ∙ begun_led p records c.args.key.now c.args.groups.now c.lead_with.new.outcome c.requires.new is)
    c.begin.ensures.ok
