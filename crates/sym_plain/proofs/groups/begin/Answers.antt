use Rattle.std.proofs.Common.{◌≡◌, ◌∙◌, ◌++◌, ◌∷◌, [], ap, ap₂}
use Rattle.std.specs.List.{zip}
use Rattle.sym_base.specs.declared.values.state.State.{State}
use Rattle.sym_base.specs.declared.values.state.Outcome.TheVariants.{Going}
use Rattle.sym_check.specs.Plan.ScriptPlans.{script_plan}
use Rattle.sym_check.specs.Meaning.Updates.{initial, step}
use Rattle.sym_plain.proofs.Zipped.{begun, is_absent, pushed}
use Rattle.sym_plain.proofs.groups.begin.Goals as goal

pub push-requires : goal.push-requires
push-requires c =
    rw c.in_ok-key.ensures (record {
      new = is_absent c.args.keys.now.keys c.args.outcomes.now.items c.args.key.now c.requires.len c.requires.new;
      distinct = c.requires.distinct;
    })

pub returns-clause-steps : goal.returns-clause-steps
returns-clause-steps c =
    let p = script_plan c.args.plan.now in
    let old = zip c.args.keys.now.keys c.args.outcomes.now.items in
    let first : c.advance.new.outcome ≡ step p (Going (initial p)) c.args.rec.now =
    c.in_ok-advance.ensures ∙ ap (λ (s : State). step p (Going s) c.args.rec.now) c.in_ok-first_state.ensures in
    pushed c.push.result c.args.keys.now.keys c.push.new.keys.keys c.args.outcomes.now.items c.push.new.outcomes.items _ _ _ c.requires.len
    (ap₂ (λ k o. old ++ (k, o) ∷ []) c.in_ok-key.ensures first ∙ begun p c.args.rec.now c.args.key.now old c.requires.new)
    c.push.ensures.keys c.push.ensures.outcomes
