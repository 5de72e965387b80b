use Rattle.std.proofs.Common.{List, subst}
use Rattle.sym_base.specs.declared.values.value.Key.{Key}
use Rattle.sym_check.specs.Checking.CheckedScripts.{checked_plan}
use Rattle.sym_run.specs.Chained.{Chained}
use Rattle.sym_run.proofs.Stepping.{IsApplying, applying_all, applying_on, chain_fits}
use Rattle.sym_run.proofs.applied_groups.apply_all.Goals as goal

pub apply_group-requires-clause-fits : goal.apply_group-requires-clause-fits
apply_group-requires-clause-fits c =
    let p = checked_plan c.args.checked.now in
    let q : Key × Chained = (c.in-Some.key.now, c.in-Some.chain.now) in
    chain_fits p c.args.chains.now c.next.new.self c.args.groups.now c.groups.groups q
    (subst (λ (others : List (Key × Chained)). IsApplying p c.args.chains.now others c.args.groups.now c.groups.groups) c.in-Some.ensures.steps c.groups.invariant)
    c.requires.fits

pub groups-preserved : goal.groups-preserved
groups-preserved c =
    let p = checked_plan c.args.checked.now in
    let q : Key × Chained = (c.in-Some.key.now, c.in-Some.chain.now) in
    applying_on p c.args.chains.now c.next.new.self c.args.groups.now c.groups.groups c.apply_group.new.groups q
    (subst (λ (others : List (Key × Chained)). IsApplying p c.args.chains.now others c.args.groups.now c.groups.groups) c.in-Some.ensures.steps c.groups.invariant)
    c.in_ok-apply_group.ensures.valid c.in_ok-apply_group.ensures.leads

pub returns-clause-groups : goal.returns-clause-groups
returns-clause-groups c = λ records s.
    applying_all (checked_plan c.args.checked.now) c.args.chains.now c.args.groups.now c.groups.groups
    (subst (λ (others : List (Key × Chained)). IsApplying (checked_plan c.args.checked.now) c.args.chains.now others c.args.groups.now c.groups.groups) c.in-None.ensures.steps.0 c.groups.invariant)
    records s
