use Rattle.sym_base.specs.declared.values.value.Key.{Key}
use Rattle.sym_check.specs.Checking.CheckedScripts.{checked_plan}
use Rattle.sym_run.specs.Chained.{Chained}
use Rattle.sym_run.specs.Chains.{ChainFits}
use Rattle.sym_run.proofs.TakenGroups.{all_at}
use Rattle.sym_run.proofs.led_groups.lead_at.Goals as goal

pub lead_with-taken-requires-clause-fits : goal.lead_with-taken-requires-clause-fits
lead_with-taken-requires-clause-fits c =
    let q : Key × Chained = (c.in-Some._key.now, c.in-Some.chain.now) in
    all_at (λ (group : Key × Chained). ChainFits (checked_plan c.args.checked.now) group.1) c.args.chains.now c.args.index q c.requires.fits c.in-Some.ensures
