use Rattle.std.proofs.Common.{sym, subst}
use Rattle.sym_check.specs.Checking.CheckedScripts.{checked_plan}
use Rattle.sym_run.specs.Chains.{ChainFits, IsTight}
use Rattle.sym_run.proofs.chain_records.take_into_chain.Goals as goal

pub take_explored-requires-clause-fits : goal.take_explored-requires-clause-fits
take_explored-requires-clause-fits c = subst (ChainFits (checked_plan c.args.settings.now.checked.now)) (sym c.replace-old.ensures.value) c.requires.fits

pub take_explored-requires-clause-tight : goal.take_explored-requires-clause-tight
take_explored-requires-clause-tight c = subst (IsTight (checked_plan c.args.settings.now.checked.now) c.args.settings.now.limit) (sym c.replace-old.ensures.value) c.requires.tight
