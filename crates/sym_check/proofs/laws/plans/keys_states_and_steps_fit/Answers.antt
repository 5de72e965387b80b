use Rattle.sym_check.proofs.Fits.{key_is, valid_fits, step_fits}
use Rattle.sym_check.proofs.laws.plans.keys_states_and_steps_fit.Goals as goal

pub returns-clause-key : goal.returns-clause-key
returns-clause-key c = key_is

pub returns-clause-state : goal.returns-clause-state
returns-clause-state c = valid_fits

pub returns-clause-then : goal.returns-clause-then
returns-clause-then c = step_fits
