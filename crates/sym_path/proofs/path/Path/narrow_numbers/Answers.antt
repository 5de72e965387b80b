use Rattle.sym_check.specs.Plan.ScriptPlans.{script_plan}
use Rattle.sym_path.proofs.Narrowed.{numbers_give}
use Rattle.sym_path.proofs.NarrowedEnds.{numbers_end}
use Rattle.sym_path.proofs.NarrowedFits.{numbers_fit, numbers_can_put}
use Rattle.sym_path.proofs.path.Path.narrow_numbers.Goals as goal

pub set_numbers-requires : goal.set_numbers-requires
set_numbers-requires c = numbers_can_put (script_plan c.args._plan.now) c.args.cell c.args.span.now c.args.self.now c.requires.known c.requires.fits c.requires.narrower

pub returns-clause-fits : goal.returns-clause-fits
returns-clause-fits c = numbers_fit (script_plan c.args._plan.now) c.args.cell c.args.span.now c.args.self.now c.set_numbers.new.self c.requires.narrower c.set_numbers.ensures c.requires.fits

pub returns-clause-gives : goal.returns-clause-gives
returns-clause-gives c = numbers_give c.args.cell c.args.span.now c.args.self.now c.set_numbers.new.self c.requires.narrower c.set_numbers.ensures

pub returns-clause-ended : goal.returns-clause-ended
returns-clause-ended c = λ fault. numbers_end c.args.cell c.args.span.now c.args.self.now c.set_numbers.new.self fault c.set_numbers.ensures
