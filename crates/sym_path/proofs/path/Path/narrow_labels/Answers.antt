use Rattle.sym_check.specs.Plan.ScriptPlans.{script_plan}
use Rattle.sym_path.proofs.Narrowed.{labels_give}
use Rattle.sym_path.proofs.NarrowedEnds.{labels_end}
use Rattle.sym_path.proofs.NarrowedFits.{labels_fit}
use Rattle.sym_path.proofs.path.Path.narrow_labels.Goals as goal

pub returns-clause-fits : goal.returns-clause-fits
returns-clause-fits c = labels_fit (script_plan c.args._plan.now) c.args.cell c.args.set c.args.self.now c.set_labels.new.self c.requires.narrower c.set_labels.ensures c.requires.fits

pub returns-clause-gives : goal.returns-clause-gives
returns-clause-gives c = labels_give c.args.cell c.args.set c.args.self.now c.set_labels.new.self c.requires.narrower c.set_labels.ensures

pub returns-clause-ended : goal.returns-clause-ended
returns-clause-ended c = λ fault. labels_end c.args.cell c.args.set c.args.self.now c.set_labels.new.self fault c.set_labels.ensures
