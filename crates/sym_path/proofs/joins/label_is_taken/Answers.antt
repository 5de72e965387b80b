use Rattle.sym_path.proofs.JoiningTaken.{copy_fixed_decided, copy_stays_decided}
use Rattle.sym_path.proofs.joins.label_is_taken.Goals as goal

pub returns-in-Some : goal.returns-in-Some
returns-in-Some c = copy_fixed_decided c.args.when.now c.args.other.now c.args.form.now c.in-Copy.cell c.in-Some.label c.eq-in-Some.result c.in-Copy.is c.in-Some.ensures c.eq-in-Some.ensures

pub returns-in-None : goal.returns-in-None
returns-in-None c = copy_stays_decided c.args.when.now c.args.other.now c.args.form.now c.in-Copy.cell c.eq-in-None.result c.in-Copy.is c.in-None.ensures c.eq-in-None.ensures
