use Rattle.sym_path.proofs.Changed.{forms_give, forms_fit, later_form}
use Rattle.sym_path.proofs.laws.changes.forms_can_be_replaced.Goals as goal

pub returns : goal.returns
returns c = record { gives = forms_give; fits = forms_fit; later = later_form }
