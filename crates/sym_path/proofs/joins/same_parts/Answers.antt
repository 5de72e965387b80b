use Rattle.std.proofs.lemmas.Bool.Decides.{Decides-at}
use Rattle.sym_pred.proofs.CallersLemmas.{form_eq-Decides}
use Rattle.sym_path.proofs.joins.same_parts.Goals as goal

pub returns : goal.returns
returns c = Decides-at _ _ c.eq.ensures (form_eq-Decides c.args.other.now c.args.form.now)
