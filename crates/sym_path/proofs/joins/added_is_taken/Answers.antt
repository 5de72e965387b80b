use Rattle.std.proofs.Common.{inl, inr, refl}
use Rattle.sym_path.proofs.JoiningTaken.{added_decided, no_added}
use Rattle.sym_path.proofs.joins.added_is_taken.Goals as goal

pub returns-in-Some-at : goal.returns-in-Some-at
returns-in-Some-at c = added_decided c.args.when.now c.args.form.now c.args.other.now c.args.index c.in-Some.one.now c.in-Some-at.taken.now c.number_is_taken.result c.in-Some.ensures c.in-Some-at.ensures c.number_is_taken.ensures

pub returns-in-None : goal.returns-in-None
returns-in-None c = (λ e. no_added c.args.when.now c.args.form.now c.args.other.now c.args.index (inl c.in-None.ensures), λ h. refl)

pub returns-in-None-at : goal.returns-in-None-at
returns-in-None-at c = (λ e. no_added c.args.when.now c.args.form.now c.args.other.now c.args.index (inr c.in-None-at.ensures), λ h. refl)
