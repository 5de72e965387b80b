use Rattle.std.proofs.lemmas.Result.{on_ok_weaker}
use Rattle.sym_path.proofs.Written.{all_finished}
use Rattle.sym_path.proofs.outcomes.change.Goals as goal

pub returns : goal.returns
returns c =
    let made = c.in_ok-drafts.ensures in
    on_ok_weaker c.finish_all.result
    (λ done. all_finished c.args.forms.now c.in_ok-drafts.drafts c.args.state.now c.drafts_of.new.state c.finish_all.new.state c.requires.lengths made.same made.cells made.drafts done)
    c.finish_all.ensures
