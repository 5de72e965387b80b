use Rattle.std.proofs.Common.{◌∙◌, sym}
use Rattle.sym_plain.proofs.Pairs.{put-new}
use Rattle.sym_plain.proofs.groups.Groups.put.Goals as goal

pub returns-in_ok-begin-in-None : goal.returns-in_ok-begin-in-None
returns-in_ok-begin-in-None c =
    c.in_ok-begin-in-None.ensures.ok ∙ sym (put-new c.args.self c.args.key c.args.outcome (sym c.in-None.ensures.outcome))
