use Rattle.std.proofs.Common.{◌∙◌, Some, ap, sym}
use Rattle.sym_plain.specs.Pairs.{put_by_index}
use Rattle.sym_plain.proofs.Pairs.{indexed-lookup, indexed-put}
use Rattle.sym_run.specs.Leading.{while_out}
use Rattle.sym_run.proofs.TakenGroups.{nothing_at}
use Rattle.sym_run.proofs.led_groups.take_at.Goals as goal

pub returns-in-Some-clause-outcome : goal.returns-in-Some-clause-outcome
returns-in-Some-clause-outcome c = λ key at.
    indexed-lookup c.args.groups.now key c.args.index c.requires at ∙ sym c.in-Some.ensures.outcome ∙ ap Some (sym c.replace.ensures.value)

pub returns-in-Some-clause-groups : goal.returns-in-Some-clause-groups
returns-in-Some-clause-groups c = λ key at.
    ap (put_by_index c.args.groups.now c.args.index) c.replace.ensures.after ∙ indexed-put c.args.groups.now key c.args.index while_out c.requires at

pub returns-in-None-clause-outcome : goal.returns-in-None-clause-outcome
returns-in-None-clause-outcome c = λ key at. absurd (nothing_at key c.args.groups.now c.args.index at c.in-None.ensures.outcome)

pub returns-in-None-clause-groups : goal.returns-in-None-clause-groups
returns-in-None-clause-groups c = λ key at. absurd (nothing_at key c.args.groups.now c.args.index at c.in-None.ensures.outcome)
