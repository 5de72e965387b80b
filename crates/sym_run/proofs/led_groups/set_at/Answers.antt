use Rattle.sym_plain.proofs.Pairs.{indexed-put}
use Rattle.sym_run.proofs.TakenGroups.{nothing_at}
use Rattle.sym_run.proofs.led_groups.set_at.Goals as goal

pub returns-in-Some : goal.returns-in-Some
returns-in-Some c = λ key at. indexed-put c.args.groups.now key c.args.index c.args.outcome c.len-count.ensures.distinct at

pub returns-in-None : goal.returns-in-None
returns-in-None c = λ key at. absurd (nothing_at key c.args.groups.now c.args.index at c.in-None.ensures.outcome)
