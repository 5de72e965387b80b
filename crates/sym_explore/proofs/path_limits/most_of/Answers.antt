use Rattle.std.proofs.Common.{◌≡◌, true, sym}
use Rattle.sym_explore.proofs.Limited.{ended_most, going_most}
use Rattle.sym_explore.proofs.path_limits.most_of.Goals as goal

pub returns-then-goes_on : goal.returns-then-goes_on
returns-then-goes_on c = sym (going_most c.args.most c.args.path.now.end (c.goes_on.ensures.0 c.if-goes_on.true))

pub returns-else-goes_on : goal.returns-else-goes_on
returns-else-goes_on c =
    let f = c.if-goes_on.false in
    sym (ended_most c.args.most c.args.path.now.end (λ g. let t : c.goes_on.result ≡ true = c.goes_on.ensures.1 g in cc))
