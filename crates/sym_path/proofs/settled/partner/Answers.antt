use Rattle.std.proofs.Common.{arith}
use Rattle.sym_path.proofs.SettlingLists.{cannot_here, more_apart}
use Rattle.sym_path.proofs.settled.partner.Goals as goal

pub paths-preserved : goal.paths-preserved
paths-preserved c =
    more_apart c.args.paths.now c.paths.earlier c.args.index c.paths.invariant
    (cannot_here c.args.paths.now c.paths.earlier c.args.index c.index-paths-earlier.result c.index-paths-index.result c.index-paths-earlier.is c.index-paths-index.is (λ j. let e = c.if-joinable.ensures.1 j in cc))

pub returns : goal.returns
returns c = λ i h. c.paths.invariant i (omega arith)
