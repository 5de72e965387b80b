use Rattle.std.proofs.Common.{ap, arith, length}
use Rattle.std.proofs.lemmas.List.{length-map}
use Rattle.sym_command.proofs.matches.read_reduce.Goals as goal

pub returns-clause-range : goal.returns-clause-range
returns-clause-range c =
    let same = simp length-map at (ap length c.in_ok-copy_names.ensures) in
    let few = c.in-Some-read_files.ensures.few in
    record { size = c.in-Some.ensures.most; few = omega arith }
