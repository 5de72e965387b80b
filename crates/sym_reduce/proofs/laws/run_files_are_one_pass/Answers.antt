use Rattle.sym_reduce.proofs.OnePass.{first_pass, one_pass, only_pass}
use Rattle.sym_reduce.proofs.laws.run_files_are_one_pass.Goals as goal

pub returns-clause-pass : goal.returns-clause-pass
returns-clause-pass c script p max_bytes next files end records formed is = first_pass script p formed max_bytes next files end records is

pub returns-clause-only : goal.returns-clause-only
returns-clause-only c script p max_bytes next files end last records totals formed bound is reduced =
    only_pass script p formed max_bytes bound next files end last records totals is reduced

pub returns-clause-more : goal.returns-clause-more
returns-clause-more c script p max_bytes next files end before records formed kinds is = one_pass script p formed max_bytes next files end records before kinds is
