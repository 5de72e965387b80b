use Rattle.sym_reduce.proofs.Found.{found}
use Rattle.sym_reduce.proofs.Once.{ends_once, first_once, no_problem, totals_once}
use Rattle.sym_reduce.proofs.laws.files_have_totals_or_a_problem.Goals as goal

pub returns-clause-some : goal.returns-clause-some
returns-clause-some c script p max_bytes file next totals files formed bound =
    found script p formed max_bytes bound file next totals files

pub returns-clause-totals : goal.returns-clause-totals
returns-clause-totals c script p max_bytes next totals files end last all more formed bound a b =
    totals_once script p formed max_bytes bound next totals files end last all more a b

pub returns-clause-ends : goal.returns-clause-ends
returns-clause-ends c script p max_bytes next totals files end last all more formed bound a b =
    ends_once script p formed max_bytes bound next totals files end last all more a b

pub returns-clause-problem : goal.returns-clause-problem
returns-clause-problem c script p max_bytes file next totals files why other formed bound a b =
    first_once script p formed max_bytes bound file next totals files why other a b

pub returns-clause-never : goal.returns-clause-never
returns-clause-never c script p max_bytes file next totals files end all why formed bound a b =
    no_problem script p formed max_bytes bound file next totals files end all why a b
