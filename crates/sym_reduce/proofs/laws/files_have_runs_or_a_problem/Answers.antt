use Rattle.sym_reduce.proofs.FollowingFiles.{files_follow, no_join_problem, problem_once, runs_once}
use Rattle.sym_reduce.proofs.laws.files_have_runs_or_a_problem.Goals as goal

pub returns-clause-some : goal.returns-clause-some
returns-clause-some c script p max_bytes files formed bound = files_follow script p formed max_bytes bound files

pub returns-clause-runs : goal.returns-clause-runs
returns-clause-runs c script p max_bytes files runs others formed bound a b = runs_once script p formed max_bytes bound files runs others a b

pub returns-clause-problem : goal.returns-clause-problem
returns-clause-problem c script p max_bytes files why other formed bound a b = problem_once script p formed max_bytes bound files why other a b

pub returns-clause-never : goal.returns-clause-never
returns-clause-never c script p max_bytes files runs why formed bound a b = no_join_problem script p formed max_bytes bound files runs why a b
