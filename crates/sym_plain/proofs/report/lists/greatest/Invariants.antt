-- The greatest of the numbers so far.
use Rattle.std.proofs.Common.{◌≡◌, take, fold}
use Rattle.std.specs.Int.{int_max}
use Rattle.sym_plain.proofs.report.lists.greatest.Given as goal

abbrev pub invariant-rest : goal.invariant-rest
invariant-rest l = l.greatest ≡ fold int_max l.initial.greatest (take l.number-index l.rest)
