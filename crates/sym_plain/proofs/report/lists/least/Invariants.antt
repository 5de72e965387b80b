-- The least of the numbers so far.
use Rattle.std.proofs.Common.{◌≡◌, take, fold}
use Rattle.std.specs.Int.{int_min}
use Rattle.sym_plain.proofs.report.lists.least.Given as goal

abbrev pub invariant-rest : goal.invariant-rest
invariant-rest l = l.least ≡ fold int_min l.initial.least (take l.number-index l.rest)
