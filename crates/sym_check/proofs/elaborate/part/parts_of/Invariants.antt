-- The parts so far are elaborated.
use Rattle.std.proofs.Common.{drop}
use Rattle.sym_check.specs.Rules.Declarations.{unfinished}
use Rattle.sym_check.proofs.Done.{ArePartsDone}
use Rattle.sym_check.proofs.elaborate.part.parts_of.Given as goal

abbrev pub invariant-parts : goal.invariant-parts
invariant-parts l = ArePartsDone (unfinished l.scope l.own) l.part-items l.kinds l.firsts (drop l.part-index l.part-items)
