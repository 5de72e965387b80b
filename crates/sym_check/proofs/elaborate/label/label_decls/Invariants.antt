-- The labels so far are declared.
use Rattle.std.proofs.Common.{drop}
use Rattle.sym_check.specs.Elaborate.Declarations.{label_decl}
use Rattle.sym_check.proofs.Done.{AreDone}
use Rattle.sym_check.proofs.elaborate.label.label_decls.Given as goal

abbrev pub invariant-labels : goal.invariant-labels
invariant-labels l = AreDone (label_decl l.of) l.fn.scope l.name-items l.labels l.scope l.number (drop l.number l.name-items)
