-- The cells so far are declared.
use Rattle.std.proofs.Common.{drop}
use Rattle.sym_check.specs.Elaborate.Declarations.{state_decl}
use Rattle.sym_check.proofs.Done.{AreDone}
use Rattle.sym_check.proofs.elaborate.state.state_decls.Given as goal

abbrev pub invariant-cells : goal.invariant-cells
invariant-cells l = AreDone state_decl l.fn.scope l.decl-items l.cells l.scope l.number (drop l.number l.decl-items)
