-- The parameters so far are declared.
use Rattle.std.proofs.Common.{drop}
use Rattle.sym_check.specs.Rules.Declarations.{unfinished}
use Rattle.sym_check.specs.Elaborate.Declarations.{param_decl}
use Rattle.sym_check.proofs.Done.{AreDone}
use Rattle.sym_check.proofs.elaborate.test.param_decls.Given as goal

abbrev pub invariant-params : goal.invariant-params
invariant-params l = AreDone (param_decl l.names (unfinished l.scope l.own)) l.fn.params l.decl-items l.kinds l.params l.number (drop l.number l.decl-items)
