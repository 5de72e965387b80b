-- The fields so far are declared.
use Rattle.std.proofs.Common.{drop}
use Rattle.sym_check.specs.Elaborate.Declarations.{field_decl}
use Rattle.sym_check.proofs.Done.{AreDone}
use Rattle.sym_check.proofs.elaborate.field.field_decls.Given as goal

abbrev pub invariant-fields : goal.invariant-fields
invariant-fields l = AreDone field_decl l.fn.scope l.decl-items l.fields l.scope l.number (drop l.number l.decl-items)
