-- The enums so far are declared.
use Rattle.std.proofs.Common.{drop}
use Rattle.sym_check.specs.Elaborate.Declarations.{enum_decl}
use Rattle.sym_check.proofs.Done.{AreDone}
use Rattle.sym_check.proofs.elaborate.label.enum_decls.Given as goal

abbrev pub invariant-enums : goal.invariant-enums
invariant-enums l = AreDone enum_decl l.fn.scope l.decl-items l.enums l.scope l.number (drop l.number l.decl-items)
