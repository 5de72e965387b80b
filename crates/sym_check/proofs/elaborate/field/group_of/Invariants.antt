-- The fields of the names so far are found.
use Rattle.std.proofs.Common.{drop, []}
use Rattle.sym_check.specs.Elaborate.Declarations.{group_field}
use Rattle.sym_check.proofs.Done.{AreDone}
use Rattle.sym_check.proofs.elaborate.field.group_of.Given as goal

abbrev pub invariant-names : goal.invariant-names
invariant-names l = AreDone (group_field l.scope) [] l.name-items l.fields l.named l.name-index (drop l.name-index l.name-items)
