-- The columns copied so far are the first ones, boxes aside.
use Rattle.std.proofs.Common.{◌≡◌, take, map}
use Rattle.sym_base.specs.Trees.{column_tree}
use Rattle.sym_base.proofs.tree.declaration.Sequence+ColumnDecl.copy.Given as goal

abbrev pub invariant-columns : goal.invariant-columns
invariant-columns l = map column_tree l.copied.items ≡ map column_tree (take l.column-index l.column-items)
