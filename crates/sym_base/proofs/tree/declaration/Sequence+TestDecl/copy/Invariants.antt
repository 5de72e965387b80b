-- The tests copied so far are the first ones, boxes aside.
use Rattle.std.proofs.Common.{◌≡◌, take, map}
use Rattle.sym_base.specs.Trees.{test_tree}
use Rattle.sym_base.proofs.tree.declaration.Sequence+TestDecl.copy.Given as goal

abbrev pub invariant-tests : goal.invariant-tests
invariant-tests l = map test_tree l.copied.items ≡ map test_tree (take l.test-index l.test-items)
