-- The names of the tests so far are added.
use Rattle.std.proofs.Common.{◌≡◌, ◌++◌, map, take}
use Rattle.sym_base.specs.Trees.{TestTree, test_tree}
use Rattle.sym_check.proofs.elaborate.names.add_tests.Given as goal

abbrev pub invariant-tests : goal.invariant-tests
invariant-tests l = l.names ≡ l.fn.names ++ map (λ (d : TestTree). d.name.text) (map test_tree (take l.decl-index l.decl-items))
