-- The tests so far are declared, and the others are lawful.
use Rattle.std.proofs.Common.{◌≡◌, drop, map, true}
use Rattle.std.specs.List.{list_all}
use Rattle.sym_base.specs.Lawful.{is_lawful_test}
use Rattle.sym_base.specs.Trees.{test_tree}
use Rattle.sym_check.specs.Elaborate.Declarations.{test_decl}
use Rattle.sym_check.specs.Plan.ScriptPlans.{test_plan}
use Rattle.sym_check.proofs.Done.{AreDone}
use Rattle.sym_check.proofs.elaborate.test.test_decls.Given as goal

abbrev pub invariant-tests : goal.invariant-tests
invariant-tests l = record {
  done : AreDone (test_decl l.names) l.fn.scope (map test_tree l.decl-items) (map test_plan l.tests) l.scope l.number (map test_tree (drop l.number l.decl-items));
  lawful : list_all is_lawful_test (map test_tree (drop l.number l.decl-items)) ≡ true;
}
