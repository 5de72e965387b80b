-- The plan is that of the parts.
use Rattle.std.proofs.Common.{rules, ◌≡◌, Err, map}
use Rattle.sym_base.specs.Trees.{column_tree, script_tree, stmts_tree}
use Rattle.sym_check.specs.declared.elaborate.error.CheckErr.{CheckErr}
use Rattle.sym_check.specs.Rules.Scripts.{plan_of}
use Rattle.sym_check.specs.Checking.WholeScripts.{update_plan, column_plans}
use Rattle.sym_check.specs.Plan.DoPlans.{dos_plan}
use Rattle.sym_check.specs.Plan.ScriptPlans.{column_plan, test_plan}
use Rattle.sym_check.proofs.WholeScripts.{HasDeclarations, update_breaks, columns_break, plan_is}
use Rattle.sym_check.proofs.FewParts.{declared_few}
use Rattle.sym_check.proofs.elaborate.script.elaborate_script.Goals as goal

pub columns_of-requires-clause-parts : goal.columns_of-requires-clause-parts
columns_of-requires-clause-parts c =
    let d : HasDeclarations (script_tree c.args.script.now) c.in_ok-enums.enums c.in_ok-fields.fields c.in_ok-group.group c.in_ok-cells.cells (map test_plan c.in_ok-tests.tests) c.test_decls.new.scope = record {
      enum_scope = c.enum_decls.new.scope;
      enums = search rules;
      field_scope = c.field_decls.new.scope;
      fields = c.in_ok-fields.ensures;
      group = c.in_ok-group.ensures;
      cell_scope = c.state_decls.new.scope;
      cells = c.in_ok-cells.ensures;
      tests = search rules;
    } in
    declared_few (script_tree c.args.script.now) c.in_ok-enums.enums c.in_ok-fields.fields c.in_ok-group.group c.in_ok-cells.cells (map test_plan c.in_ok-tests.tests) c.test_decls.new.scope c.requires d

pub returns-in_err-update : goal.returns-in_err-update
returns-in_err-update c =
    let d : HasDeclarations (script_tree c.args.script.now) c.in_ok-enums.enums c.in_ok-fields.fields c.in_ok-group.group c.in_ok-cells.cells (map test_plan c.in_ok-tests.tests) c.test_decls.new.scope = record {
      enum_scope = c.enum_decls.new.scope;
      enums = search rules;
      field_scope = c.field_decls.new.scope;
      fields = c.in_ok-fields.ensures;
      group = c.in_ok-group.ensures;
      cell_scope = c.state_decls.new.scope;
      cells = c.in_ok-cells.ensures;
      tests = search rules;
    } in
    let broken : (e : CheckErr) → update_plan c.test_decls.new.scope (stmts_tree c.args.script.now.update) ≡ Err e → plan_of (script_tree c.args.script.now) ≡ Err e = λ e h. update_breaks (script_tree c.args.script.now) c.in_ok-enums.enums c.in_ok-fields.fields c.in_ok-group.group c.in_ok-cells.cells (map test_plan c.in_ok-tests.tests) c.test_decls.new.scope e d h in
    search (rules, broken)

pub returns-in_err-columns : goal.returns-in_err-columns
returns-in_err-columns c =
    let d : HasDeclarations (script_tree c.args.script.now) c.in_ok-enums.enums c.in_ok-fields.fields c.in_ok-group.group c.in_ok-cells.cells (map test_plan c.in_ok-tests.tests) c.test_decls.new.scope = record {
      enum_scope = c.enum_decls.new.scope;
      enums = search rules;
      field_scope = c.field_decls.new.scope;
      fields = c.in_ok-fields.ensures;
      group = c.in_ok-group.ensures;
      cell_scope = c.state_decls.new.scope;
      cells = c.in_ok-cells.ensures;
      tests = search rules;
    } in
    let broken : (e : CheckErr) → column_plans c.test_decls.new.scope (map column_tree c.args.script.now.columns) ≡ Err e → plan_of (script_tree c.args.script.now) ≡ Err e = λ e h. columns_break (script_tree c.args.script.now) c.in_ok-enums.enums c.in_ok-fields.fields c.in_ok-group.group c.in_ok-cells.cells (map test_plan c.in_ok-tests.tests) c.test_decls.new.scope (dos_plan c.in_ok-update.update) e d c.in_ok-update.ensures h in
    search (rules, broken)

pub returns : goal.returns
returns c =
    let d : HasDeclarations (script_tree c.args.script.now) c.in_ok-enums.enums c.in_ok-fields.fields c.in_ok-group.group c.in_ok-cells.cells (map test_plan c.in_ok-tests.tests) c.test_decls.new.scope = record {
      enum_scope = c.enum_decls.new.scope;
      enums = search rules;
      field_scope = c.field_decls.new.scope;
      fields = c.in_ok-fields.ensures;
      group = c.in_ok-group.ensures;
      cell_scope = c.state_decls.new.scope;
      cells = c.in_ok-cells.ensures;
      tests = search rules;
    } in
    rw (plan_is (script_tree c.args.script.now) c.in_ok-enums.enums c.in_ok-fields.fields c.in_ok-group.group c.in_ok-cells.cells (map test_plan c.in_ok-tests.tests) c.test_decls.new.scope (dos_plan c.in_ok-update.update) (map column_plan c.in_ok-columns.columns) d c.in_ok-update.ensures c.in_ok-columns.ensures) c.bounded.ensures
