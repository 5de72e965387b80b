-- The syntax tree as plain data: what a contract sees of a tree whose parts are boxed.
use Rattle.std.specs.Prelude.{ℕ, ℤ, List, [], ◌∷◌, map}
use Rattle.sym_base.specs.declared.tree.name.Name.{Name}
use Rattle.sym_base.specs.declared.tree.expression.BinOp.{BinOp}
use Rattle.sym_base.specs.declared.tree.expression.Expr.{Expr}
use Rattle.sym_base.specs.declared.tree.expression.Exprs.{Exprs}
use Rattle.sym_base.specs.declared.tree.statement.Stmt.{Stmt}
use Rattle.sym_base.specs.declared.tree.statement.Stmts.{Stmts}
use Rattle.sym_base.specs.declared.tree.declaration.EnumDecl.{EnumDecl}
use Rattle.sym_base.specs.declared.tree.declaration.FieldDecl.{FieldDecl}
use Rattle.sym_base.specs.declared.tree.declaration.StateDecl.{StateDecl}
use Rattle.sym_base.specs.declared.tree.declaration.Param.{Param}
use Rattle.sym_base.specs.declared.tree.declaration.TestDecl.{TestDecl}
use Rattle.sym_base.specs.declared.tree.declaration.ColumnDecl.{ColumnDecl}
use Rattle.sym_base.specs.declared.tree.script.Script.{Script}
use Rattle.sym_base.specs.declared.tree.expression.Expr.TheVariants as expr
use Rattle.sym_base.specs.declared.tree.expression.Exprs.TheVariants as exprs
use Rattle.sym_base.specs.declared.tree.statement.Stmt.TheVariants as stmt
use Rattle.sym_base.specs.declared.tree.statement.Stmts.TheVariants as stmts

mutual
  pub data ExprTree : Type 0 where
    Num : ℤ → ℕ → ExprTree
    Words : List ℕ → ℕ → ExprTree
    Named : Name → ExprTree
    Call : Name → ExprsTree → ExprTree
    Neg : ExprTree → ℕ → ExprTree
    Not : ExprTree → ℕ → ExprTree
    Bin : BinOp → ExprTree → ExprTree → ℕ → ExprTree

  pub data ExprsTree : Type 0 where
    End : ExprsTree
    More : ExprTree → ExprsTree → ExprsTree

abbrev mutual
  pub expr_tree : Expr → ExprTree
  expr_tree (expr.Num n at) = Num n at
  expr_tree (expr.Text t at) = Words t at
  expr_tree (expr.Named n) = Named n
  expr_tree (expr.Call n es) = Call n (exprs_tree es)
  expr_tree (expr.Neg' p e at) = Neg (expr_tree e) at
  expr_tree (expr.Not' p e at) = Not (expr_tree e) at
  expr_tree (expr.Bin' op p l q r at) = Bin op (expr_tree l) (expr_tree r) at

  pub exprs_tree : Exprs → ExprsTree
  exprs_tree exprs.End = End
  exprs_tree (exprs.More' p e q es) = More (expr_tree e) (exprs_tree es)

-- The expressions of a list before others.
abbrev pub exprs_before : List ExprTree → ExprsTree → ExprsTree
exprs_before [] rest = rest
exprs_before (x ∷ xs) rest = More x (exprs_before xs rest)

mutual
  pub data StmtTree : Type 0 where
    Let : Name → ExprTree → StmtTree
    Set : Name → ExprTree → StmtTree
    Push : Name → ExprTree → StmtTree
    Keep : Name → ExprsTree → StmtTree
    KeepFrom : Name → Name → StmtTree
    If : ExprTree → StmtsTree → StmtsTree → StmtTree

  pub data StmtsTree : Type 0 where
    Done : StmtsTree
    Then : StmtTree → StmtsTree → StmtsTree

abbrev mutual
  pub stmt_tree : Stmt → StmtTree
  stmt_tree (stmt.Let n e) = Let n (expr_tree e)
  stmt_tree (stmt.Set n e) = Set n (expr_tree e)
  stmt_tree (stmt.Push n e) = Push n (expr_tree e)
  stmt_tree (stmt.Keep n es) = Keep n (exprs_tree es)
  stmt_tree (stmt.KeepFrom n m) = KeepFrom n m
  stmt_tree (stmt.If e a b) = If (expr_tree e) (stmts_tree a) (stmts_tree b)

  pub stmts_tree : Stmts → StmtsTree
  stmts_tree stmts.End = Done
  stmts_tree (stmts.More' p s q rest) = Then (stmt_tree s) (stmts_tree rest)

pub record TestTree : Type 0 where
  pub name : Name
  pub params : List Param
  pub body : ExprTree

abbrev pub test_tree : TestDecl → TestTree
test_tree d = record { name = d.name; params = d.params; body = expr_tree d.body }

pub record ColumnTree : Type 0 where
  pub name : Name
  pub value : ExprTree

abbrev pub column_tree : ColumnDecl → ColumnTree
column_tree d = record { name = d.name; value = expr_tree d.value }

pub record ScriptTree : Type 0 where
  pub enums : List EnumDecl
  pub fields : List FieldDecl
  pub group : List Name
  pub states : List StateDecl
  pub tests : List TestTree
  pub update : StmtsTree
  pub columns : List ColumnTree

abbrev pub script_tree : Script → ScriptTree
script_tree s = record {
  enums = s.enums;
  fields = s.fields;
  group = s.group;
  states = s.states;
  tests = map test_tree s.tests;
  update = stmts_tree s.update;
  columns = map column_tree s.columns;
}
