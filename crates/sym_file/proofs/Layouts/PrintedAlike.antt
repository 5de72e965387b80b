-- The printed form of a script doesn't depend on places.
use Rattle.std.proofs.Common.{◌≡◌, refl, sym, ap, ◌∙◌, ℕ, ◌+◌, List, [], ◌∷◌, map, Option, Some, None}
use Rattle.std.specs.List.{flat_map}
use Rattle.std.specs.Option.{option_map}
use Rattle.sym_base.specs.Precedence.{needs_parentheses, left_level, right_level, not_level, sign_level}
use Rattle.sym_base.specs.declared.tree.name.Name.{Name as NameRecord}
use Rattle.sym_base.specs.declared.tree.declaration.EnumDecl.{EnumDecl}
use Rattle.sym_base.specs.declared.tree.declaration.FieldDecl.{FieldDecl}
use Rattle.sym_base.specs.declared.tree.declaration.KindRef.{KindRef}
use Rattle.sym_base.specs.declared.tree.declaration.KindRef.TheVariants as kind
use Rattle.sym_base.specs.declared.tree.declaration.Literal.{Literal}
use Rattle.sym_base.specs.declared.tree.declaration.Literal.TheVariants as literal
use Rattle.sym_base.specs.declared.tree.declaration.Part.{Part}
use Rattle.sym_base.specs.declared.tree.declaration.CellDecl.{CellDecl}
use Rattle.sym_base.specs.declared.tree.declaration.CellDecl.TheVariants as cell
use Rattle.sym_base.specs.declared.tree.declaration.StateDecl.{StateDecl}
use Rattle.sym_base.specs.declared.tree.declaration.Param.{Param}
use Rattle.sym_base.specs.Trees.{ScriptTree, TestTree, ColumnTree, ExprTree, Num, Words, Named, Call, Neg, Not, Bin, ExprsTree, End, More, StmtTree, Let, Set, Push, Keep, KeepFrom, If, StmtsTree, Done, Then}
use Rattle.sym_parse.specs.Bare.{bare_name, bare_expr, bare_exprs, bare_stmt, bare_stmts, bare_kind, bare_literal, bare_enum, bare_field, bare_part, bare_cell, bare_state, bare_param, bare_test, bare_column, bare_script}
use Rattle.sym_parse.specs.Printed.{Piece, expr, exprs, further_exprs, further, listed, one_name, kind_of, literal_of, enum_of, default_of, field_of, group_of, part_of, cell_of, state_of, param_of, test_of, column_of, is_if, is_empty, stmt, else_of, stmts, script, script_text}

needs_same : (wanted : ℕ) (e : ExprTree) → needs_parentheses wanted (bare_expr e) ≡ needs_parentheses wanted e
needs_same wanted (Num n at) = refl
needs_same wanted (Words t at) = refl
needs_same wanted (Named n) = refl
needs_same wanted (Call n es) = refl
needs_same wanted (Neg e at) = refl
needs_same wanted (Not e at) = refl
needs_same wanted (Bin o l r at) = refl

mutual
  expr_same : (e : ExprTree) → expr (bare_expr e) ≡ expr e
  expr_same (Num n at) = refl
  expr_same (Words t at) = refl
  expr_same (Named n) = refl
  expr_same (Call n es) = rw (exprs_same es) refl
  expr_same (Neg e at) = rw (needs_same sign_level e, expr_same e) refl
  expr_same (Not e at) = rw (needs_same not_level e, expr_same e) refl
  expr_same (Bin o l r at) = rw (needs_same (left_level o) l, needs_same (right_level o) r, expr_same l, expr_same r) refl

  exprs_same : (es : ExprsTree) → exprs (bare_exprs es) ≡ exprs es
  exprs_same End = refl
  exprs_same (More first rest) = rw (expr_same first, further_exprs_same rest) refl

  further_exprs_same : (es : ExprsTree) → further_exprs (bare_exprs es) ≡ further_exprs es
  further_exprs_same End = refl
  further_exprs_same (More first rest) = rw (expr_same first, further_exprs_same rest) refl

-- ---- declarations
all_same : {A : Type 0} (bare : A → A) (pieces : A → List Piece) → ((a : A) → pieces (bare a) ≡ pieces a) → (items : List A) → flat_map pieces (map bare items) ≡ flat_map pieces items
all_same bare pieces h [] = refl
all_same bare pieces h (a ∷ rest) = rw (h a, all_same bare pieces h rest) refl

further_same : {A : Type 0} (bare : A → A) (pieces : A → List Piece) → ((a : A) → pieces (bare a) ≡ pieces a) → (items : List A) → further pieces (map bare items) ≡ further pieces items
further_same bare pieces h [] = refl
further_same bare pieces h (a ∷ rest) = rw (h a, further_same bare pieces h rest) refl

listed_same : {A : Type 0} (bare : A → A) (pieces : A → List Piece) → ((a : A) → pieces (bare a) ≡ pieces a) → (items : List A) → listed pieces (map bare items) ≡ listed pieces items
listed_same bare pieces h [] = refl
listed_same bare pieces h (a ∷ rest) = rw (h a, further_same bare pieces h rest) refl

kind_same : (k : KindRef) → kind_of (bare_kind k) ≡ kind_of k
kind_same kind.Num = refl
kind_same kind.Word = refl
kind_same (kind.Named n) = refl

literal_same : (l : Literal) → literal_of (bare_literal l) ≡ literal_of l
literal_same (literal.Num n at) = refl
literal_same (literal.Text t at) = refl
literal_same (literal.Named n) = refl

default_same : (d : Option Literal) → default_of (option_map bare_literal d) ≡ default_of d
default_same None = refl
default_same (Some l) = rw (literal_same l) refl

names_listed : (ns : List NameRecord) → listed one_name (map bare_name ns) ≡ listed one_name ns
names_listed ns = listed_same bare_name one_name (λ n. refl) ns

enum_same : (d : EnumDecl) → enum_of (bare_enum d) ≡ enum_of d
enum_same d = rw (names_listed d.labels) refl

field_same : (d : FieldDecl) → field_of (bare_field d) ≡ field_of d
field_same d = rw (kind_same d.kind, default_same d.default) refl

group_same : (ns : List NameRecord) → group_of (map bare_name ns) ≡ group_of ns
group_same [] = refl
group_same (n ∷ rest) = rw (further_same bare_name one_name (λ m. refl) rest) refl

part_same : (d : Part) → part_of (bare_part d) ≡ part_of d
part_same d = rw (kind_same d.kind, literal_same d.first) refl

cell_same : (c : CellDecl) → cell_of (bare_cell c) ≡ cell_of c
cell_same (cell.Int lo hi first clamp) = refl
cell_same (cell.Nums lo hi clamp) = refl
cell_same cell.Words = refl
cell_same (cell.Hold parts) = rw (listed_same bare_part part_of part_same parts) refl
cell_same (cell.Enum of first) = refl

state_same : (d : StateDecl) → state_of (bare_state d) ≡ state_of d
state_same d = rw (cell_same d.cell) refl

param_same : (d : Param) → param_of (bare_param d) ≡ param_of d
param_same d = rw (kind_same d.kind) refl

test_same : (d : TestTree) → test_of (bare_test d) ≡ test_of d
test_same d = rw (listed_same bare_param param_of param_same d.params, expr_same d.body) refl

column_same : (d : ColumnTree) → column_of (bare_column d) ≡ column_of d
column_same d = rw (expr_same d.value) refl

-- ---- statements
if_same : (s : StmtTree) → is_if (bare_stmt s) ≡ is_if s
if_same (Let n e) = refl
if_same (Set n e) = refl
if_same (Push n e) = refl
if_same (Keep n es) = refl
if_same (KeepFrom n m) = refl
if_same (If e one other) = refl

empty_same : (ss : StmtsTree) → is_empty (bare_stmts ss) ≡ is_empty ss
empty_same Done = refl
empty_same (Then first rest) = refl

mutual
  stmt_same : (blocks : ℕ) (s : StmtTree) → stmt blocks (bare_stmt s) ≡ stmt blocks s
  stmt_same blocks (Let n e) = rw (expr_same e) refl
  stmt_same blocks (Set n e) = rw (expr_same e) refl
  stmt_same blocks (Push n e) = rw (expr_same e) refl
  stmt_same blocks (Keep n es) = rw (exprs_same es) refl
  stmt_same blocks (KeepFrom n m) = refl
  stmt_same blocks (If e one other) = rw (expr_same e, stmts_same (blocks + 1) one, else_same blocks other) refl

  else_same : (blocks : ℕ) (ss : StmtsTree) → else_of blocks (bare_stmts ss) ≡ else_of blocks ss
  else_same blocks Done = refl
  else_same blocks (Then first rest) =
      rw (if_same first, empty_same rest, stmt_same blocks first, stmt_same (blocks + 1) first, stmts_same (blocks + 1) rest) refl

  stmts_same : (blocks : ℕ) (ss : StmtsTree) → stmts blocks (bare_stmts ss) ≡ stmts blocks ss
  stmts_same blocks Done = refl
  stmts_same blocks (Then first rest) = rw (stmt_same blocks first, stmts_same blocks rest) refl

script_same : (t : ScriptTree) → script_text (bare_script t) ≡ script_text t
unfolding script_text script
script_same t =
    rw (
      script_text,
      script,
      all_same bare_enum enum_of enum_same t.enums,
      all_same bare_field field_of field_same t.fields,
      group_same t.group,
      all_same bare_state state_of state_same t.states,
      all_same bare_test test_of test_same t.tests,
      stmts_same 1 t.update,
      all_same bare_column column_of column_same t.columns,
    ) refl

pub printed_alike : (t other : ScriptTree) → bare_script t ≡ bare_script other → script_text t ≡ script_text other
printed_alike t other e = sym (script_same t) ∙ ap script_text e ∙ script_same other
