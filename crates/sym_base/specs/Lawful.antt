-- Lawful scripts: those that have a text which keeps the lexical rules, the grammar and the limits.
-- Whether their names are declared, and what of, is another question.
use Rattle.std.specs.Prelude.{◌≡◌, ℕ, ◌≤◌, ℤ, pos, int_le, Bool, true, false, not, ◌&&◌, ◌==◌, nat_le, List, length, Option, Some, None}
use Rattle.std.specs.List.{list_all}
use Rattle.std.specs.Str.{is_utf8}
use Rattle.sym_base.specs.declared.tree.name.Name.{Name}
use Rattle.sym_base.specs.declared.tree.declaration.EnumDecl.{EnumDecl}
use Rattle.sym_base.specs.declared.tree.declaration.FieldDecl.{FieldDecl}
use Rattle.sym_base.specs.declared.tree.declaration.KindRef.{KindRef}
use Rattle.sym_base.specs.declared.tree.declaration.KindRef.TheVariants as kind
use Rattle.sym_base.specs.declared.tree.declaration.Literal.{Literal}
use Rattle.sym_base.specs.declared.tree.declaration.Literal.TheVariants as literal
use Rattle.sym_base.specs.declared.tree.declaration.Part.{Part}
use Rattle.sym_base.specs.declared.tree.declaration.CellDecl.{CellDecl}
use Rattle.sym_base.specs.declared.tree.declaration.CellDecl.TheVariants as cell
use Rattle.sym_base.specs.declared.tree.declaration.StateDecl.{StateDecl}
use Rattle.sym_base.specs.declared.tree.declaration.Param.{Param}
use Rattle.sym_base.specs.Limits.{max_enums, max_labels, max_fields, max_group_fields, max_cells, max_tests, max_parameters, max_parts, max_statements, max_depth, max_operands, max_columns}
use Rattle.sym_base.specs.Names.{is_name}
use Rattle.sym_base.specs.Limits.{num_max, is_number}
use Rattle.sym_base.specs.Sizes.{expr_depth, operand_count, stmts_depth, stmts_count}
use Rattle.sym_base.specs.Trees.{ScriptTree, TestTree, ColumnTree, ExprTree, Num, Words, Named, Call, Neg, Not, Bin, ExprsTree, End, More, StmtTree, Let, Set, Push, Keep, KeepFrom, If, StmtsTree, Done, Then}

abbrev pub is_between : ℕ → ℕ → ℕ → Bool
is_between least most n = nat_le least n && nat_le n most

abbrev pub is_lawful_name : Name → Bool
is_lawful_name name = is_name name.text

-- A text has no LF, and is UTF-8.
unfoldable pub is_lawful_text : List ℕ → Bool
is_lawful_text text = list_all (λ b. not (b == 10)) text && is_utf8 text

-- A number of an expression has no sign of its own, and is at most 10^12. Any other number of a
-- script is at most 10^12 in size.
unfoldable pub is_unsigned : ℤ → Bool
is_unsigned n = int_le (pos 0) n && int_le n (pos num_max)

abbrev pub is_lawful_kind : KindRef → Bool
is_lawful_kind kind.Num = true
is_lawful_kind kind.Word = true
is_lawful_kind (kind.Named name) = is_lawful_name name

abbrev pub is_lawful_literal : Literal → Bool
is_lawful_literal (literal.Num n at) = is_number n
is_lawful_literal (literal.Text text at) = is_lawful_text text
is_lawful_literal (literal.Named name) = is_lawful_name name

abbrev pub is_absent_or : {A : Type 0} → (A → Bool) → Option A → Bool
is_absent_or test None = true
is_absent_or test (Some a) = test a

abbrev pub is_lawful_enum : EnumDecl → Bool
is_lawful_enum d =
    is_lawful_name d.name && is_between 1 max_labels (length d.labels)
    && list_all is_lawful_name d.labels

abbrev pub is_lawful_field : FieldDecl → Bool
is_lawful_field d =
    is_lawful_name d.name && is_absent_or is_lawful_text d.header && is_lawful_kind d.kind
    && is_absent_or is_lawful_literal d.default

abbrev pub is_lawful_part : Part → Bool
is_lawful_part d = is_lawful_kind d.kind && is_lawful_literal d.first

abbrev pub is_lawful_cell : CellDecl → Bool
is_lawful_cell (cell.Int lo hi first clamp) = is_number lo && is_number hi && is_number first
is_lawful_cell (cell.Nums lo hi clamp) = is_number lo && is_number hi
is_lawful_cell cell.Words = true
is_lawful_cell (cell.Hold parts) =
    is_between 1 max_parts (length parts) && list_all is_lawful_part parts
is_lawful_cell (cell.Enum of first) = is_lawful_name of && is_lawful_name first

abbrev pub is_lawful_state : StateDecl → Bool
is_lawful_state d = is_lawful_name d.name && is_lawful_cell d.cell

abbrev pub is_lawful_param : Param → Bool
is_lawful_param d = is_lawful_name d.name && is_lawful_kind d.kind

-- A list of arguments or of kept values has at least one.
abbrev pub has_some : ExprsTree → Bool
has_some End = false
has_some (More e rest) = true

-- Each number, text and name of an expression is lawful, and each call has an argument.
abbrev mutual
  pub has_lawful_leaves : ExprTree → Bool
  has_lawful_leaves (Num n at) = is_unsigned n
  has_lawful_leaves (Words text at) = is_lawful_text text
  has_lawful_leaves (Named name) = is_lawful_name name
  has_lawful_leaves (Call name arguments) =
      is_lawful_name name && has_some arguments && have_lawful_leaves arguments
  has_lawful_leaves (Neg e at) = has_lawful_leaves e
  has_lawful_leaves (Not e at) = has_lawful_leaves e
  has_lawful_leaves (Bin op left right at) = has_lawful_leaves left && has_lawful_leaves right

  pub have_lawful_leaves : ExprsTree → Bool
  have_lawful_leaves End = true
  have_lawful_leaves (More e rest) = has_lawful_leaves e && have_lawful_leaves rest

-- An expression of a script, its depth aside.
abbrev pub is_lawful_expr : ExprTree → Bool
is_lawful_expr e = has_lawful_leaves e && nat_le (operand_count e) max_operands

abbrev pub are_lawful_exprs : ExprsTree → Bool
are_lawful_exprs End = true
are_lawful_exprs (More e rest) = is_lawful_expr e && are_lawful_exprs rest

abbrev pub is_lawful_test : TestTree → Bool
is_lawful_test d =
    is_lawful_name d.name && is_between 1 max_parameters (length d.params)
    && list_all is_lawful_param d.params && is_lawful_expr d.body
    && nat_le (expr_depth d.body) max_depth

abbrev pub is_lawful_column : ColumnTree → Bool
is_lawful_column d =
    is_lawful_name d.name && is_lawful_expr d.value && nat_le (expr_depth d.value) max_depth

-- A statement, depth and number of statements aside.
abbrev mutual
  pub is_lawful_stmt : StmtTree → Bool
  is_lawful_stmt (Let name value) = is_lawful_name name && is_lawful_expr value
  is_lawful_stmt (Set name value) = is_lawful_name name && is_lawful_expr value
  is_lawful_stmt (Push name value) = is_lawful_name name && is_lawful_expr value
  is_lawful_stmt (Keep name values) =
      is_lawful_name name && has_some values && are_lawful_exprs values
  is_lawful_stmt (KeepFrom name source) = is_lawful_name name && is_lawful_name source
  is_lawful_stmt (If condition then_list else_list) =
      is_lawful_expr condition && are_lawful_stmts then_list && are_lawful_stmts else_list

  pub are_lawful_stmts : StmtsTree → Bool
  are_lawful_stmts Done = true
  are_lawful_stmts (Then first rest) = is_lawful_stmt first && are_lawful_stmts rest

-- A script that has a text within the limits.
pub record IsLawful (s : ScriptTree) : Type 0 where
  pub enum_count : length s.enums ≤ max_enums
  pub enums : list_all is_lawful_enum s.enums ≡ true
  pub field_count : is_between 1 max_fields (length s.fields) ≡ true
  pub fields : list_all is_lawful_field s.fields ≡ true
  pub group_count : length s.group ≤ max_group_fields
  pub group : list_all is_lawful_name s.group ≡ true
  pub cell_count : is_between 1 max_cells (length s.states) ≡ true
  pub cells : list_all is_lawful_state s.states ≡ true
  pub test_count : length s.tests ≤ max_tests
  pub tests : list_all is_lawful_test s.tests ≡ true
  pub statement_count : stmts_count s.update ≤ max_statements
  pub statements : are_lawful_stmts s.update ≡ true
  pub depth : stmts_depth s.update ≤ max_depth
  pub column_count : is_between 1 max_columns (length s.columns) ≡ true
  pub columns : list_all is_lawful_column s.columns ≡ true
