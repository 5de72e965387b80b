-- Scripts without their places: each place is 0. Two scripts are the same, places aside, where they
-- are equal without them.
use Rattle.std.specs.Prelude.{◌≡◌, ℕ, List, map, Ok}
use Rattle.std.specs.Option.{option_map}
use Rattle.sym_base.specs.declared.tree.name.Name.{Name}
use Rattle.sym_base.specs.declared.tree.declaration.EnumDecl.{EnumDecl}
use Rattle.sym_base.specs.declared.tree.declaration.FieldDecl.{FieldDecl}
use Rattle.sym_base.specs.declared.tree.declaration.KindRef.{KindRef}
use Rattle.sym_base.specs.declared.tree.declaration.KindRef.TheVariants as kind
use Rattle.sym_base.specs.declared.tree.declaration.Literal.{Literal}
use Rattle.sym_base.specs.declared.tree.declaration.Literal.TheVariants as literal
use Rattle.sym_base.specs.declared.tree.declaration.Part.{Part}
use Rattle.sym_base.specs.declared.tree.declaration.CellDecl.{CellDecl}
use Rattle.sym_base.specs.declared.tree.declaration.CellDecl.TheVariants as cell
use Rattle.sym_base.specs.declared.tree.declaration.StateDecl.{StateDecl}
use Rattle.sym_base.specs.declared.tree.declaration.Param.{Param}
use Rattle.sym_base.specs.Trees.{ScriptTree, TestTree, ColumnTree, ExprTree, Num, Words, Named, Call, Neg, Not, Bin, ExprsTree, End, More, StmtTree, Let, Set, Push, Keep, KeepFrom, If, StmtsTree, Done, Then}
use Rattle.sym_parse.specs.Answers.{IsScriptOf, parsed}

abbrev pub bare_name : Name → Name
bare_name n = record { text = n.text; at = 0 }

abbrev mutual
  pub bare_expr : ExprTree → ExprTree
  bare_expr (Num n at) = Num n 0
  bare_expr (Words text at) = Words text 0
  bare_expr (Named name) = Named (bare_name name)
  bare_expr (Call name arguments) = Call (bare_name name) (bare_exprs arguments)
  bare_expr (Neg e at) = Neg (bare_expr e) 0
  bare_expr (Not e at) = Not (bare_expr e) 0
  bare_expr (Bin op left right at) = Bin op (bare_expr left) (bare_expr right) 0

  pub bare_exprs : ExprsTree → ExprsTree
  bare_exprs End = End
  bare_exprs (More first rest) = More (bare_expr first) (bare_exprs rest)

abbrev mutual
  pub bare_stmt : StmtTree → StmtTree
  bare_stmt (Let name value) = Let (bare_name name) (bare_expr value)
  bare_stmt (Set name value) = Set (bare_name name) (bare_expr value)
  bare_stmt (Push name value) = Push (bare_name name) (bare_expr value)
  bare_stmt (Keep name values) = Keep (bare_name name) (bare_exprs values)
  bare_stmt (KeepFrom name source) = KeepFrom (bare_name name) (bare_name source)
  bare_stmt (If condition then_list else_list) =
      If (bare_expr condition) (bare_stmts then_list) (bare_stmts else_list)

  pub bare_stmts : StmtsTree → StmtsTree
  bare_stmts Done = Done
  bare_stmts (Then first rest) = Then (bare_stmt first) (bare_stmts rest)

abbrev pub bare_kind : KindRef → KindRef
bare_kind kind.Num = kind.Num
bare_kind kind.Word = kind.Word
bare_kind (kind.Named name) = kind.Named (bare_name name)

abbrev pub bare_literal : Literal → Literal
bare_literal (literal.Num n at) = literal.Num n 0
bare_literal (literal.Text text at) = literal.Text text 0
bare_literal (literal.Named name) = literal.Named (bare_name name)

abbrev pub bare_enum : EnumDecl → EnumDecl
bare_enum d = record { name = bare_name d.name; labels = map bare_name d.labels }

abbrev pub bare_field : FieldDecl → FieldDecl
bare_field d = record {
  name = bare_name d.name;
  header = d.header;
  kind = bare_kind d.kind;
  default = option_map bare_literal d.default;
}

abbrev pub bare_part : Part → Part
bare_part d = record { kind = bare_kind d.kind; first = bare_literal d.first }

abbrev pub bare_cell : CellDecl → CellDecl
bare_cell (cell.Int lo hi first clamp) = cell.Int lo hi first clamp
bare_cell (cell.Nums lo hi clamp) = cell.Nums lo hi clamp
bare_cell cell.Words = cell.Words
bare_cell (cell.Hold parts) = cell.Hold (map bare_part parts)
bare_cell (cell.Enum of first) = cell.Enum (bare_name of) (bare_name first)

abbrev pub bare_state : StateDecl → StateDecl
bare_state d = record { name = bare_name d.name; cell = bare_cell d.cell }

abbrev pub bare_param : Param → Param
bare_param d = record { name = bare_name d.name; kind = bare_kind d.kind }

abbrev pub bare_test : TestTree → TestTree
bare_test d = record {
  name = bare_name d.name;
  params = map bare_param d.params;
  body = bare_expr d.body;
}

abbrev pub bare_column : ColumnTree → ColumnTree
bare_column d = record { name = bare_name d.name; value = bare_expr d.value }

abbrev pub bare_script : ScriptTree → ScriptTree
bare_script s = record {
  enums = map bare_enum s.enums;
  fields = map bare_field s.fields;
  group = map bare_name s.group;
  states = map bare_state s.states;
  tests = map bare_test s.tests;
  update = bare_stmts s.update;
  columns = map bare_column s.columns;
}

-- The text is that of a script which is this one, places aside.
pub record IsTextOf (text : List ℕ) (s : ScriptTree) : Type 0 where
  pub again : ScriptTree
  pub accepted : IsScriptOf text again
  pub same : bare_script again ≡ bare_script s

-- Parsing the text gives a script that is this one, places aside.
pub record ParsesAs (text : List ℕ) (s : ScriptTree) : Type 0 where
  pub again : ScriptTree
  pub parses : parsed text ≡ Ok again
  pub same : bare_script again ≡ bare_script s
