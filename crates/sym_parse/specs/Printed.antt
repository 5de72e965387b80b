-- The printed form of a script: one declaration a line, parentheses exactly where the tree needs
-- them. It is said by its tokens and the blanks between them. The form is this project's profile.
use Rattle.std.specs.Prelude.{ℕ, suc, ◌+◌, ◌*◌, ℤ, pos, negsuc, Bool, true, false, ◌&&◌, if◌then◌else◌, List, [], ◌∷◌, ◌++◌, replicate, Option, None, Some}
use Rattle.std.specs.List.{flat_map}
use Rattle.std.specs.Fmt.{signed_decimal}
use Rattle.sym_base.specs.declared.tree.name.Name.{Name as NameRecord}
use Rattle.sym_base.specs.declared.tree.expression.BinOp.{BinOp}
use Rattle.sym_base.specs.declared.tree.expression.BinOp.TheVariants as op
use Rattle.sym_base.specs.declared.tree.declaration.EnumDecl.{EnumDecl}
use Rattle.sym_base.specs.declared.tree.declaration.FieldDecl.{FieldDecl}
use Rattle.sym_base.specs.declared.tree.declaration.KindRef.{KindRef}
use Rattle.sym_base.specs.declared.tree.declaration.KindRef.TheVariants as kind
use Rattle.sym_base.specs.declared.tree.declaration.Literal.{Literal}
use Rattle.sym_base.specs.declared.tree.declaration.Literal.TheVariants as literal
use Rattle.sym_base.specs.declared.tree.declaration.Part.{Part}
use Rattle.sym_base.specs.declared.tree.declaration.CellDecl.{CellDecl}
use Rattle.sym_base.specs.declared.tree.declaration.CellDecl.TheVariants as cell
use Rattle.sym_base.specs.declared.tree.declaration.StateDecl.{StateDecl}
use Rattle.sym_base.specs.declared.tree.declaration.Param.{Param}
use Rattle.sym_base.specs.Trees.{ScriptTree, TestTree, ColumnTree, ExprTree, Num, Words, Named, Call, Neg, Not, Bin, ExprsTree, End, More, StmtTree, Let, Set, Push, Keep, KeepFrom, If, StmtsTree, Done, Then}
use Rattle.sym_base.specs.Precedence.{needs_parentheses, left_level, right_level, not_level, sign_level}
use Rattle.sym_lex.specs.declared.keyword.Keyword.{Keyword}
use Rattle.sym_lex.specs.declared.keyword.Keyword.TheVariants as keyword
use Rattle.sym_lex.specs.declared.symbol.Symbol.{Symbol}
use Rattle.sym_lex.specs.declared.symbol.Symbol.TheVariants as symbol
use Rattle.sym_lex.specs.Keywords.{keyword_text}
use Rattle.sym_lex.specs.Quoting.{quoted}
use Rattle.sym_lex.specs.Symbols.{symbol_text}
use Rattle.sym_lex.specs.Terminals.{Terminal, Name, Number, Str, Word, Sign}

-- What the text is made of: tokens, spaces, ends of lines, and the indentation of a line inside so
-- many blocks.
pub data Piece : Type 0 where
  Token : Terminal → Piece
  Space : Piece
  Break : Piece
  Indent : ℕ → Piece

abbrev pub terminal_text : Terminal → List ℕ
terminal_text (Name text) = text
terminal_text (Number n) = signed_decimal n
terminal_text (Str text) = quoted text
terminal_text (Word k) = keyword_text k
terminal_text (Sign s) = symbol_text s

-- Two spaces a block.
abbrev pub indent : ℕ → List ℕ
indent blocks = replicate (2 * blocks) 32

abbrev pub piece_text : Piece → List ℕ
piece_text (Token t) = terminal_text t
piece_text Space = 32 ∷ []
piece_text Break = 10 ∷ []
piece_text (Indent n) = indent n

abbrev pub text : List Piece → List ℕ
text pieces = flat_map piece_text pieces

-- Short forms of pieces.
abbrev pub word : Keyword → Piece
word k = Token (Word k)

abbrev pub sign : Symbol → Piece
sign s = Token (Sign s)

abbrev pub name : NameRecord → Piece
name n = Token (Name n.text)

-- ---- expressions

abbrev pub op_terminal : BinOp → Terminal
op_terminal op.Or = Word keyword.Or
op_terminal op.And = Word keyword.And
op_terminal op.Eq = Sign symbol.Equal
op_terminal op.Ne = Sign symbol.NotEqual
op_terminal op.Lt = Sign symbol.Less
op_terminal op.Le = Sign symbol.LessEqual
op_terminal op.Gt = Sign symbol.Greater
op_terminal op.Ge = Sign symbol.GreaterEqual
op_terminal op.Is = Word keyword.Is
op_terminal op.Add = Sign symbol.Plus
op_terminal op.Sub = Sign symbol.Minus
op_terminal op.Mul = Sign symbol.Star
op_terminal op.Div = Sign symbol.Slash
op_terminal op.Rem = Sign symbol.Percent

-- An operator's text, with the space on each side.
unfoldable pub op_text : BinOp → List ℕ
op_text op = text (Space ∷ Token (op_terminal op) ∷ Space ∷ [])

-- In parentheses, if they are needed.
abbrev pub enclosed : Bool → List Piece → List Piece
enclosed true pieces = sign symbol.OpenParen ∷ (pieces ++ sign symbol.CloseParen ∷ [])
enclosed false pieces = pieces

-- An operand where this level is wanted, from its pieces without parentheses.
abbrev pub operand : ℕ → ExprTree → List Piece → List Piece
operand wanted e pieces = enclosed (needs_parentheses wanted e) pieces

abbrev mutual
  pub expr : ExprTree → List Piece
  expr (Num n at) = Token (Number n) ∷ []
  expr (Words bytes at) = Token (Str bytes) ∷ []
  expr (Named n) = name n ∷ []
  expr (Call n arguments) =
      name n ∷ sign symbol.OpenParen ∷ (exprs arguments ++ sign symbol.CloseParen ∷ [])
  expr (Neg e at) = sign symbol.Minus ∷ operand sign_level e (expr e)
  expr (Not e at) = word keyword.Not ∷ Space ∷ operand not_level e (expr e)
  expr (Bin op left right at) =
      operand (left_level op) left (expr left)
      ++ Space ∷ Token (op_terminal op) ∷ Space ∷ operand (right_level op) right (expr right)

  pub exprs : ExprsTree → List Piece
  exprs End = []
  exprs (More first rest) = expr first ++ further_exprs rest

  pub further_exprs : ExprsTree → List Piece
  further_exprs End = []
  further_exprs (More first rest) = sign symbol.Comma ∷ Space ∷ (expr first ++ further_exprs rest)

-- ---- declarations

-- Items, each after a comma.
abbrev pub further : {A : Type 0} → (A → List Piece) → List A → List Piece
further pieces items = flat_map (λ item. sign symbol.Comma ∷ Space ∷ pieces item) items

-- Items with commas between them.
abbrev pub listed : {A : Type 0} → (A → List Piece) → List A → List Piece
listed pieces [] = []
listed pieces (first ∷ rest) = pieces first ++ further pieces rest

abbrev pub one_name : NameRecord → List Piece
one_name n = name n ∷ []

-- The `-` of a number is a token of its own.
abbrev pub num : ℤ → List Piece
num (pos n) = Token (Number (pos n)) ∷ []
num (negsuc n) = sign symbol.Minus ∷ Token (Number (pos (suc n))) ∷ []

abbrev pub kind_of : KindRef → List Piece
kind_of kind.Num = word keyword.Num ∷ []
kind_of kind.Word = word keyword.Word ∷ []
kind_of (kind.Named n) = name n ∷ []

abbrev pub literal_of : Literal → List Piece
literal_of (literal.Num n at) = num n
literal_of (literal.Text bytes at) = Token (Str bytes) ∷ []
literal_of (literal.Named n) = name n ∷ []

abbrev pub enum_of : EnumDecl → List Piece
enum_of d =
    word keyword.Enum ∷ Space ∷ name d.name ∷ Space ∷ sign symbol.OpenBrace ∷ Space
    ∷ (listed one_name d.labels ++ Space ∷ sign symbol.CloseBrace ∷ Break ∷ [])

abbrev pub header_of : Option (List ℕ) → List Piece
header_of None = []
header_of (Some bytes) = Space ∷ word keyword.From ∷ Space ∷ Token (Str bytes) ∷ []

abbrev pub default_of : Option Literal → List Piece
default_of None = []
default_of (Some value) = Space ∷ word keyword.Else ∷ Space ∷ literal_of value

abbrev pub field_of : FieldDecl → List Piece
field_of d =
    word keyword.Field ∷ Space ∷ name d.name ∷ (header_of d.header ++ sign symbol.Colon ∷ Space
    ∷ (kind_of d.kind ++ (default_of d.default ++ sign symbol.Semicolon ∷ Break ∷ [])))

-- No line without fields.
abbrev pub group_of : List NameRecord → List Piece
group_of [] = []
group_of (first ∷ rest) =
    word keyword.Group ∷ Space ∷ (listed one_name (first ∷ rest)
    ++ sign symbol.Semicolon ∷ Break ∷ [])

unfoldable pub range : ℤ → ℤ → List Piece
range lo hi =
    sign symbol.OpenBracket ∷ (num lo ++ sign symbol.DotDot
    ∷ (num hi ++ sign symbol.CloseBracket ∷ []))

unfoldable pub clamp_of : Bool → List Piece
clamp_of true = Space ∷ word keyword.Clamp ∷ []
clamp_of false = []

abbrev pub part_of : Part → List Piece
part_of d = kind_of d.kind ++ Space ∷ sign symbol.Assign ∷ Space ∷ literal_of d.first

abbrev pub cell_of : CellDecl → List Piece
cell_of (cell.Int lo hi first clamp) =
    word keyword.Int ∷ Space ∷ (range lo hi ++ Space ∷ sign symbol.Assign ∷ Space
    ∷ (num first ++ clamp_of clamp))
cell_of (cell.Nums lo hi clamp) = word keyword.Nums ∷ Space ∷ (range lo hi ++ clamp_of clamp)
cell_of cell.Words = word keyword.Words ∷ []
cell_of (cell.Hold parts) =
    word keyword.Hold ∷ sign symbol.OpenParen
    ∷ (listed part_of parts ++ sign symbol.CloseParen ∷ [])
cell_of (cell.Enum of first) = name of ∷ Space ∷ sign symbol.Assign ∷ Space ∷ name first ∷ []

abbrev pub state_of : StateDecl → List Piece
state_of d =
    word keyword.State ∷ Space ∷ name d.name ∷ sign symbol.Colon ∷ Space
    ∷ (cell_of d.cell ++ sign symbol.Semicolon ∷ Break ∷ [])

abbrev pub param_of : Param → List Piece
param_of d = name d.name ∷ sign symbol.Colon ∷ Space ∷ kind_of d.kind

abbrev pub test_of : TestTree → List Piece
test_of d =
    word keyword.Test ∷ Space ∷ name d.name ∷ sign symbol.OpenParen
    ∷ (listed param_of d.params ++ sign symbol.CloseParen ∷ Space ∷ sign symbol.Assign ∷ Space
    ∷ (expr d.body ++ sign symbol.Semicolon ∷ Break ∷ []))

abbrev pub column_of : ColumnTree → List Piece
column_of d =
    Space ∷ Space ∷ name d.name ∷ Space ∷ sign symbol.Assign ∷ Space
    ∷ (expr d.value ++ sign symbol.Semicolon ∷ Break ∷ [])

-- ---- statements

-- A block whose brackets stand inside so many blocks, from the pieces of its lines.
abbrev pub block : ℕ → List Piece → List Piece
block blocks lines =
    sign symbol.OpenBrace ∷ Break ∷ (lines ++ Indent blocks ∷ sign symbol.CloseBrace ∷ [])

abbrev pub is_if : StmtTree → Bool
is_if (Let name value) = false
is_if (Set name value) = false
is_if (Push name value) = false
is_if (Keep name values) = false
is_if (KeepFrom name source) = false
is_if (If condition then_list else_list) = true

abbrev pub is_empty : StmtsTree → Bool
is_empty Done = true
is_empty (Then first rest) = false

-- A statement inside so many blocks, without the indentation before it and the LF after it. An
-- `else` list that holds just an `if` is printed as `else if`, and an empty one isn't printed.
abbrev mutual
  pub stmt : ℕ → StmtTree → List Piece
  stmt blocks (Let n value) =
      word keyword.Let ∷ Space ∷ name n ∷ Space ∷ sign symbol.Assign ∷ Space
      ∷ (expr value ++ sign symbol.Semicolon ∷ [])
  stmt blocks (Set n value) =
      name n ∷ Space ∷ sign symbol.Assign ∷ Space ∷ (expr value ++ sign symbol.Semicolon ∷ [])
  stmt blocks (Push n value) =
      word keyword.Push ∷ Space ∷ name n ∷ Space ∷ (expr value ++ sign symbol.Semicolon ∷ [])
  stmt blocks (Keep n values) =
      word keyword.Keep ∷ Space ∷ name n ∷ sign symbol.OpenParen
      ∷ (exprs values ++ sign symbol.CloseParen ∷ sign symbol.Semicolon ∷ [])
  stmt blocks (KeepFrom n source) =
      word keyword.Keep ∷ Space ∷ name n ∷ Space ∷ word keyword.From ∷ Space ∷ name source
      ∷ sign symbol.Semicolon ∷ []
  stmt blocks (If condition then_list else_list) =
      word keyword.If ∷ Space ∷ (expr condition
      ++ Space ∷ (block blocks (stmts (blocks + 1) then_list) ++ else_of blocks else_list))

  pub else_of : ℕ → StmtsTree → List Piece
  else_of blocks Done = []
  else_of blocks (Then first rest) =
      Space ∷ word keyword.Else ∷ Space ∷ (if is_if first && is_empty rest then stmt blocks first
      else block blocks (Indent (blocks + 1)
      ∷ (stmt (blocks + 1) first ++ Break ∷ stmts (blocks + 1) rest)))

  pub stmts : ℕ → StmtsTree → List Piece
  stmts blocks Done = []
  stmts blocks (Then first rest) =
      Indent blocks ∷ (stmt blocks first ++ Break ∷ stmts blocks rest)

-- ---- the script

abbrev pub update_of : StmtsTree → List Piece
update_of update = word keyword.Update ∷ Space ∷ (block 0 (stmts 1 update) ++ Break ∷ [])

abbrev pub report_of : List ColumnTree → List Piece
report_of columns =
    word keyword.Report ∷ Space ∷ sign symbol.OpenBrace ∷ Break
    ∷ (flat_map column_of columns ++ sign symbol.CloseBrace ∷ Break ∷ [])

-- The pieces of a script.
unfoldable pub script : ScriptTree → List Piece
script s =
    flat_map enum_of s.enums ++ (flat_map field_of s.fields ++ (group_of s.group
    ++ (flat_map state_of s.states ++ (flat_map test_of s.tests
    ++ (update_of s.update ++ report_of s.columns)))))

-- The text of a script.
unfoldable pub script_text : ScriptTree → List ℕ
script_text s = text (script s)
