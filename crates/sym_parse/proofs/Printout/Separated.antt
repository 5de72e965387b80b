-- Between the printed form's tokens stand blanks wherever two tokens would run together.
use Rattle.std.proofs.Common.{◌≡◌, ℕ, suc, ◌+◌, ℤ, pos, negsuc, Bool, true, false, not, ◌&&◌, ◌||◌, nat_le, if◌then◌else◌, List, [], ◌∷◌, ◌++◌, length, Option, None, Some, refl, sym, ◌∙◌, subst, append_assoc, arith}
use Rattle.std.proofs.lemmas.Bool.Decides.{nat_tests}
use Rattle.std.proofs.lemmas.Int.{ints}
use Rattle.std.specs.List.{flat_map, list_all}
use Rattle.sym_base.specs.declared.tree.name.Name.{Name as NameRecord}
use Rattle.sym_base.specs.declared.tree.expression.BinOp.{BinOp}
use Rattle.sym_base.specs.declared.tree.expression.BinOp.TheVariants as op
use Rattle.sym_base.specs.declared.tree.declaration.EnumDecl.{EnumDecl}
use Rattle.sym_base.specs.declared.tree.declaration.FieldDecl.{FieldDecl}
use Rattle.sym_base.specs.declared.tree.declaration.KindRef.{KindRef}
use Rattle.sym_base.specs.declared.tree.declaration.KindRef.TheVariants as kind
use Rattle.sym_base.specs.declared.tree.declaration.Literal.{Literal}
use Rattle.sym_base.specs.declared.tree.declaration.Literal.TheVariants as literal
use Rattle.sym_base.specs.declared.tree.declaration.Part.{Part}
use Rattle.sym_base.specs.declared.tree.declaration.CellDecl.{CellDecl}
use Rattle.sym_base.specs.declared.tree.declaration.CellDecl.TheVariants as cell
use Rattle.sym_base.specs.declared.tree.declaration.StateDecl.{StateDecl}
use Rattle.sym_base.specs.declared.tree.declaration.Param.{Param}
use Rattle.sym_base.specs.Lawful.{IsLawful, is_between, is_unsigned, is_lawful_name, is_lawful_text, is_lawful_enum, is_lawful_field, is_lawful_state, is_lawful_cell, is_lawful_part, is_lawful_param, is_lawful_test, is_lawful_column, is_lawful_expr, are_lawful_exprs, is_lawful_kind, is_lawful_literal, is_absent_or, has_lawful_leaves, have_lawful_leaves, has_some, is_lawful_stmt, are_lawful_stmts}
use Rattle.sym_base.specs.Limits.{max_labels, max_parts, max_parameters, max_depth, is_number}
use Rattle.sym_base.specs.Names.{is_name}
use Rattle.sym_base.specs.Precedence.{needs_parentheses, left_level, right_level, not_level, sign_level}
use Rattle.sym_base.specs.Sizes.{expr_depth}
use Rattle.sym_base.specs.Trees.{ScriptTree, TestTree, ColumnTree, ExprTree, Num, Words, Named, Call, Neg, Not, Bin, ExprsTree, End, More, StmtTree, Let, Set, Push, Keep, KeepFrom, If, StmtsTree, Done, Then}
use Rattle.sym_lex.specs.declared.symbol.Symbol.TheVariants as symbol
use Rattle.sym_lex.specs.Terminals.{Terminal, Name, Number, Str, Word, Sign}
use Rattle.sym_lex.proofs.Spelling.{may_grow}
use Rattle.sym_parse.specs.Printed.{is_if, is_empty, Piece, Token, Space, Break, Indent, sign, op_terminal, enclosed, operand, expr, exprs, further_exprs, further, listed, one_name, num, kind_of, literal_of, enum_of, header_of, default_of, field_of, group_of, range, clamp_of, part_of, cell_of, state_of, param_of, test_of, column_of, block, stmt, else_of, stmts, update_of, report_of, script}
use Rattle.sym_parse.proofs.Printout.ExpressionsBack.{both}
use Rattle.sym_parse.proofs.Printout.StatementsBack.{all-leaves-of, leaves-of}

abbrev pub is_symbol : Terminal → Bool
is_symbol (Name text) = false
is_symbol (Number n) = false
is_symbol (Str text) = false
is_symbol (Word k) = false
is_symbol (Sign s) = true

-- Whether pieces may stand right after a name, a keyword or a number.
abbrev pub is_soft : List Piece → Bool
is_soft [] = true
is_soft (Token t ∷ rest) = is_symbol t
is_soft (Space ∷ rest) = true
is_soft (Break ∷ rest) = true
is_soft (Indent n ∷ rest) = false

abbrev pub starts_blank : List Piece → Bool
starts_blank [] = true
starts_blank (Token t ∷ rest) = false
starts_blank (Space ∷ rest) = true
starts_blank (Break ∷ rest) = true
starts_blank (Indent n ∷ rest) = false

-- Whether pieces may stand right after a token.
abbrev pub parted : Terminal → List Piece → Bool
parted (Name text) rest = is_soft rest
parted (Number n) rest = is_soft rest
parted (Str text) rest = true
parted (Word k) rest = is_soft rest
parted (Sign s) rest = not (may_grow s) || starts_blank rest

abbrev pub is_sound : Terminal → Bool
is_sound (Name text) = is_name text
is_sound (Number n) = is_unsigned n
is_sound (Str text) = is_lawful_text text
is_sound (Word k) = true
is_sound (Sign s) = true

-- Each token can be written, and what follows it may stand there.
abbrev pub fits : List Piece → Bool
fits [] = true
fits (Token t ∷ rest) = is_sound t && (parted t rest && fits rest)
fits (Space ∷ rest) = fits rest
fits (Break ∷ rest) = fits rest
fits (Indent n ∷ rest) = fits rest

join : (a b : Bool) → a ≡ true → b ≡ true → (a && b) ≡ true
join true b p q = q
join false b p q = cc

join3 : (a b c : Bool) → a ≡ true → b ≡ true → c ≡ true → (a && (b && c)) ≡ true
join3 a b c p q r = join a (b && c) p (join b c q r)

-- Pieces that end in a token after which a blank or a symbol may stand.
abbrev Closed : List Piece → Type 0
Closed ps = (rest : List Piece) → is_soft rest ≡ true → fits rest ≡ true → fits (ps ++ rest) ≡ true

-- The same of pieces that may stand after a name.
abbrev Opens : List Piece → Type 0
Opens ps = (rest : List Piece) → is_soft rest ≡ true → fits rest ≡ true → (is_soft (ps ++ rest) ≡ true) × (fits (ps ++ rest) ≡ true)

-- Pieces that end a line.
abbrev Ends : List Piece → Type 0
Ends ps = (rest : List Piece) → fits rest ≡ true → fits (ps ++ rest) ≡ true

after : (a b rest : List Piece) → Closed a → is_soft (b ++ rest) ≡ true → fits (b ++ rest) ≡ true → fits ((a ++ b) ++ rest) ≡ true
after a b rest p s f = subst (λ ps. fits ps ≡ true) (sym (append_assoc a b rest)) (p (b ++ rest) s f)

opens-after : (a b rest : List Piece) → Opens a → is_soft (b ++ rest) ≡ true → fits (b ++ rest) ≡ true → (is_soft ((a ++ b) ++ rest) ≡ true) × (fits ((a ++ b) ++ rest) ≡ true)
opens-after a b rest p s f =
    let both_of = p (b ++ rest) s f in
    (subst (λ ps. is_soft ps ≡ true) (sym (append_assoc a b rest)) both_of.0, subst (λ ps. fits ps ≡ true) (sym (append_assoc a b rest)) both_of.1)

ends-after : (a b rest : List Piece) → Ends a → fits (b ++ rest) ≡ true → fits ((a ++ b) ++ rest) ≡ true
ends-after a b rest p f = subst (λ ps. fits ps ≡ true) (sym (append_assoc a b rest)) (p (b ++ rest) f)

-- ---- expressions

op-fits : (b : BinOp) (rest : List Piece) → fits (Token (op_terminal b) ∷ Space ∷ rest) ≡ fits rest
op-fits op.Or rest = refl
op-fits _ rest = refl

enclosed-closed : (t : Bool) (ps : List Piece) → Closed ps → Closed (enclosed t ps)
enclosed-closed true ps h rest s f = after ps (sign symbol.CloseParen ∷ []) rest h refl f
enclosed-closed false ps h rest s f = h rest s f

operand-closed : (wanted : ℕ) (e : ExprTree) → Closed (expr e) → Closed (operand wanted e (expr e))
operand-closed wanted e h = enclosed-closed (needs_parentheses wanted e) (expr e) h

mutual
  expr-closed : (e : ExprTree) → has_lawful_leaves e ≡ true → Closed (expr e)
  expr-closed (Num n at) l rest s f = join3 (is_unsigned n) (is_soft rest) (fits rest) l s f
  expr-closed (Words bytes at) l rest s f = join (is_lawful_text bytes) (fits rest) l f
  expr-closed (Named n) l rest s f = join3 (is_name n.text) (is_soft rest) (fits rest) l s f
  expr-closed (Call n arguments) l rest s f =
      let parts = both (is_lawful_name n && has_some arguments) (have_lawful_leaves arguments) l in
      join (is_name n.text) _ (both (is_lawful_name n) (has_some arguments) parts.0).0
      (after (exprs arguments) (sign symbol.CloseParen ∷ []) rest (exprs-closed arguments parts.1) refl f)
  expr-closed (Neg e at) l rest s f = operand-closed sign_level e (expr-closed e l) rest s f
  expr-closed (Not e at) l rest s f = operand-closed not_level e (expr-closed e l) rest s f
  expr-closed (Bin b left right at) l rest s f =
      let parts = both (has_lawful_leaves left) (has_lawful_leaves right) l in
      after (operand (left_level b) left (expr left)) (Space ∷ Token (op_terminal b) ∷ Space ∷ operand (right_level b) right (expr right)) rest
      (operand-closed (left_level b) left (expr-closed left parts.0)) refl
      (op-fits b (operand (right_level b) right (expr right) ++ rest) ∙ operand-closed (right_level b) right (expr-closed right parts.1) rest s f)

  exprs-closed : (es : ExprsTree) → have_lawful_leaves es ≡ true → Closed (exprs es)
  exprs-closed End l rest s f = f
  exprs-closed (More first more) l rest s f =
      let parts = both (has_lawful_leaves first) (have_lawful_leaves more) l in
      let others = further-opens more parts.1 rest s f in
      after (expr first) (further_exprs more) rest (expr-closed first parts.0) others.0 others.1

  further-opens : (es : ExprsTree) → have_lawful_leaves es ≡ true → Opens (further_exprs es)
  further-opens End l rest s f = (s, f)
  further-opens (More first more) l rest s f =
      let parts = both (has_lawful_leaves first) (have_lawful_leaves more) l in
      let others = further-opens more parts.1 rest s f in
      (refl, after (expr first) (further_exprs more) rest (expr-closed first parts.0) others.0 others.1)

value-closed : (e : ExprTree) → is_lawful_expr e ≡ true → Closed (expr e)
value-closed e l = expr-closed e (leaves-of e l)

-- ---- lists

module _ {A : Type 0} (pieces : A → List Piece) (lawful : A → Bool) where
  items-open : ((a : A) → lawful a ≡ true → Closed (pieces a)) → (xs : List A) → list_all lawful xs ≡ true → Opens (further pieces xs)
  items-open own [] h rest s f = (s, f)
  items-open own (x ∷ xs) h rest s f =
      let parts = both (lawful x) (list_all lawful xs) h in
      let others = items-open own xs parts.1 rest s f in
      (refl, after (pieces x) (further pieces xs) rest (own x parts.0) others.0 others.1)

  items-closed : ((a : A) → lawful a ≡ true → Closed (pieces a)) → (xs : List A) → list_all lawful xs ≡ true → Closed (listed pieces xs)
  items-closed own [] h rest s f = f
  items-closed own (x ∷ xs) h rest s f =
      let parts = both (lawful x) (list_all lawful xs) h in
      let others = items-open own xs parts.1 rest s f in
      after (pieces x) (further pieces xs) rest (own x parts.0) others.0 others.1

  lines-end : ((a : A) → lawful a ≡ true → Ends (pieces a)) → (xs : List A) → list_all lawful xs ≡ true → Ends (flat_map pieces xs)
  lines-end own [] h rest f = f
  lines-end own (x ∷ xs) h rest f =
      let parts = both (lawful x) (list_all lawful xs) h in
      ends-after (pieces x) (flat_map pieces xs) rest (own x parts.0) (lines-end own xs parts.1 rest f)

-- ---- declarations

positive : (n : ℕ) → is_number (pos n) ≡ true → is_unsigned (pos n) ≡ true
unfolding is_number is_unsigned
positive n h = grind (arith, ints, nat_tests)

negative : (n : ℕ) → is_number (negsuc n) ≡ true → is_unsigned (pos (suc n)) ≡ true
unfolding is_number is_unsigned
negative n h = grind (arith, ints, nat_tests)

num-closed : (n : ℤ) → is_number n ≡ true → Closed (num n)
num-closed (pos n) l rest s f = join3 (is_unsigned (pos n)) (is_soft rest) (fits rest) (positive n l) s f
num-closed (negsuc n) l rest s f = join3 (is_unsigned (pos (suc n))) (is_soft rest) (fits rest) (negative n l) s f

one-closed : (n : NameRecord) → is_lawful_name n ≡ true → Closed (one_name n)
one-closed n l rest s f = join3 (is_name n.text) (is_soft rest) (fits rest) l s f

kind-closed : (v : KindRef) → is_lawful_kind v ≡ true → Closed (kind_of v)
kind-closed kind.Num l rest s f = join (is_soft rest) (fits rest) s f
kind-closed kind.Word l rest s f = join (is_soft rest) (fits rest) s f
kind-closed (kind.Named n) l rest s f = one-closed n l rest s f

literal-closed : (v : Literal) → is_lawful_literal v ≡ true → Closed (literal_of v)
literal-closed (literal.Num n at) l rest s f = num-closed n l rest s f
literal-closed (literal.Text bytes at) l rest s f = join (is_lawful_text bytes) (fits rest) l f
literal-closed (literal.Named n) l rest s f = one-closed n l rest s f

enum-ends : (d : EnumDecl) → is_lawful_enum d ≡ true → Ends (enum_of d)
enum-ends d h rest f =
    let parts = both (is_lawful_name d.name && is_between 1 max_labels (length d.labels)) (list_all is_lawful_name d.labels) h in
    join (is_name d.name.text) _ (both (is_lawful_name d.name) (is_between 1 max_labels (length d.labels)) parts.0).0
    (after (listed one_name d.labels) (Space ∷ sign symbol.CloseBrace ∷ Break ∷ []) rest (items-closed one_name is_lawful_name one-closed d.labels parts.1) refl f)

header-opens : (v : Option (List ℕ)) → is_absent_or is_lawful_text v ≡ true → Opens (header_of v)
header-opens None l rest s f = (s, f)
header-opens (Some bytes) l rest s f = (refl, join (is_lawful_text bytes) (fits rest) l f)

default-opens : (v : Option Literal) → is_absent_or is_lawful_literal v ≡ true → Opens (default_of v)
default-opens None l rest s f = (s, f)
default-opens (Some v) l rest s f = (refl, literal-closed v l rest s f)

field-ends : (d : FieldDecl) → is_lawful_field d ≡ true → Ends (field_of d)
field-ends d h rest f =
    let last = both (is_lawful_name d.name && is_absent_or is_lawful_text d.header && is_lawful_kind d.kind) (is_absent_or is_lawful_literal d.default) h in
    let kinds = both (is_lawful_name d.name && is_absent_or is_lawful_text d.header) (is_lawful_kind d.kind) last.0 in
    let front = both (is_lawful_name d.name) (is_absent_or is_lawful_text d.header) kinds.0 in
    let E : List Piece = sign symbol.Semicolon ∷ Break ∷ [] in
    let T : List Piece = default_of d.default ++ E in
    let Y : List Piece = sign symbol.Colon ∷ Space ∷ (kind_of d.kind ++ T) in
    let third = opens-after (default_of d.default) E rest (default-opens d.default last.1) refl f in
    let second : fits (Y ++ rest) ≡ true = after (kind_of d.kind) T rest (kind-closed d.kind kinds.1) third.0 third.1 in
    let first = opens-after (header_of d.header) Y rest (header-opens d.header front.1) refl second in
    join3 (is_name d.name.text) _ _ front.0 first.0 first.1

group-ends : (v : List NameRecord) → list_all is_lawful_name v ≡ true → Ends (group_of v)
group-ends [] l rest f = f
group-ends (n ∷ ns) l rest f =
    after (listed one_name (n ∷ ns)) (sign symbol.Semicolon ∷ Break ∷ []) rest (items-closed one_name is_lawful_name one-closed (n ∷ ns) l) refl f

range-closed : (lo hi : ℤ) → is_number lo ≡ true → is_number hi ≡ true → Closed (range lo hi)
unfolding range
range-closed lo hi p q rest s f =
    after (num lo) (sign symbol.DotDot ∷ (num hi ++ sign symbol.CloseBracket ∷ [])) rest (num-closed lo p) refl
    (after (num hi) (sign symbol.CloseBracket ∷ []) rest (num-closed hi q) refl f)

clamp-opens : (clamp : Bool) → Opens (clamp_of clamp)
unfolding clamp_of
clamp-opens true rest s f = (refl, join (is_soft rest) (fits rest) s f)
clamp-opens false rest s f = (s, f)

part-closed : (d : Part) → is_lawful_part d ≡ true → Closed (part_of d)
part-closed d h rest s f =
    let parts = both (is_lawful_kind d.kind) (is_lawful_literal d.first) h in
    after (kind_of d.kind) (Space ∷ sign symbol.Assign ∷ Space ∷ literal_of d.first) rest (kind-closed d.kind parts.0) refl (literal-closed d.first parts.1 rest s f)

cell-closed : (c : CellDecl) → is_lawful_cell c ≡ true → Closed (cell_of c)
cell-closed (cell.Int lo hi first clamp) h rest s f =
    let parts = both (is_number lo && is_number hi) (is_number first) h in
    let ends = both (is_number lo) (is_number hi) parts.0 in
    let last = clamp-opens clamp rest s f in
    after (range lo hi) (Space ∷ sign symbol.Assign ∷ Space ∷ (num first ++ clamp_of clamp)) rest (range-closed lo hi ends.0 ends.1) refl
    (after (num first) (clamp_of clamp) rest (num-closed first parts.1) last.0 last.1)
cell-closed (cell.Nums lo hi clamp) h rest s f =
    let ends = both (is_number lo) (is_number hi) h in
    let last = clamp-opens clamp rest s f in
    after (range lo hi) (clamp_of clamp) rest (range-closed lo hi ends.0 ends.1) last.0 last.1
cell-closed cell.Words h rest s f = join (is_soft rest) (fits rest) s f
cell-closed (cell.Hold parts) h rest s f =
    after (listed part_of parts) (sign symbol.CloseParen ∷ []) rest (items-closed part_of is_lawful_part part-closed parts (both (is_between 1 max_parts (length parts)) (list_all is_lawful_part parts) h).1) refl f
cell-closed (cell.Enum of first) h rest s f =
    let parts = both (is_lawful_name of) (is_lawful_name first) h in
    join (is_name of.text) _ parts.0 (one-closed first parts.1 rest s f)

state-ends : (d : StateDecl) → is_lawful_state d ≡ true → Ends (state_of d)
state-ends d h rest f =
    let parts = both (is_lawful_name d.name) (is_lawful_cell d.cell) h in
    join (is_name d.name.text) _ parts.0 (after (cell_of d.cell) (sign symbol.Semicolon ∷ Break ∷ []) rest (cell-closed d.cell parts.1) refl f)

param-closed : (d : Param) → is_lawful_param d ≡ true → Closed (param_of d)
param-closed d h rest s f =
    let parts = both (is_lawful_name d.name) (is_lawful_kind d.kind) h in
    join (is_name d.name.text) _ parts.0 (kind-closed d.kind parts.1 rest s f)

test-ends : (d : TestTree) → is_lawful_test d ≡ true → Ends (test_of d)
test-ends d h rest f =
    let deep = both (is_lawful_name d.name && is_between 1 max_parameters (length d.params) && list_all is_lawful_param d.params && is_lawful_expr d.body) (nat_le (expr_depth d.body) max_depth) h in
    let valued = both (is_lawful_name d.name && is_between 1 max_parameters (length d.params) && list_all is_lawful_param d.params) (is_lawful_expr d.body) deep.0 in
    let listing = both (is_lawful_name d.name && is_between 1 max_parameters (length d.params)) (list_all is_lawful_param d.params) valued.0 in
    let T : List Piece = expr d.body ++ sign symbol.Semicolon ∷ Break ∷ [] in
    join (is_name d.name.text) _ (both (is_lawful_name d.name) (is_between 1 max_parameters (length d.params)) listing.0).0
    (after (listed param_of d.params) (sign symbol.CloseParen ∷ Space ∷ sign symbol.Assign ∷ Space ∷ T) rest (items-closed param_of is_lawful_param param-closed d.params listing.1) refl
    (after (expr d.body) (sign symbol.Semicolon ∷ Break ∷ []) rest (value-closed d.body valued.1) refl f))

column-ends : (d : ColumnTree) → is_lawful_column d ≡ true → Ends (column_of d)
column-ends d h rest f =
    let deep = both (is_lawful_name d.name && is_lawful_expr d.value) (nat_le (expr_depth d.value) max_depth) h in
    let valued = both (is_lawful_name d.name) (is_lawful_expr d.value) deep.0 in
    join (is_name d.name.text) _ valued.0 (after (expr d.value) (sign symbol.Semicolon ∷ Break ∷ []) rest (value-closed d.value valued.1) refl f)

-- ---- statements

block-closed : (blocks : ℕ) (lines : List Piece) → Ends lines → Closed (block blocks lines)
block-closed blocks lines h rest s f = ends-after lines (Indent blocks ∷ sign symbol.CloseBrace ∷ []) rest h f

chosen-closed : (t : Bool) (a b : List Piece) → Closed a → Closed b → Closed (if t then a else b)
chosen-closed true a b p q = p
chosen-closed false a b p q = q

mutual
  stmt-closed : (blocks : ℕ) (s : StmtTree) → is_lawful_stmt s ≡ true → Closed (stmt blocks s)
  stmt-closed blocks (Let n value) l rest s f =
      let parts = both (is_lawful_name n) (is_lawful_expr value) l in
      join (is_name n.text) _ parts.0 (after (expr value) (sign symbol.Semicolon ∷ []) rest (value-closed value parts.1) refl f)
  stmt-closed blocks (Set n value) l rest s f =
      let parts = both (is_lawful_name n) (is_lawful_expr value) l in
      join (is_name n.text) _ parts.0 (after (expr value) (sign symbol.Semicolon ∷ []) rest (value-closed value parts.1) refl f)
  stmt-closed blocks (Push n value) l rest s f =
      let parts = both (is_lawful_name n) (is_lawful_expr value) l in
      join (is_name n.text) _ parts.0 (after (expr value) (sign symbol.Semicolon ∷ []) rest (value-closed value parts.1) refl f)
  stmt-closed blocks (Keep n values) l rest s f =
      let parts = both (is_lawful_name n && has_some values) (are_lawful_exprs values) l in
      join (is_name n.text) _ (both (is_lawful_name n) (has_some values) parts.0).0
      (after (exprs values) (sign symbol.CloseParen ∷ sign symbol.Semicolon ∷ []) rest (exprs-closed values (all-leaves-of values parts.1)) refl f)
  stmt-closed blocks (KeepFrom n source) l rest s f =
      let parts = both (is_lawful_name n) (is_lawful_name source) l in
      join (is_name n.text) _ parts.0 (join (is_name source.text) (fits rest) parts.1 f)
  stmt-closed blocks (If condition then_list else_list) l rest s f =
      let parts = both (is_lawful_expr condition && are_lawful_stmts then_list) (are_lawful_stmts else_list) l in
      let front = both (is_lawful_expr condition) (are_lawful_stmts then_list) parts.0 in
      let A : List Piece = block blocks (stmts (blocks + 1) then_list) in
      let others = else-opens blocks else_list parts.1 rest s f in
      after (expr condition) (Space ∷ (A ++ else_of blocks else_list)) rest (value-closed condition front.0) refl
      (after A (else_of blocks else_list) rest (block-closed blocks (stmts (blocks + 1) then_list) (stmts-end (blocks + 1) then_list front.1)) others.0 others.1)

  else-opens : (blocks : ℕ) (ss : StmtsTree) → are_lawful_stmts ss ≡ true → Opens (else_of blocks ss)
  else-opens blocks Done l rest s f = (s, f)
  else-opens blocks (Then first more) l rest s f =
      let parts = both (is_lawful_stmt first) (are_lawful_stmts more) l in (
        refl,
        chosen-closed (is_if first && is_empty more) (stmt blocks first) (block blocks (Indent (blocks + 1) ∷ (stmt (blocks + 1) first ++ Break ∷ stmts (blocks + 1) more)))
            (stmt-closed blocks first parts.0)
            (block-closed blocks (Indent (blocks + 1) ∷ (stmt (blocks + 1) first ++ Break ∷ stmts (blocks + 1) more))
            (λ others g. after (stmt (blocks + 1) first) (Break ∷ stmts (blocks + 1) more) others (stmt-closed (blocks + 1) first parts.0) refl (stmts-end (blocks + 1) more parts.1 others g)))
            rest s f,
      )

  stmts-end : (blocks : ℕ) (ss : StmtsTree) → are_lawful_stmts ss ≡ true → Ends (stmts blocks ss)
  stmts-end blocks Done l rest f = f
  stmts-end blocks (Then first more) l rest f =
      let parts = both (is_lawful_stmt first) (are_lawful_stmts more) l in
      after (stmt blocks first) (Break ∷ stmts blocks more) rest (stmt-closed blocks first parts.0) refl (stmts-end blocks more parts.1 rest f)

-- ---- the script

report-fits : (columns : List ColumnTree) → list_all is_lawful_column columns ≡ true → fits (report_of columns) ≡ true
report-fits columns h = lines-end column_of is_lawful_column column-ends columns h (sign symbol.CloseBrace ∷ Break ∷ []) refl

update-ends : (update : StmtsTree) → are_lawful_stmts update ≡ true → Ends (update_of update)
update-ends update h rest f =
    after (block 0 (stmts 1 update)) (Break ∷ []) rest (block-closed 0 (stmts 1 update) (stmts-end 1 update h)) refl f

pub script-fits : (s : ScriptTree) → IsLawful s → fits (script s) ≡ true
unfolding script
script-fits s h =
    lines-end enum_of is_lawful_enum enum-ends s.enums h.enums _
    (lines-end field_of is_lawful_field field-ends s.fields h.fields _
    (group-ends s.group h.group _
    (lines-end state_of is_lawful_state state-ends s.states h.cells _
    (lines-end test_of is_lawful_test test-ends s.tests h.tests _
    (update-ends s.update h.statements (report_of s.columns) (report-fits s.columns h.columns))))))
