-- The definitions of lawful scripts on examples.
use Rattle.std.proofs.Common.{◌≡◌, ℕ, pos, negsuc, true, false, List, [], ◌∷◌, None, codes, refl, lit≤}
use Rattle.sym_base.specs.declared.tree.name.Name.{Name}
use Rattle.sym_base.specs.declared.tree.expression.BinOp.TheVariants as op
use Rattle.sym_base.specs.declared.tree.declaration.KindRef.TheVariants as kind
use Rattle.sym_base.specs.declared.tree.declaration.CellDecl.TheVariants as cell
use Rattle.sym_base.specs.Lawful.{IsLawful, is_lawful_text, is_unsigned, has_lawful_leaves}
use Rattle.sym_base.specs.Limits.{is_number}
use Rattle.sym_base.specs.Names.{is_name, is_keyword, keyword_texts}
use Rattle.sym_base.specs.Precedence.{needs_parentheses, left_level, right_level, not_level, sign_level}
use Rattle.sym_base.specs.Sizes.{expr_depth, operand_count, stmts_depth, stmts_count}
use Rattle.sym_base.specs.Trees.{ScriptTree, ExprTree, Num, Named, Call, Neg, Not, Bin, End, More, StmtsTree, Set, If, Done, Then}

abbrev named : List ℕ → Name
named text = record { text = text; at = 0 }

abbrev a : ExprTree
a = Named (named (codes "a"))

abbrev b : ExprTree
b = Named (named (codes "b"))

-- a - (b - a) needs its parentheses, and (a - b) - a needs none.
grouped_right : needs_parentheses (right_level op.Sub) (Bin op.Sub b a 0) ≡ true
grouped_right = refl

grouped_left : needs_parentheses (left_level op.Sub) (Bin op.Sub a b 0) ≡ false
grouped_left = refl

-- not (a and b), but not a is b, which denies the whole relation.
denied_conjunction : needs_parentheses not_level (Bin op.And a b 0) ≡ true
denied_conjunction = refl

denied_relation : needs_parentheses not_level (Bin op.Is a b 0) ≡ false
denied_relation = refl

-- -(a + b) and -(a * b), but --a.
negated_sum : needs_parentheses sign_level (Bin op.Add a b 0) ≡ true
negated_sum = refl

negated_product : needs_parentheses sign_level (Bin op.Mul a b 0) ≡ true
negated_product = refl

negated_twice : needs_parentheses sign_level (Neg a 0) ≡ false
negated_twice = refl

-- (a < b) is a, and a is (b < a): relations don't chain.
related_left : needs_parentheses (left_level op.Is) (Bin op.Lt a b 0) ≡ true
related_left = refl

related_right : needs_parentheses (right_level op.Is) (Bin op.Lt b a 0) ≡ true
related_right = refl

-- a and not b, but (not a) is b.
denied_right : needs_parentheses (right_level op.And) (Not b 0) ≡ false
denied_right = refl

denied_in_relation : needs_parentheses (left_level op.Is) (Not a 0) ≡ true
denied_in_relation = refl

-- Parentheses, calls, `not` and unary `-` each open a level.
depth_of_parentheses : expr_depth (Bin op.Sub a (Bin op.Sub b a 0) 0) ≡ 1
depth_of_parentheses = refl

depth_without_parentheses : expr_depth (Bin op.Sub (Bin op.Sub a b 0) a 0) ≡ 0
depth_without_parentheses = refl

depth_of_signs : expr_depth (Neg (Neg (Bin op.Add a b 0) 0) 0) ≡ 3
depth_of_signs = refl

depth_of_calls : expr_depth (Not (Call (named (codes "f")) (More a (More (Neg b 0) End))) 0) ≡ 3
depth_of_calls = refl

operands_of_calls : operand_count (Call (named (codes "f")) (More a (More (Neg b 0) End))) ≡ 3
operands_of_calls = refl

-- if a { } else if b { a = b; }
abbrev chained : StmtsTree
chained = Then (If a Done (Then (If b (Then (Set (named (codes "a")) b) Done) Done) Done)) Done

depth_of_chain : stmts_depth chained ≡ 2
depth_of_chain = refl

count_of_chain : stmts_count chained ≡ 3
count_of_chain = refl

keyword_is_no_name : is_name (codes "else") ≡ false
unfolding is_name is_keyword keyword_texts
keyword_is_no_name = refl

keyword_and_more : is_name (codes "else_2") ≡ true
unfolding is_name is_keyword keyword_texts
keyword_and_more = refl

digit_begins_no_name : is_name (codes "2a") ≡ false
unfolding is_name is_keyword keyword_texts
digit_begins_no_name = refl

line_in_text : is_lawful_text (65 ∷ 10 ∷ []) ≡ false
unfolding is_lawful_text
line_in_text = refl

least_number : is_number (negsuc 999999999999) ≡ true
unfolding is_number
least_number = refl

below_least_number : is_number (negsuc 1000000000000) ≡ false
unfolding is_number
below_least_number = refl

signed_literal : has_lawful_leaves (Num (negsuc 0) 0) ≡ false
unfolding is_unsigned
signed_literal = refl

abbrev smallest : ScriptTree
smallest = record {
  enums = [];
  fields = record { name = named (codes "x"); header = None; kind = kind.Num; default = None } ∷ [];
  group = [];
  states = record { name = named (codes "n"); cell = cell.Int (pos 0) (pos 3) (pos 0) false } ∷ [];
  tests = [];
  update = Done;
  columns = record { name = named (codes "n"); value = Named (named (codes "n")) } ∷ [];
}

smallest-lawful : IsLawful smallest
unfolding is_name is_keyword keyword_texts is_number
smallest-lawful = record {
  enum_count = lit≤ tt;
  enums = refl;
  field_count = refl;
  fields = refl;
  group_count = lit≤ tt;
  group = refl;
  cell_count = refl;
  cells = refl;
  test_count = lit≤ tt;
  tests = refl;
  statement_count = lit≤ tt;
  statements = refl;
  depth = lit≤ tt;
  column_count = refl;
  columns = refl;
}
