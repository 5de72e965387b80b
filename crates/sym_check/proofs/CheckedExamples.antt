-- The rules of the checker, tried on scripts.
use Rattle.std.specs.Prelude.{◌≡◌, refl, ℕ, zero, suc, ℤ, pos, negsuc, Bool, true, false, codes, List, [], ◌∷◌, Option, Some, None, Result, Ok, Err}
use Rattle.sym_base.specs.declared.tree.name.Name.{Name}
use Rattle.sym_base.specs.declared.tree.compare.Compare.TheVariants as compare
use Rattle.sym_base.specs.declared.tree.expression.BinOp.TheVariants as op
use Rattle.sym_base.specs.declared.tree.declaration.EnumDecl.{EnumDecl}
use Rattle.sym_base.specs.declared.tree.declaration.FieldDecl.{FieldDecl}
use Rattle.sym_base.specs.declared.tree.declaration.KindRef.TheVariants as ref
use Rattle.sym_base.specs.declared.tree.declaration.Literal.TheVariants as literal
use Rattle.sym_base.specs.declared.tree.declaration.CellDecl.{CellDecl}
use Rattle.sym_base.specs.declared.tree.declaration.CellDecl.TheVariants as cell
use Rattle.sym_base.specs.declared.tree.declaration.StateDecl.{StateDecl}
use Rattle.sym_base.specs.declared.values.value.Value.TheVariants as value
use Rattle.sym_base.specs.Trees.{ScriptTree, TestTree, ColumnTree, ExprTree, Num, Words, Named, Call, Neg, Not, Bin, ExprsTree, End, More, StmtTree, Let, Set, Push, Keep, KeepFrom, If, StmtsTree, Done, Then}
use Rattle.sym_check.specs.declared.plan.script.FieldPlan.{FieldPlan}
use Rattle.sym_check.specs.declared.plan.script.KindPlan.TheVariants as kind
use Rattle.sym_check.specs.declared.plan.script.CellPlan.TheVariants as plan
use Rattle.sym_check.specs.declared.plan.expression.LabelOf.TheVariants as label
use Rattle.sym_check.specs.declared.plan.show.ShowFn.TheVariants as show_fn
use Rattle.sym_check.specs.Plan.FixedPlans as fixed
use Rattle.sym_check.specs.Plan.LinePlans as line
use Rattle.sym_check.specs.Plan.CondPlans as cond
use Rattle.sym_check.specs.Plan.DoPlans as do_
use Rattle.sym_check.specs.Plan.ShowPlans as show
use Rattle.sym_check.specs.Plan.ScriptPlans.{ScriptPlan}
use Rattle.sym_check.specs.declared.elaborate.error.CheckErr.TheVariants as broken
use Rattle.sym_check.specs.Rules.Scripts.{plan_of}

abbrev n_at : ℕ → Name
n_at at = record { text = codes "n"; at = at }

abbrev x_at : ℕ → Name
x_at at = record { text = codes "x"; at = at }

abbrev name_at : List ℕ → ℕ → Name
name_at text at = record { text = text; at = at }

-- field x: num; state n: int [lo..hi] = 0; update { .. } report { n = n; }, the cell maybe marked.
abbrev ranged : ℤ → ℤ → Bool → StmtsTree → ScriptTree
ranged lo hi clamp update = record {
  enums = [];
  fields = record { name = x_at 6; header = None; kind = ref.Num; default = None } ∷ [];
  group = [];
  states = record { name = n_at 20; cell = cell.Int lo hi (pos 0) clamp } ∷ [];
  tests = [];
  update = update;
  columns = record { name = n_at 70; value = Named (n_at 74) } ∷ [];
}

abbrev counter : StmtsTree → ScriptTree
counter update = ranged (pos 0) (pos 3) false update

abbrev only : StmtTree → StmtsTree
only d = Then d Done

-- n = n * n;
square : plan_of (counter (only (Set (n_at 48) (Bin op.Mul (Named (n_at 52)) (Named (n_at 56)) 54)))) ≡ Err (broken.NotLinear 54)
square = refl

-- n = n + n;
double : plan_of (counter (only (Set (n_at 48) (Bin op.Add (Named (n_at 52)) (Named (n_at 56)) 54)))) ≡ Err (broken.NotLinear 54)
double = refl

-- n = m;
unknown : plan_of (counter (only (Set (n_at 48) (Named (name_at (codes "m") 52))))) ≡ Err (broken.Name 52)
unknown = refl

-- n = "a";
a_word : plan_of (counter (only (Set (n_at 48) (Words (codes "a") 52)))) ≡ Err (broken.Kind 52)
a_word = refl

-- n = 1 + "a";
a_word_added : plan_of (counter (only (Set (n_at 48) (Bin op.Add (Num (pos 1) 52) (Words (codes "a") 56) 54)))) ≡ Err (broken.Kind 54)
a_word_added = refl

-- let n = 1;
taken : plan_of (counter (only (Let (n_at 52) (Num (pos 1) 56)))) ≡ Err (broken.Twice 52)
taken = refl

-- if n { }
no_condition : plan_of (counter (only (If (Named (n_at 51)) Done Done))) ≡ Err (broken.Kind 51)
no_condition = refl

-- The range is [3..0], and then [1..3], which hasn't the first value; no mark mends that.
no_range : plan_of (ranged (pos 3) (pos 0) false Done) ≡ Err (broken.Range 20)
no_range = refl

first_outside : plan_of (ranged (pos 1) (pos 3) true Done) ≡ Err (broken.Range 20)
first_outside = refl

-- The operands of an operator come before it: n = m * "a";
operands_first : plan_of (counter (only (Set (n_at 48) (Bin op.Mul (Named (name_at (codes "m") 52)) (Words (codes "a") 56) 54)))) ≡ Err (broken.Name 52)
operands_first = refl

-- n = 1 - x < n; the whole is no number, but a condition
a_condition : plan_of (counter (only (Set (n_at 48) (Bin op.Lt (Bin op.Sub (Num (pos 1) 52) (Named (x_at 56)) 54) (Named (n_at 60)) 58)))) ≡ Err (broken.Kind 58)
a_condition = refl

abbrev counted_in : Bool → do_.DosPlan → ScriptPlan
counted_in clamp update = record {
  enums = [];
  fields = record { header = codes "x"; kind = kind.Num; default = None } ∷ [];
  group = [];
  cells = plan.Int (pos 0) (pos 3) (pos 0) clamp ∷ [];
  tests = [];
  update = update;
  columns = record { name = codes "n"; value = show.Cell 0 } ∷ [];
}

abbrev counted : do_.DosPlan → ScriptPlan
counted update = counted_in false update

-- state n: int [0..3] = 0 clamp;
marked : plan_of (ranged (pos 0) (pos 3) true Done) ≡ Ok (counted_in true do_.End)
marked = refl

-- n = n + 1;
one_more : plan_of (counter (only (Set (n_at 48) (Bin op.Add (Named (n_at 52)) (Num (pos 1) 56) 54)))) ≡ Ok (counted (do_.Then (do_.SetInt 0 (line.OfLine (line.Add (line.Cell 0) (fixed.Lit (pos 1))))) do_.End))
one_more = refl

-- n = x - n;
from_the_left : plan_of (counter (only (Set (n_at 48) (Bin op.Sub (Named (x_at 52)) (Named (n_at 56)) 54)))) ≡ Ok (counted (do_.Then (do_.SetInt 0 (line.OfLine (line.Add (line.Neg (line.Cell 0)) (fixed.Field 0)))) do_.End))
from_the_left = refl

-- if 2 < n { } has its line turned to the left.
turned_round : plan_of (counter (only (If (Bin op.Lt (Num (pos 2) 51) (Named (n_at 55)) 53) Done Done))) ≡ Ok (counted (do_.Then (do_.If (cond.Compared compare.Gt (line.OfLine (line.Cell 0)) (fixed.Lit (pos 2))) do_.End do_.End) do_.End))
turned_round = refl

-- A local ends with its block: if x == 1 { let a = x; } n = a;
ended_local : plan_of (counter (Then (If (Bin op.Eq (Named (x_at 51)) (Num (pos 1) 56) 53) (only (Let (name_at (codes "a") 64) (Named (x_at 68)))) Done) (only (Set (n_at 73) (Named (name_at (codes "a") 77)))))) ≡ Err (broken.Name 77)
ended_local = refl

abbrev a_at : ℕ → Name
a_at at = record { text = codes "a"; at = at }

abbrev b_at : ℕ → Name
b_at at = record { text = codes "b"; at = at }

abbrev c_at : ℕ → Name
c_at at = record { text = codes "c"; at = at }

-- enum e { a, b } field x: num; state c: e = a; state h: hold(num = 0); test t(p: num, q: num) = q < p;
abbrev toggle : StmtsTree → List ColumnTree → ScriptTree
toggle update columns = record {
  enums = record { name = name_at (codes "e") 5; labels = a_at 9 ∷ b_at 12 ∷ [] } ∷ [];
  fields = record { name = x_at 22; header = None; kind = ref.Num; default = None } ∷ [];
  group = [];
  states = record { name = c_at 36; cell = cell.Enum (name_at (codes "e") 39) (a_at 43) } ∷ record { name = name_at (codes "h") 52; cell = cell.Hold (record { kind = ref.Num; first = literal.Num (pos 0) 66 } ∷ []) } ∷ [];
  tests = record { name = name_at (codes "t") 75; params = record { name = name_at (codes "p") 77; kind = ref.Num } ∷ record { name = name_at (codes "q") 85; kind = ref.Num } ∷ []; body = Bin op.Lt (Named (name_at (codes "q") 95)) (Named (name_at (codes "p") 99)) 97 } ∷ [];
  update = update;
  columns = columns;
}

abbrev shows_c : List ColumnTree
shows_c = record { name = c_at 200; value = Named (c_at 204) } ∷ []

-- c = c;
same_cell : plan_of (toggle (only (Set (c_at 110) (Named (c_at 114)))) shows_c) ≡ Err (broken.Kind 114)
same_cell = refl

-- if c == a { }: an enum cell stands only to the left of `is`.
cell_compared : plan_of (toggle (only (If (Bin op.Eq (Named (c_at 113)) (Named (a_at 118)) 115) Done Done)) shows_c) ≡ Err (broken.Kind 113)
cell_compared = refl

-- if t(h) { }: a wrong number of arguments is at the call.
too_few : plan_of (toggle (only (If (Call (name_at (codes "t") 113) (More (Named (name_at (codes "h") 115)) End)) Done Done)) shows_c) ≡ Err (broken.Kind 113)
too_few = refl

-- if t(h, a) { }: a wrong argument is at itself.
wrong_argument : plan_of (toggle (only (If (Call (name_at (codes "t") 113) (More (Named (name_at (codes "h") 115)) (More (Named (a_at 118)) End))) Done Done)) shows_c) ≡ Err (broken.Kind 118)
wrong_argument = refl

-- keep h(1, a);: a wrong number of values comes before their kinds, at the cell.
too_many : plan_of (toggle (only (Keep (name_at (codes "h") 115) (More (Num (pos 1) 117) (More (Named (a_at 120)) End)))) shows_c) ≡ Err (broken.Kind 115)
too_many = refl

-- part(h, 2) of a cell with one part.
no_part : plan_of (toggle Done (record { name = c_at 200; value = Call (name_at (codes "part") 204) (More (Named (name_at (codes "h") 209)) (More (Num (pos 2) 212) End)) } ∷ [])) ≡ Err (broken.Range 212)
no_part = refl

-- h as a whole column.
whole_cell : plan_of (toggle Done (record { name = c_at 200; value = Named (name_at (codes "h") 204) } ∷ [])) ≡ Err (broken.Kind 204)
whole_cell = refl

-- Statements `if c is a { }` one after the other.
abbrev branches : ℕ → StmtsTree
branches zero = Done
branches (suc n) = Then (If (Bin op.Is (Named (c_at 113)) (Named (a_at 118)) 115) Done Done) (branches n)

too_many_paths : plan_of (toggle (branches 11) shows_c) ≡ Err (broken.Branchy 2048)
too_many_paths = refl

-- if c is a { c = b; } else { c = a; }
toggled : plan_of (toggle (only (If (Bin op.Is (Named (c_at 113)) (Named (a_at 118)) 115) (only (Set (c_at 122) (Named (b_at 126)))) (only (Set (c_at 136) (Named (a_at 140)))))) shows_c) ≡ Ok (record {
  enums = record { labels = codes "a" ∷ codes "b" ∷ [] } ∷ [];
  fields = record { header = codes "x"; kind = kind.Num; default = None } ∷ [];
  group = [];
  cells = plan.Enum 0 0 ∷ plan.Hold (kind.Num ∷ []) (value.Num (pos 0) ∷ []) ∷ [];
  tests = record { params = kind.Num ∷ kind.Num ∷ []; body = cond.Compared compare.Lt (line.OfNum (fixed.Param 1)) (fixed.Param 0) } ∷ [];
  update = do_.Then (do_.If (cond.CellIs 0 (label.Lit 0)) (do_.Then (do_.SetEnum 0 (label.Lit 1)) do_.End) (do_.Then (do_.SetEnum 0 (label.Lit 0)) do_.End)) do_.End;
  columns = record { name = codes "c"; value = show.Cell 0 } ∷ [];
})
toggled = refl

-- The line group names a field twice, no field, a cell that comes later, and an enum.
abbrev grouped : List Name → ScriptTree
grouped names = record (toggle Done shows_c) { group = names }

field_twice : plan_of (grouped (x_at 32 ∷ x_at 35 ∷ [])) ≡ Err (broken.Twice 35)
field_twice = refl

no_name : plan_of (grouped (x_at 32 ∷ name_at (codes "y") 35 ∷ [])) ≡ Err (broken.Name 35)
no_name = refl

later_cell : plan_of (grouped (c_at 32 ∷ [])) ≡ Err (broken.Name 32)
later_cell = refl

no_field : plan_of (grouped (name_at (codes "e") 32 ∷ name_at (codes "e") 35 ∷ [])) ≡ Err (broken.Kind 32)
no_field = refl

-- field x: num; field y: word; group y, x;
abbrev two_fields : ScriptTree
two_fields = record (ranged (pos 0) (pos 3) false Done) {
  fields =
      record { name = x_at 6; header = None; kind = ref.Num; default = None }
      ∷ record { name = name_at (codes "y") 20; header = None; kind = ref.Word; default = None } ∷ [];
  group = name_at (codes "y") 34 ∷ x_at 37 ∷ [];
}

in_the_order_of_the_line : plan_of two_fields ≡ Ok (record (counted do_.End) {
  fields =
      record { header = codes "x"; kind = kind.Num; default = None }
      ∷ record { header = codes "y"; kind = kind.Word; default = None } ∷ [];
  group = 1 ∷ 0 ∷ [];
})
in_the_order_of_the_line = refl
