-- Columns of the report, and their plan: one case for each rule.
use Rattle.std.specs.Prelude.{◌≡◌, ℕ, ℤ, pos, ◌-◌, ◌≤◌, codes, Bool, true, if◌then◌else◌, List, [], ◌∷◌, ◌++◌, Option, Some, None, slice_get}
use Rattle.sym_base.specs.declared.tree.name.Name.{Name}
use Rattle.sym_base.specs.declared.tree.expression.BinOp.{BinOp}
use Rattle.sym_base.specs.Trees.{ColumnTree, ExprTree, Num, Words, Named, Call, Neg, Bin, End, More}
use Rattle.sym_check.specs.declared.plan.expression.ArithOp.{ArithOp}
use Rattle.sym_check.specs.declared.plan.script.KindPlan.{KindPlan}
use Rattle.sym_check.specs.declared.plan.show.ShowFn.{ShowFn}
use Rattle.sym_check.specs.declared.plan.show.ShowFn.TheVariants as show_fn
use Rattle.sym_check.specs.Meaning.Columns.{ShownAs, as_number, as_word, as_list, shown_kind, OfAnyList, word_list_shows}
use Rattle.sym_check.specs.Meaning.Conditions.{same_word}
use Rattle.sym_check.specs.Plan.ShowPlans.{ShowPlan}
use Rattle.sym_check.specs.Plan.ShowPlans as show
use Rattle.sym_check.specs.Plan.ScriptPlans.{ColumnOf}
use Rattle.sym_check.specs.Rules.Scopes.{Scope, entry, Stands, IsFree}
use Rattle.sym_check.specs.declared.elaborate.scope.Meaning.TheVariants as meaning
use Rattle.sym_check.specs.Rules.Typing.{arith_of}

-- The functions of lists, by their names.
abbrev pub list_function : List ℕ → Option ShowFn
list_function text =
    if same_word text (codes "count") then Some show_fn.Count
    else if same_word text (codes "sum") then Some show_fn.Sum
    else if same_word text (codes "min") then Some show_fn.Min
    else if same_word text (codes "max") then Some show_fn.Max
    else if same_word text (codes "first") then Some show_fn.First
    else if same_word text (codes "last") then Some show_fn.Last
    else None

-- The function of hold cells.
abbrev pub is_part : List ℕ → Bool
is_part text = same_word text (codes "part")

-- What a report expression gives, and its plan.
pub data IsShown (s : Scope) : ExprTree → ShownAs → ShowPlan → Type 0 where
  numeral : (n : ℤ) (at : ℕ) → IsShown s (Num n at) as_number (show.Num n)
  text : (t : List ℕ) (at : ℕ) → IsShown s (Words t at) as_word (show.Text t)
  int_cell : (x : Name) (c : ℕ)
      → Stands s x (meaning.IntCell c)
      → IsShown s (Named x) as_number (show.Cell c)
  enum_cell : (x : Name) (c enum : ℕ)
      → Stands s x (meaning.EnumCell c enum)
      → IsShown s (Named x) as_word (show.Cell c)
  nums_cell : (x : Name) (c : ℕ)
      → Stands s x (meaning.NumsCell c)
      → IsShown s (Named x) as_list (show.Cell c)
  words_cell : (x : Name) (c : ℕ)
      → Stands s x (meaning.WordsCell c)
      → IsShown s (Named x) as_list (show.Cell c)
  -- Parts are counted from 1.
  part : (f h : Name) (c k at : ℕ) (ks : List KindPlan) (of : KindPlan)
      → is_part f.text ≡ true
      → Stands s h (meaning.HoldCell c ks)
      → 1 ≤ k
      → slice_get ks (k - 1) ≡ Some of
      → IsShown s (Call f (More (Named h) (More (Num (pos k) at) End))) (shown_kind of)
      (show.Part c k)
  of_nums : (f x : Name) (g : ShowFn) (c : ℕ)
      → list_function f.text ≡ Some g
      → Stands s x (meaning.NumsCell c)
      → IsShown s (Call f (More (Named x) End)) as_number (show.Call g c)
  of_words : (f x : Name) (g : ShowFn) (c : ℕ)
      → list_function f.text ≡ Some g
      → Stands s x (meaning.WordsCell c)
      → OfAnyList g
      → IsShown s (Call f (More (Named x) End)) (word_list_shows g) (show.Call g c)
  negative : (e : ExprTree) (at : ℕ) (p : ShowPlan)
      → IsShown s e as_number p
      → IsShown s (Neg e at) as_number (show.Neg p)
  calculated : (o : BinOp) (a : ArithOp) (l r : ExprTree) (at : ℕ) (p q : ShowPlan)
      → arith_of o ≡ Some a
      → IsShown s l as_number p
      → IsShown s r as_number q
      → IsShown s (Bin o l r at) as_number (show.Bin a p q)

-- A column's name isn't that of an earlier column; these are the scope that grows.
pub data IsColumnDecl (s : Scope) : Scope → ℕ → ColumnTree → ColumnOf → Scope → Type 0 where
  column : (columns : Scope) (n : ℕ) (d : ColumnTree) (gives : ShownAs) (p : ShowPlan)
      → IsFree columns d.name
      → IsShown s d.value gives p
      → IsColumnDecl s columns n d
      (record { name = d.name.text; value = p })
      (columns ++ entry d.name meaning.Unfinished ∷ [])
