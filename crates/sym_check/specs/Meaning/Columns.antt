-- Report expressions that have a value.
use Rattle.std.specs.Prelude.{◌≡◌, ℕ, ℤ, ◌-◌, ◌≤◌, List, Some, slice_get}
use Rattle.sym_base.specs.Limits.{IsNumber}
use Rattle.sym_check.specs.declared.plan.expression.ArithOp.{ArithOp}
use Rattle.sym_check.specs.declared.plan.script.KindPlan.{KindPlan}
use Rattle.sym_check.specs.declared.plan.script.KindPlan.TheVariants as kind
use Rattle.sym_check.specs.declared.plan.script.CellPlan.{CellPlan}
use Rattle.sym_check.specs.declared.plan.show.ShowFn.{ShowFn}
use Rattle.sym_check.specs.declared.plan.show.ShowFn.TheVariants as show_fn
use Rattle.sym_check.specs.Plan.ShowPlans.{ShowPlan}
use Rattle.sym_check.specs.Plan.ShowPlans as show
use Rattle.sym_check.specs.Plan.ScriptPlans.{ColumnOf}
use Rattle.sym_check.specs.Plan.CellKinds.{IsIntCell, IsNumsCell, IsWordsCell, IsHoldCell, IsEnumCell}

-- What a report expression gives.
pub data ShownAs : Type 0 where
  as_number : ShownAs
  as_word : ShownAs
  as_list : ShownAs

-- A part is shown by its kind, a label by its name.
abbrev pub shown_kind : KindPlan → ShownAs
shown_kind kind.Num = as_number
shown_kind kind.Word = as_word
shown_kind (kind.Label enum) = as_word

-- Report functions of a list of any elements, and of numbers alone.
abbrev pub OfAnyList : ShowFn → Type 0
OfAnyList show_fn.Count = Unit {0}
OfAnyList show_fn.First = Unit {0}
OfAnyList show_fn.Last = Unit {0}
OfAnyList show_fn.Sum = ⊥
OfAnyList show_fn.Min = ⊥
OfAnyList show_fn.Max = ⊥

-- What a function gives of a list of words.
abbrev pub word_list_shows : ShowFn → ShownAs
word_list_shows show_fn.Count = as_number
word_list_shows show_fn.First = as_word
word_list_shows show_fn.Last = as_word
word_list_shows show_fn.Sum = as_number
word_list_shows show_fn.Min = as_number
word_list_shows show_fn.Max = as_number

pub data Shows (cells : List CellPlan) : ShowPlan → ShownAs → Type 0 where
  number : (n : ℤ) → IsNumber n → Shows cells (show.Num n) as_number
  word : (t : List ℕ) → Shows cells (show.Text t) as_word
  int_cell : (c : ℕ) → IsIntCell cells c → Shows cells (show.Cell c) as_number
  enum_cell : (c enum : ℕ) → IsEnumCell cells c enum → Shows cells (show.Cell c) as_word
  nums_cell : (c : ℕ) → IsNumsCell cells c → Shows cells (show.Cell c) as_list
  words_cell : (c : ℕ) → IsWordsCell cells c → Shows cells (show.Cell c) as_list
  part : (c part : ℕ) (kinds : List KindPlan) (of : KindPlan)
      → IsHoldCell cells c kinds
      → 1 ≤ part
      → slice_get kinds (part - 1) ≡ Some of
      → Shows cells (show.Part c part) (shown_kind of)
  of_nums : (f : ShowFn) (c : ℕ) → IsNumsCell cells c → Shows cells (show.Call f c) as_number
  of_words : (f : ShowFn) (c : ℕ)
      → IsWordsCell cells c
      → OfAnyList f
      → Shows cells (show.Call f c) (word_list_shows f)
  negative : (e : ShowPlan) → Shows cells e as_number → Shows cells (show.Neg e) as_number
  calculated : (operator : ArithOp) (l r : ShowPlan)
      → Shows cells l as_number
      → Shows cells r as_number
      → Shows cells (show.Bin operator l r) as_number

pub record IsColumnOf (cells : List CellPlan) (c : ColumnOf) : Type 0 where
  pub gives : ShownAs
  pub shows : Shows cells c.value gives
