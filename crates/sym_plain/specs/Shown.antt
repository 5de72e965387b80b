-- What the report shows of a state. Report expressions work over whole numbers of 128 bits.
use Rattle.std.specs.Prelude.{ℕ, ℤ, pos, neg_ℤ, ◌-◌, ◌^◌, ◌+ℤ◌, ◌-ℤ◌, ◌*ℤ◌, int_div, int_rem, int_le, Bool, ◌&&◌, if◌then◌else◌, List, [], ◌∷◌, map, fold, length, Option, Some, None, slice_get, slice_index_or}
use Rattle.std.specs.Int.{int_min, int_max}
use Rattle.std.specs.Ordering.{int_eq}
use Rattle.sym_base.specs.declared.values.value.Value.{Value}
use Rattle.sym_base.specs.declared.values.value.Value.TheVariants as value
use Rattle.sym_base.specs.declared.values.state.Cell.{Cell}
use Rattle.sym_base.specs.declared.values.state.Cell.TheVariants as cell
use Rattle.sym_base.specs.declared.values.state.State.{State}
use Rattle.sym_base.specs.declared.values.report.Column.{Column}
use Rattle.sym_base.specs.declared.values.report.Column.TheVariants.{Num, Word, Nums, Words, Nothing, Bad}
use Rattle.sym_base.specs.declared.values.report.ReportFault.TheVariants as fault
use Rattle.sym_base.specs.States.{parts_at}
use Rattle.sym_check.specs.declared.plan.expression.ArithOp.{ArithOp}
use Rattle.sym_check.specs.declared.plan.expression.ArithOp.TheVariants as op
use Rattle.sym_check.specs.declared.plan.script.EnumPlan.{EnumPlan}
use Rattle.sym_check.specs.declared.plan.script.KindPlan.{KindPlan}
use Rattle.sym_check.specs.declared.plan.script.KindPlan.TheVariants as kind
use Rattle.sym_check.specs.declared.plan.script.CellPlan.{CellPlan}
use Rattle.sym_check.specs.declared.plan.script.CellPlan.TheVariants as plan
use Rattle.sym_check.specs.declared.plan.show.ShowFn.{ShowFn}
use Rattle.sym_check.specs.declared.plan.show.ShowFn.TheVariants as show_fn
use Rattle.sym_check.specs.Plan.ShowPlans.{ShowPlan}
use Rattle.sym_check.specs.Plan.ShowPlans as show
use Rattle.sym_check.specs.Plan.ScriptPlans.{ScriptPlan, ColumnOf}
use Rattle.sym_check.specs.Meaning.Validity.{enum_labels}

-- Whether 128 bits hold x.
abbrev pub is_wide : ℤ → Bool
is_wide x = int_le (neg_ℤ (pos (2 ^ 127))) x && int_le x (pos (2 ^ 127 - 1))

abbrev pub wide : ℤ → Column
wide x = if is_wide x then Num x else Bad fault.Overflow

-- A result that 128 bits hold, or none.
abbrev pub wide_column : Option ℤ → Column
wide_column None = Bad fault.Overflow
wide_column (Some x) = Num x

-- A quotient or a remainder by y.
abbrev pub quotient_column : ℤ → ℤ → Column
quotient_column y x = if int_eq y (pos 0) then Bad fault.Zero else wide x

-- A quotient is rounded towards zero, a remainder has the sign of the left operand.
abbrev pub result_column : ArithOp → ℤ → ℤ → Column
result_column op.Add x y = wide (x +ℤ y)
result_column op.Sub x y = wide (x -ℤ y)
result_column op.Mul x y = wide (x *ℤ y)
result_column op.Div x y = quotient_column y (int_div x y)
result_column op.Rem x y = quotient_column y (int_rem x y)

-- What a function of numbers gives for a column: what is bad stays so, and all else gives nothing.
abbrev pub on_number : (ℤ → Column) → Column → Column
on_number f (Num x) = f x
on_number f (Word t) = Nothing
on_number f (Nums xs) = Nothing
on_number f (Words ts) = Nothing
on_number f Nothing = Nothing
on_number f (Bad e) = Bad e

abbrev pub no_number : ℤ → Column
no_number x = Nothing

-- An operand that is bad is the result, the left one first; else one that is nothing.
abbrev pub operated : ArithOp → Column → Column → Column
operated o (Num x) right = on_number (result_column o x) right
operated o (Word t) right = on_number no_number right
operated o (Nums xs) right = on_number no_number right
operated o (Words ts) right = on_number no_number right
operated o Nothing right = on_number no_number right
operated o (Bad e) right = Bad e

abbrev pub negated : Column → Column
negated operand = on_number (λ x. wide (neg_ℤ x)) operand

-- The names of an enum cell's labels; none of any other cell.
abbrev pub cell_labels : List EnumPlan → Option CellPlan → List (List ℕ)
cell_labels enums None = []
cell_labels enums (Some (plan.Int lo hi first clamp)) = []
cell_labels enums (Some (plan.Nums lo hi clamp)) = []
cell_labels enums (Some plan.Words) = []
cell_labels enums (Some (plan.Hold kinds first)) = []
cell_labels enums (Some (plan.Enum enum first)) = enum_labels enums enum

-- The names of the labels of a kind; none of any other kind.
abbrev pub kind_labels : List EnumPlan → Option KindPlan → List (List ℕ)
kind_labels enums None = []
kind_labels enums (Some kind.Num) = []
kind_labels enums (Some kind.Word) = []
kind_labels enums (Some (kind.Label enum)) = enum_labels enums enum

-- The kind of a hold cell's part.
abbrev pub part_kind : Option CellPlan → ℕ → Option KindPlan
part_kind None part = None
part_kind (Some (plan.Int lo hi first clamp)) part = None
part_kind (Some (plan.Nums lo hi clamp)) part = None
part_kind (Some plan.Words) part = None
part_kind (Some (plan.Hold kinds first)) part = slice_get kinds part
part_kind (Some (plan.Enum enum first)) part = None

-- A label is shown by its name, the names of its enum being these.
abbrev pub label_column : List (List ℕ) → ℕ → Column
label_column labels l = Word (slice_index_or labels l [])

abbrev pub value_column : List (List ℕ) → Option Value → Column
value_column labels None = Nothing
value_column labels (Some (value.Num x)) = Num x
value_column labels (Some (value.Word t)) = Word t
value_column labels (Some (value.Label l)) = label_column labels l

-- What a cell shows; a hold cell shows its parts alone.
abbrev pub cell_column : List (List ℕ) → Option Cell → Column
cell_column labels None = Nothing
cell_column labels (Some (cell.Enum l)) = label_column labels l
cell_column labels (Some (cell.Int x)) = Num x
cell_column labels (Some (cell.Hold parts)) = Nothing
cell_column labels (Some (cell.Nums xs)) = Nums xs
cell_column labels (Some (cell.Words ts)) = Words ts

abbrev pub number_column : Option ℤ → Column
number_column None = Nothing
number_column (Some x) = Num x

abbrev pub word_column : Option (List ℕ) → Column
word_column None = Nothing
word_column (Some t) = Word t

abbrev pub last : {A : Type 0} → List A → Option A
last xs = slice_get xs (length xs - 1)

-- The least number and the greatest; none of an empty list.
abbrev pub least : List ℤ → Option ℤ
least [] = None
least (x ∷ xs) = Some (fold int_min x xs)

abbrev pub greatest : List ℤ → Option ℤ
greatest [] = None
greatest (x ∷ xs) = Some (fold int_max x xs)

-- What a report function gives of numbers, the oldest first.
abbrev pub of_nums : ShowFn → List ℤ → Column
of_nums show_fn.Count xs = Num (pos (length xs))
of_nums show_fn.Sum xs = Num (fold ◌+ℤ◌ (pos 0) xs)
of_nums show_fn.Min xs = number_column (least xs)
of_nums show_fn.Max xs = number_column (greatest xs)
of_nums show_fn.First xs = number_column (slice_get xs 0)
of_nums show_fn.Last xs = number_column (last xs)

-- And of words.
abbrev pub of_words : ShowFn → List (List ℕ) → Column
of_words show_fn.Count ts = Num (pos (length ts))
of_words show_fn.Sum ts = Nothing
of_words show_fn.Min ts = Nothing
of_words show_fn.Max ts = Nothing
of_words show_fn.First ts = word_column (slice_get ts 0)
of_words show_fn.Last ts = word_column (last ts)

abbrev pub call_column : ShowFn → Option Cell → Column
call_column f None = Nothing
call_column f (Some (cell.Enum l)) = Nothing
call_column f (Some (cell.Int x)) = Nothing
call_column f (Some (cell.Hold parts)) = Nothing
call_column f (Some (cell.Nums xs)) = of_nums f xs
call_column f (Some (cell.Words ts)) = of_words f ts

-- What an expression shows of a state. The parts of a hold cell are counted from 1.
abbrev pub show_column : ScriptPlan → State → ShowPlan → Column
show_column p s (show.Num n) = Num n
show_column p s (show.Text t) = Word t
show_column p s (show.Cell c) =
    cell_column (cell_labels p.enums (slice_get p.cells c)) (slice_get s.cells c)
show_column p s (show.Part c part) =
    let of = part_kind (slice_get p.cells c) (part - 1) in
    value_column (kind_labels p.enums of) (slice_get (parts_at s c) (part - 1))
show_column p s (show.Call f c) = call_column f (slice_get s.cells c)
show_column p s (show.Neg e) = negated (show_column p s e)
show_column p s (show.Bin o l r) = operated o (show_column p s l) (show_column p s r)

-- The columns of a row, in order.
abbrev pub columns : ScriptPlan → State → List Column
columns p s = map (λ (c : ColumnOf). show_column p s c.value) p.columns
