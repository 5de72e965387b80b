-- What a contract sees of report expressions: what they come to, without boxes.
use Rattle.std.specs.Prelude.{◌≡◌, ℕ, nat_lt, Bool, true, List, Result, Ok, length}
use Rattle.std.specs.List.{list_all}
use Rattle.sym_check.specs.declared.elaborate.error.CheckErr.{CheckErr}
use Rattle.sym_check.specs.declared.elaborate.seen.Seen.{Seen as SeenTree}
use Rattle.sym_check.specs.declared.elaborate.seen.Seen.TheVariants as seen
use Rattle.sym_check.specs.declared.elaborate.scope.Meaning.{Meaning}
use Rattle.sym_check.specs.declared.elaborate.scope.Meaning.TheVariants.{Unfinished, Enum, Label, Value, IntCell, EnumCell, HoldCell, NumsCell, WordsCell, Test}
use Rattle.sym_check.specs.declared.elaborate.scope.Entry.{Entry}
use Rattle.sym_check.specs.declared.plan.script.KindPlan.{KindPlan}
use Rattle.sym_check.specs.declared.plan.show.ShowFn.{ShowFn}
use Rattle.sym_check.specs.Meaning.Arithmetic.{◌>>=◌}
use Rattle.sym_check.specs.Elaborate.Expressions.{kind_at}
use Rattle.sym_check.specs.Elaborate.Reports.{Seen, Numeral, Number, Word, NumList, WordList, Parts, shown_number, part_by, of_word_list}
use Rattle.sym_check.specs.Plan.ShowPlans as show
use Rattle.sym_check.specs.Plan.ShowPlans.{show_plan}
use Rattle.sym_check.specs.Rules.Scopes.{Scope}

abbrev pub seen_plan : SeenTree → Seen
seen_plan (seen.Numeral n at) = Numeral n at
seen_plan (seen.Number p) = Number (show_plan p)
seen_plan (seen.Word p) = Word (show_plan p)
seen_plan (seen.NumList c) = NumList c
seen_plan (seen.WordList c) = WordList c
seen_plan (seen.Parts p) = Parts p.cell p.kinds

-- What unary `-` makes of its operand.
abbrev pub negative : ℕ → Seen → Result Seen CheckErr
negative at t = do
  p ← shown_number at t
  Ok (Number (show.Neg p))

-- A function of lists of one argument,
abbrev pub of_one_list : ℕ → ShowFn → Seen → Result Seen CheckErr
of_one_list at f (NumList c) = Ok (Number (show.Call f c))
of_one_list at f (WordList c) = of_word_list at f c
of_one_list at f (Numeral n place) = kind_at at
of_one_list at f (Number p) = kind_at at
of_one_list at f (Word p) = kind_at at
of_one_list at f (Parts c ks) = kind_at at

-- and the function of hold cells of two, the second of which is a number as it is written.
abbrev pub of_numeral : ℕ → ℕ → List KindPlan → Seen → Result Seen CheckErr
of_numeral at c ks (Numeral n place) = part_by at place c ks n
of_numeral at c ks (Number p) = kind_at at
of_numeral at c ks (Word p) = kind_at at
of_numeral at c ks (NumList d) = kind_at at
of_numeral at c ks (WordList d) = kind_at at
of_numeral at c ks (Parts d js) = kind_at at

abbrev pub of_hold : ℕ → Seen → Seen → Result Seen CheckErr
of_hold at (Parts c ks) t = of_numeral at c ks t
of_hold at (Numeral n place) t = kind_at at
of_hold at (Number p) t = kind_at at
of_hold at (Word p) t = kind_at at
of_hold at (NumList c) t = kind_at at
of_hold at (WordList c) t = kind_at at

-- The parts of a hold cell are few enough for their numbers.
abbrev pub has_few_parts : Meaning → Bool
has_few_parts Unfinished = true
has_few_parts (Enum e) = true
has_few_parts (Label e l) = true
has_few_parts (Value k v) = true
has_few_parts (IntCell c) = true
has_few_parts (EnumCell c e) = true
has_few_parts (HoldCell c ks) = nat_lt (length ks) 65536
has_few_parts (NumsCell c) = true
has_few_parts (WordsCell c) = true
has_few_parts (Test t ks) = true

abbrev pub HaveFewParts : Scope → Type 0
HaveFewParts s = list_all (λ (e : Entry). has_few_parts e.meaning) s ≡ true
