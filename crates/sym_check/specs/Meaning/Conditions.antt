-- What conditions stand for: true, false, or failed arithmetic.
use Rattle.std.specs.Prelude.{ℕ, Bool, true, false, not, ◌&&◌, if◌then◌else◌, nat_eq, ◌==◌, List, [], ◌++◌, Option, Some, None, slice_get, Result, Ok, Err}
use Rattle.std.specs.Cmp.Lexicographic.{pointwise}
use Rattle.sym_base.specs.declared.values.value.Value.{Value}
use Rattle.sym_base.specs.declared.values.state.State.{State}
use Rattle.sym_base.specs.States.{label_at, parts_at}
use Rattle.sym_base.specs.Comparing.{compares}
use Rattle.sym_base.specs.Tests.{Truth}
use Rattle.sym_check.specs.declared.evaluate.arithmetic.Arith.{Arith}
use Rattle.sym_check.specs.Meaning.Arithmetic.{◌>>=◌}
use Rattle.sym_check.specs.Meaning.FixedValues.{Environment, number, word_of, label_of, fixed_values}
use Rattle.sym_check.specs.Meaning.LineValues.{term_number}
use Rattle.sym_check.specs.Plan.LinePlans.{TermPlan, OfNum, OfLine}
use Rattle.sym_check.specs.Plan.CondPlans.{CondPlan, Compared, Words, CellIs, LabelIs, Test, Not, And, Or}
use Rattle.sym_check.specs.Plan.ScriptPlans.{TestOf}

abbrev pub same_word : List ℕ → List ℕ → Bool
same_word = pointwise nat_eq

-- The truth of a condition at a state. `And` and `Or` look at the right side only where the left
-- one doesn't decide.
abbrev pub truth : Truth → Environment → CondPlan → State → Result Bool Arith
truth tests k (Compared compare t n) s = do
  x ← term_number k t s
  y ← number k n
  Ok (compares compare x y)
truth tests k (Words v w) s = Ok (same_word (word_of k v) (word_of k w))
truth tests k (CellIs c l) s = Ok (label_at s c == label_of k l)
truth tests k (LabelIs l m) s = Ok (label_of k l == label_of k m)
truth tests k (Test test c args) s = do
  values ← fixed_values k args
  Ok (tests test values (parts_at s c))
truth tests k (Not c) s = do
  x ← truth tests k c s
  Ok (not x)
truth tests k (And c d) s = do
  x ← truth tests k c s
  if x then truth tests k d s else Ok x
truth tests k (Or c d) s = do
  x ← truth tests k c s
  if x then Ok x else truth tests k d s

abbrev pub is_fixed_term : TermPlan → Bool
is_fixed_term (OfNum n) = true
is_fixed_term (OfLine l) = false

-- A fixed condition names no cell, and calls no test, since a call names its hold cell.
abbrev pub is_fixed : CondPlan → Bool
is_fixed (Compared compare t n) = is_fixed_term t
is_fixed (Words v w) = true
is_fixed (CellIs c l) = false
is_fixed (LabelIs l m) = true
is_fixed (Test test c args) = false
is_fixed (Not c) = is_fixed c
is_fixed (And c d) = is_fixed c && is_fixed d
is_fixed (Or c d) = is_fixed c && is_fixed d

abbrev pub has_fixed_body : TestOf → Bool
has_fixed_body test = is_fixed test.body

-- No test is called in the body of a test.
abbrev pub no_test : Truth
no_test test args parts = false

abbrev pub no_cells : State
no_cells = record { cells = [] }

-- A test's parameters are the parts of its hold cell and then the arguments.
abbrev pub parameters : List Value → List Value → Environment
parameters args parts = record { fields = []; locals = []; params = parts ++ args }

abbrev pub is_true : Result Bool Arith → Bool
is_true (Ok x) = x
is_true (Err e) = false

-- The answer of a test; false where its arithmetic fails.
abbrev pub answer : Option TestOf → List Value → List Value → Bool
answer None args parts = false
answer (Some test) args parts = is_true (truth no_test (parameters args parts) test.body no_cells)

abbrev pub test_truth : List TestOf → Truth
test_truth tests test args parts = answer (slice_get tests test) args parts
