-- The definitions on plans, tried on examples.
use Rattle.std.specs.Prelude.{◌≡◌, refl, ℕ, zero, suc, ℤ, pos, negsuc, true, false, List, [], ◌∷◌, Some, None, Ok}
use Rattle.sym_base.specs.declared.values.value.Value.TheVariants as value
use Rattle.sym_base.specs.declared.values.value.Key.{Key}
use Rattle.sym_base.specs.declared.values.record.Record.{Record}
use Rattle.sym_base.specs.declared.values.state.Cell.TheVariants as cell
use Rattle.sym_base.specs.declared.values.state.FaultKind.TheVariants as fault
use Rattle.sym_base.specs.declared.values.state.Outcome.{Outcome}
use Rattle.sym_base.specs.declared.values.state.Outcome.TheVariants.{Going, Ended}
use Rattle.sym_base.specs.declared.tree.compare.Compare.TheVariants as compare
use Rattle.sym_check.specs.declared.plan.expression.ArithOp.TheVariants as op
use Rattle.sym_check.specs.declared.plan.expression.LabelOf.TheVariants as label
use Rattle.sym_check.specs.declared.plan.script.FieldPlan.{FieldPlan}
use Rattle.sym_check.specs.declared.plan.script.KindPlan.TheVariants as kind
use Rattle.sym_check.specs.declared.plan.script.CellPlan.TheVariants as plan
use Rattle.sym_check.specs.Plan.FixedPlans as fixed
use Rattle.sym_check.specs.Plan.LinePlans as line
use Rattle.sym_check.specs.Plan.CondPlans.{CondPlan, Compared, CellIs, LabelIs, Test, And, Or}
use Rattle.sym_check.specs.Plan.DoPlans.{Let, SetInt, SetEnum, Keep, PushNum, If, DosPlan, End, Then}
use Rattle.sym_check.specs.Plan.ScriptPlans.{ScriptPlan}
use Rattle.sym_check.specs.Meaning.Arithmetic.{failed, calculated}
use Rattle.sym_check.specs.Meaning.FixedValues.{Environment, number}
use Rattle.sym_check.specs.Meaning.LineValues.{pair}
use Rattle.sym_check.specs.Meaning.Conditions.{truth, no_test, no_cells, test_truth}
use Rattle.sym_check.specs.Meaning.Updates.{initial, step, after}
use Rattle.sym_check.specs.Meaning.Groups.{key_of, pass}
use Rattle.sym_check.specs.Meaning.PathBounds.{path_bound}

abbrev nothing : Environment
nothing = record { fields = []; locals = []; params = [] }

-- Quotients are rounded towards zero, remainders have the sign of the left operand.
quotient_of_minus_seven : calculated op.Div (negsuc 6) (pos 2) ≡ Ok (negsuc 2)
quotient_of_minus_seven = refl

remainder_of_minus_seven : calculated op.Rem (negsuc 6) (pos 2) ≡ Ok (negsuc 0)
remainder_of_minus_seven = refl

remainder_by_minus_two : calculated op.Rem (pos 7) (negsuc 1) ≡ Ok (pos 1)
remainder_by_minus_two = refl

-- A zero divisor fails, and so does a sum past 10^12.
no_quotient : calculated op.Div (pos 1) (pos 0) ≡ failed
no_quotient = refl

too_large : number nothing (fixed.Bin op.Add (fixed.Lit (pos 1000000000000)) (fixed.Lit (pos 1))) ≡ failed
too_large = refl

largest : number nothing (fixed.Bin op.Sub (fixed.Lit (pos 1000000000000)) (fixed.Lit (pos 0))) ≡ Ok (pos 1000000000000)
largest = refl

-- -1 * n + 10
falling : pair nothing (line.Add (line.Scale (fixed.Lit (negsuc 0)) (line.Cell 0)) (fixed.Lit (pos 10))) ≡ Ok (record { cell = 0; a = negsuc 0; b = pos 10 })
falling = refl

abbrev broken : CondPlan
broken = Compared compare.Eq (line.OfNum (fixed.Bin op.Div (fixed.Lit (pos 1)) (fixed.Lit (pos 0)))) (fixed.Lit (pos 0))

abbrev sure : CondPlan
sure = Compared compare.Le (line.OfNum (fixed.Lit (pos 0))) (fixed.Lit (pos 1))

-- The right side isn't looked at where the left one decides.
left_decides : truth no_test nothing (Or sure broken) no_cells ≡ Ok true
left_decides = refl

left_is_first : truth no_test nothing (Or broken sure) no_cells ≡ failed
left_is_first = refl

right_decides : truth no_test nothing (And sure broken) no_cells ≡ failed
right_decides = refl

-- A test whose arithmetic fails is false.
broken_test : test_truth (record { params = []; body = broken } ∷ []) 0 [] [] ≡ false
broken_test = refl

abbrev number_field : FieldPlan
number_field = record { header = []; kind = kind.Num; default = None }

abbrev word_field : FieldPlan
word_field = record { header = []; kind = kind.Word; default = None }

-- One more for each record, in the range 0 to 3.
abbrev counter : ScriptPlan
counter = record {
  enums = [];
  fields = number_field ∷ [];
  group = [];
  cells = plan.Int (pos 0) (pos 3) (pos 0) false ∷ [];
  tests = [];
  update = Then (SetInt 0 (line.OfLine (line.Add (line.Cell 0) (fixed.Lit (pos 1))))) End;
  columns = [];
}

abbrev five : ℕ → Record
five n = record { no = n; fields = value.Num (pos 5) ∷ [] }

counts_to_three : after counter (five 1 ∷ five 2 ∷ five 3 ∷ []) (Going (initial counter)) ≡ Going (record { cells = cell.Int (pos 3) ∷ [] })
counts_to_three = refl

-- The group ends at the fourth record, and stays so.
ends_at_the_fourth : after counter (five 1 ∷ five 2 ∷ five 3 ∷ five 4 ∷ five 5 ∷ []) (Going (initial counter)) ≡ Ended (record { kind = fault.Over 0; no = 4 })
ends_at_the_fourth = refl

-- Where the range clamps, the count stays at 3.
abbrev clamped : ScriptPlan
clamped = record counter { cells = plan.Int (pos 0) (pos 3) (pos 0) true ∷ [] }

stays_at_three : after clamped (five 1 ∷ five 2 ∷ five 3 ∷ five 4 ∷ five 5 ∷ []) (Going (initial clamped)) ≡ Going (record { cells = cell.Int (pos 3) ∷ [] })
stays_at_three = refl

-- A list that clamps takes 9 for 12 and 0 for -5.
abbrev clamped_list : ScriptPlan
clamped_list = record counter {
  cells = plan.Nums (pos 0) (pos 9) true ∷ [];
  update = Then (PushNum 0 (line.OfNum (fixed.Field 0))) End;
}

abbrev number_at : ℕ → ℤ → Record
number_at n x = record { no = n; fields = value.Num x ∷ [] }

takes_the_ends : after clamped_list (number_at 1 (pos 12) ∷ number_at 2 (negsuc 4) ∷ number_at 3 (pos 4) ∷ []) (Going (initial clamped_list)) ≡ Going (record { cells = cell.Nums (pos 9 ∷ pos 0 ∷ pos 4 ∷ []) ∷ [] })
takes_the_ends = refl

no_records_no_groups : pass counter [] ≡ []
no_records_no_groups = refl

-- Sessions of a user: a gap of more than 30 begins a new one.
abbrev sessions : ScriptPlan
sessions = record {
  enums = [];
  fields = number_field ∷ word_field ∷ [];
  group = 1 ∷ [];
  cells = plan.Hold (kind.Num ∷ []) (value.Num (pos 0) ∷ []) ∷ plan.Int (pos 0) (pos 1000) (pos 0) false ∷ plan.Nums (pos 0) (pos 1000) false ∷ [];
  tests = record {
    params = kind.Num ∷ kind.Num ∷ [];
    body = Compared compare.Gt (line.OfNum (fixed.Bin op.Sub (fixed.Param 1) (fixed.Param 0))) (fixed.Lit (pos 30));
  } ∷ [];
  update =
      Then
      (If
      (Test 0 0 (fixed.OfNum (fixed.Field 0) ∷ []))
      (Then (PushNum 2 (line.OfLine (line.Cell 1))) (Then (SetInt 1 (line.OfNum (fixed.Lit (pos 1)))) End))
      (Then (SetInt 1 (line.OfLine (line.Add (line.Cell 1) (fixed.Lit (pos 1))))) End))
      (Then (Keep 0 (fixed.OfNum (fixed.Field 0) ∷ [])) End);
  columns = [];
}

abbrev visit : ℕ → ℕ → List ℕ → Record
visit n ts user = record { no = n; fields = value.Num (pos ts) ∷ value.Word user ∷ [] }

abbrev open_session : ℕ → ℕ → List ℤ → Outcome
open_session last n done = Going (record { cells = cell.Hold (value.Num (pos last) ∷ []) ∷ cell.Int (pos n) ∷ cell.Nums done ∷ [] })

abbrev user_key : List ℕ → Key
user_key user = record { values = value.Word user ∷ [] }

-- The values of two fields, in the order of the group line; none without one.
abbrev by_both : ScriptPlan
by_both = record sessions { group = 1 ∷ 0 ∷ [] }

key_of_both : key_of by_both (visit 1 10 (97 ∷ [])) ≡ record { values = value.Word (97 ∷ []) ∷ value.Num (pos 10) ∷ [] }
key_of_both = refl

one_key : key_of counter (five 1) ≡ record { values = [] }
one_key = refl

two_users : pass sessions (visit 1 10 (97 ∷ []) ∷ visit 2 20 (97 ∷ []) ∷ visit 3 60 (97 ∷ []) ∷ visit 4 5 (98 ∷ []) ∷ visit 5 61 (97 ∷ []) ∷ []) ≡ ((user_key (97 ∷ []), open_session 61 2 (pos 2 ∷ [])) ∷ (user_key (98 ∷ []), open_session 5 1 []) ∷ [])
two_users = refl

-- A local of a block that isn't entered leaves a gap.
abbrev with_locals : ScriptPlan
with_locals = record counter {
  update =
      Then
      (If
      (Compared compare.Eq (line.OfNum (fixed.Field 0)) (fixed.Lit (pos 1)))
      (Then (Let 0 (fixed.OfNum (fixed.Lit (pos 2)))) (Then (SetInt 0 (line.OfNum (fixed.Local 0))) End))
      End)
      (Then (Let 1 (fixed.OfNum (fixed.Lit (pos 3)))) (Then (SetInt 0 (line.OfNum (fixed.Local 1))) End));
}

after_the_gap : step with_locals (Going (initial with_locals)) (five 1) ≡ Going (record { cells = cell.Int (pos 3) ∷ [] })
after_the_gap = refl

-- A zero divisor ends the group by its arithmetic.
abbrev dividing : ScriptPlan
dividing = record counter { update = Then (SetInt 0 (line.OfLine (line.Add (line.Cell 0) (fixed.Bin op.Div (fixed.Lit (pos 1)) (fixed.Lit (pos 0)))))) End }

ends_by_arithmetic : step dividing (Going (initial dividing)) (five 2) ≡ Ended (record { kind = fault.Arith; no = 2 })
ends_by_arithmetic = refl

-- Path bounds.
counter_paths : path_bound counter ≡ 3
counter_paths = refl

-- A cell that clamps has three paths that go on.
clamped_paths : path_bound clamped ≡ 3
clamped_paths = refl

clamped_twice : path_bound (record clamped_list { update = Then (PushNum 0 (line.OfNum (fixed.Field 0))) clamped_list.update }) ≡ 9
clamped_twice = refl

session_paths : path_bound sessions ≡ 8
session_paths = refl

-- The counter with another update.
abbrev updated : DosPlan → ScriptPlan
updated update = record counter { update = update }

abbrev toggles : ℕ → DosPlan
toggles zero = End
toggles (suc n) = Then (If (CellIs 0 (label.Lit 0)) (Then (SetEnum 0 (label.Lit 1)) End) End) (toggles n)

ten_toggles : path_bound (updated (toggles 10)) ≡ 1024
ten_toggles = refl

eleven_toggles : path_bound (updated (toggles 11)) ≡ 2048
eleven_toggles = refl

thirty_toggles : path_bound (updated (toggles 30)) ≡ 1000000
thirty_toggles = refl

-- One of four labels: true in four ways, false in one.
four_labels : path_bound (updated (Then (If (Or (Or (Or (CellIs 0 (label.Lit 0)) (CellIs 0 (label.Lit 1))) (CellIs 0 (label.Lit 2))) (CellIs 0 (label.Lit 3))) (Then (SetEnum 0 (label.Lit 4)) End) End) End)) ≡ 5
four_labels = refl

-- A fixed condition cuts nothing.
purchases : path_bound (updated
    (Then
    (If
    (LabelIs (label.Field 0) (label.Lit 1))
    (Then (SetEnum 0 (label.Lit 1)) End)
    (Then
    (If
    (And (LabelIs (label.Field 0) (label.Lit 2)) (CellIs 0 (label.Lit 1)))
    (Then
    (SetInt 1 (line.OfLine (line.Add (line.Cell 1) (fixed.Lit (pos 1)))))
    (Then (PushNum 2 (line.OfNum (fixed.Field 1))) (Then (SetEnum 0 (label.Lit 0)) End)))
    End)
    End))
    End))
    ≡ 7
purchases = refl
