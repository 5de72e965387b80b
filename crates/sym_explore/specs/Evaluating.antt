-- Conditions whose expressions without cells were evaluated, and the paths that they part.
use Rattle.std.specs.Prelude.{◌≡◌, ◌≤◌, ◌==◌, ◌+◌, ◌*◌, ℕ, Bool, true, false, List, ◌++◌, map, length, Option, Some, Result, Ok, Err, IsTrue}
use Rattle.std.specs.List.Sorted.{IsPermutation}
use Rattle.sym_base.specs.Comparing.{compares}
use Rattle.sym_base.specs.Limits.{IsNumber}
use Rattle.sym_base.specs.States.{label_at, parts_at}
use Rattle.sym_base.specs.declared.values.state.Outcome.{Outcome}
use Rattle.sym_base.specs.declared.values.state.State.{State}
use Rattle.sym_base.specs.declared.values.value.Value.{Value}
use Rattle.sym_check.specs.Plan.CellKinds.{IsEnumCell}
use Rattle.sym_check.specs.Meaning.Conditions.{is_fixed, test_truth, truth}
use Rattle.sym_check.specs.Plan.CondPlans.{CondPlan, Compared, Words, CellIs, LabelIs, Test, Not, And, Or}
use Rattle.sym_check.specs.Meaning.FixedValues.{Environment}
use Rattle.sym_check.specs.Plan.ScriptPlans.{ScriptPlan}
use Rattle.sym_check.specs.declared.evaluate.arithmetic.Arith.{Arith}
use Rattle.sym_int.specs.Cuts.{most_with}
use Rattle.sym_path.specs.declared.path.Path.{Path}
use Rattle.sym_explore.specs.Branches.{answered, branches_with, judged, with_truth}
use Rattle.sym_explore.specs.Calling.{TestSuits}
use Rattle.sym_explore.specs.Counting.{branches_of}
use Rattle.sym_explore.specs.Parting.{at_state}
use Rattle.sym_explore.specs.Terms.{ReadyFits, ready_number}
use Rattle.sym_explore.specs.declared.branch.Branch.{Branch}
use Rattle.sym_explore.specs.declared.parted_lists.CellCondition.{CellCondition}
use Rattle.sym_explore.specs.declared.parted_lists.CellCondition.TheVariants.{Compare, Label, Call}
use Rattle.sym_explore.specs.declared.parted_lists.Evaluated.{Evaluated}
use Rattle.sym_explore.specs.declared.parted_lists.Evaluated.TheVariants.{Known, Failed, Open}

-- Whether a condition on a cell holds at a state, where a test has these arguments.
abbrev pub holds_at : ScriptPlan → List Value → CellCondition → State → Bool
holds_at p args (Compare ready bound) s =
    compares bound.compare (ready_number ready s) bound.number
holds_at p args (Label c l) s = label_at s c == l
holds_at p args (Call test c) s = test_truth p.tests test args (parts_at s c)

-- The condition is one of the script.
abbrev pub CellConditionFits : ScriptPlan → List Value → CellCondition → Type 0
CellConditionFits p args (Compare ready bound) = ReadyFits p ready × IsNumber bound.number
CellConditionFits p args (Label c l) = (of : ℕ) × IsEnumCell p.cells c of
CellConditionFits p args (Call test c) = TestSuits p c test args

-- At most how many branches with a truth it makes of a path.
abbrev pub cell_branches : CellCondition → Bool → ℕ
cell_branches (Compare ready bound) x = most_with bound.compare x
cell_branches (Label c l) x = 1
cell_branches (Call test c) x = 1

-- What the condition makes of an outcome at the record with this number.
abbrev pub tried_on_cell : ScriptPlan → List Value → CellCondition → ℕ → Outcome → Outcome × Option Bool
tried_on_cell p args q n = answered n (λ s. Ok (holds_at p args q s))

-- The paths and the branches that were there before, and those after: at each state the new branches
-- and the paths, each with its truth, give what the meaning makes of what the old paths gave, in
-- some order.
abbrev pub SplitsEach : ScriptPlan → (Outcome → Outcome × Option Bool) →
    List Path → List Branch → List Path → List Path → List Branch → Type 0
SplitsEach p meaning old before trues falses after = (s : State) → IsPermutation
    (judged (test_truth p.tests) before s ++ map meaning (at_state p old s))
    (with_truth (Some true) (at_state p trues s)
    ++ (with_truth (Some false) (at_state p falses s) ++ judged (test_truth p.tests) after s))

-- At most so many with each truth for each of the old paths.
pub record AreFewSplit (most : Bool → ℕ) (old : List Path) (before : List Branch)
    (with_true with_false : List Path) (after : List Branch) : Type 0 where
  pub trues : length with_true + branches_with true after
      ≤ branches_with true before + length old * most true
  pub falses : length with_false + branches_with false after
      ≤ branches_with false before + length old * most false

-- ---- conditions that aren't connected

-- The truth at a state.
abbrev pub evaluated_truth : ScriptPlan → List Value → Evaluated → State → Result Bool Arith
evaluated_truth p args (Known x) s = Ok x
evaluated_truth p args Failed s = Err (record {})
evaluated_truth p args (Open q) s = Ok (holds_at p args q s)

-- A condition on a cell is one of the script.
abbrev pub EvaluatedFits : ScriptPlan → List Value → Evaluated → Type 0
EvaluatedFits p args (Known x) = Unit {0}
EvaluatedFits p args Failed = Unit {0}
EvaluatedFits p args (Open q) = CellConditionFits p args q

-- It has one truth, or fails, at every state.
abbrev pub is_known : Evaluated → Bool
is_known (Known x) = true
is_known Failed = true
is_known (Open q) = false

-- At most how many branches with a truth come of a path.
abbrev pub evaluated_branches : Evaluated → Bool → ℕ
evaluated_branches (Known y) x = 1
evaluated_branches Failed x = 1
evaluated_branches (Open q) x = cell_branches q x

-- A condition that isn't connected.
abbrev pub IsUnconnected : CondPlan → Type 0
IsUnconnected (Compared compare t n) = Unit {0}
IsUnconnected (Words v w) = Unit {0}
IsUnconnected (CellIs c l) = Unit {0}
IsUnconnected (LabelIs l m) = Unit {0}
IsUnconnected (Test t c es) = Unit {0}
IsUnconnected (Not c) = ⊥
IsUnconnected (And c d) = ⊥
IsUnconnected (Or c d) = ⊥

-- What a condition comes to with its expressions evaluated: it has the same truth at each state,
-- and makes no more branches.
pub record IsEvaluated (p : ScriptPlan) (k : Environment) (c : CondPlan) (args : List Value)
    (evaluated : Evaluated) : Type 0 where
  pub same : (s : State) → truth (test_truth p.tests) k c s ≡ evaluated_truth p args evaluated s
  pub fits : EvaluatedFits p args evaluated
  pub few : (x : Bool) → evaluated_branches evaluated x ≤ branches_of c x
  pub fixed : IsTrue (is_fixed c) → IsTrue (is_known evaluated)
