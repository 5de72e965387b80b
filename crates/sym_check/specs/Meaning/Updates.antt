-- The sequential meaning of an update: what one record does to a group, and what many do. The
-- update, its step and the fold over records are those of the SYMPLE paper (SOSP 2015); the
-- statements and the faults are this project's profile.
use Rattle.std.specs.Prelude.{ℕ, ℤ, pos, ◌-◌, if◌then◌else◌, List, [], ◌∷◌, ◌++◌, map, replicate, length, Result, Ok, Err}
use Rattle.sym_base.specs.declared.values.value.Value.{Value}
use Rattle.sym_base.specs.declared.values.value.Value.TheVariants as value
use Rattle.sym_base.specs.declared.values.record.Record.{Record}
use Rattle.sym_base.specs.declared.values.state.Cell.{Cell}
use Rattle.sym_base.specs.declared.values.state.Cell.TheVariants as cell
use Rattle.sym_base.specs.declared.values.state.State.{State}
use Rattle.sym_base.specs.declared.values.state.FaultKind.{FaultKind}
use Rattle.sym_base.specs.declared.values.state.FaultKind.TheVariants as fault
use Rattle.sym_base.specs.declared.values.state.Outcome.{Outcome}
use Rattle.sym_base.specs.declared.values.state.Outcome.TheVariants.{Going, Ended}
use Rattle.sym_base.specs.States.{label_at, parts_at, nums_at, words_at, with_cell}
use Rattle.sym_check.specs.declared.evaluate.arithmetic.Arith.{Arith}
use Rattle.sym_check.specs.declared.plan.script.CellPlan.{CellPlan}
use Rattle.sym_check.specs.declared.plan.script.CellPlan.TheVariants as plan
use Rattle.sym_check.specs.Meaning.Arithmetic.{◌>>=◌, and_then}
use Rattle.sym_check.specs.Meaning.FixedValues.{Environment, word_of, label_of, fixed_value, fixed_values}
use Rattle.sym_check.specs.Meaning.LineValues.{term_number}
use Rattle.sym_check.specs.Meaning.Conditions.{truth, test_truth}
use Rattle.sym_check.specs.Plan.DoPlans.{DoPlan, Let, SetInt, SetEnum, CopyEnum, Keep, KeepFrom, PushNum, PushWord, If, DosPlan, End, Then}
use Rattle.sym_check.specs.Plan.ScriptPlans.{ScriptPlan}
use Rattle.sym_check.specs.Plan.Ranges.{landed}

-- What a cell holds at first.
abbrev pub first_cell : CellPlan → Cell
first_cell (plan.Int lo hi first clamp) = cell.Int first
first_cell (plan.Nums lo hi clamp) = cell.Nums []
first_cell plan.Words = cell.Words []
first_cell (plan.Hold kinds first) = cell.Hold first
first_cell (plan.Enum enum first) = cell.Enum first

abbrev pub initial : ScriptPlan → State
initial p = record { cells = map first_cell p.cells }

-- Arithmetic that fails ends the group.
abbrev pub or_fault : {A : Type 0} → Result A Arith → Result A FaultKind
or_fault (Ok x) = Ok x
or_fault (Err e) = Err fault.Arith

-- The state with this number in an integer cell,
abbrev pub with_int : ℕ → ℤ → State → State
with_int c x s = with_cell s c (cell.Int x)

-- and with this number last in a list.
abbrev pub with_pushed : ℕ → ℤ → State → State
with_pushed c x s = with_cell s c (cell.Nums (nums_at s c ++ x ∷ []))

-- What the cell keeps of the number is put into the state. Where it keeps nothing, the group ends.
abbrev pub stored : ScriptPlan → ℕ → (ℤ → State → State) → ℤ → State → Result State FaultKind
stored p c put x s = do
  y ← landed p.cells c x
  Ok (put y s)

-- The environment in an update: the record's fields and the locals so far.
abbrev pub environment : Record → List Value → Environment
environment rec locals = record { fields = rec.fields; locals = locals; params = [] }

-- One local more, of this number. Locals are numbered in the order of the text, and those of an
-- earlier block are gone after it: they leave gaps, which hold 0.
abbrev pub with_local : Environment → ℕ → Value → Environment
with_local k n v = record k {
  locals = k.locals ++ (replicate (n - length k.locals) (value.Num (pos 0)) ++ v ∷ []);
}

abbrev pub with_result : Environment → ℕ → Result Value Arith → Environment
with_result k n (Ok v) = with_local k n v
with_result k n (Err e) = k

-- The environment after a statement, to the end of its block.
abbrev pub environment_after : Environment → DoPlan → Environment
environment_after k (Let n e) = with_result k n (fixed_value k e)
environment_after k (SetInt c t) = k
environment_after k (SetEnum c l) = k
environment_after k (CopyEnum c d) = k
environment_after k (Keep c es) = k
environment_after k (KeepFrom c d) = k
environment_after k (PushNum c t) = k
environment_after k (PushWord c w) = k
environment_after k (If c a b) = k

abbrev mutual
  -- A statement gives the state after it, or the kind of fault that ends the group.
  pub do_step : ScriptPlan → Environment → DoPlan → State → Result State FaultKind
  do_step p k (Let n e) s = do
    v ← or_fault (fixed_value k e)
    Ok s
  do_step p k (SetInt c t) s = do
    x ← or_fault (term_number k t s)
    stored p c (with_int c) x s
  do_step p k (SetEnum c l) s = Ok (with_cell s c (cell.Enum (label_of k l)))
  do_step p k (CopyEnum c d) s = Ok (with_cell s c (cell.Enum (label_at s d)))
  do_step p k (Keep c es) s = do
    parts ← or_fault (fixed_values k es)
    Ok (with_cell s c (cell.Hold parts))
  do_step p k (KeepFrom c d) s = Ok (with_cell s c (cell.Hold (parts_at s d)))
  do_step p k (PushNum c t) s = do
    x ← or_fault (term_number k t s)
    stored p c (with_pushed c) x s
  do_step p k (PushWord c w) s = Ok (with_cell s c (cell.Words (words_at s c ++ word_of k w ∷ [])))
  do_step p k (If c a b) s = do
    x ← or_fault (truth (test_truth p.tests) k c s)
    if x then dos_step p k a s else dos_step p k b s

  -- Statements in order, each of which sees the changes before it.
  pub dos_step : ScriptPlan → Environment → DosPlan → State → Result State FaultKind
  dos_step p k End s = Ok s
  dos_step p k (Then d rest) s = do
    later ← do_step p k d s
    dos_step p (environment_after k d) rest later

-- A fault carries the number of the record at which it came.
abbrev pub at_record : ℕ → Result State FaultKind → Outcome
at_record n (Ok s) = Going s
at_record n (Err kind) = Ended (record { kind = kind; no = n })

-- One record: a group that has ended stays as it is.
abbrev pub step : ScriptPlan → Outcome → Record → Outcome
step p (Going s) rec = at_record rec.no (dos_step p (environment rec []) p.update s)
step p (Ended end) rec = Ended end

-- Many records, in order.
abbrev pub after : ScriptPlan → List Record → Outcome → Outcome
after p [] outcome = outcome
after p (rec ∷ rest) outcome = after p rest (step p outcome rec)
