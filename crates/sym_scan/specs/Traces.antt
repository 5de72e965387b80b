-- Traces: how the group of a record stands after the record.
use Rattle.std.specs.Prelude.{ℕ, ◌%◌, ◌==◌, Bool, if◌then◌else◌, List, [], ◌∷◌, ◌++◌, Option}
use Rattle.std.specs.List.{filter}
use Rattle.std.specs.Map.{lookup}
use Rattle.std.specs.Option.{option_map}
use Rattle.sym_base.specs.declared.values.value.Key.{Key}
use Rattle.sym_base.specs.declared.values.record.Record.{Record}
use Rattle.sym_base.specs.declared.values.state.Outcome.{Outcome}
use Rattle.sym_base.specs.declared.values.state.Outcome.TheVariants.{Going}
use Rattle.sym_check.specs.Meaning.Groups.{is_key, key_of, records_of}
use Rattle.sym_check.specs.Meaning.Updates.{initial, after}
use Rattle.sym_check.specs.Plan.ScriptPlans.{ScriptPlan}
use Rattle.sym_plain.specs.Pairs.{standing}
use Rattle.sym_plain.specs.Shown.{last}
use Rattle.sym_scan.specs.declared.rows.TraceRow.{TraceRow}

-- Each group begins with the initial state.
abbrev pub from_initial : ScriptPlan → Key → Outcome
from_initial p key = Going (initial p)

-- A group that is there begins as it stands, and any other one with the initial state.
abbrev pub from_groups : ScriptPlan → List (Key × Outcome) → Key → Outcome
from_groups p groups key = standing p (lookup (is_key key) groups)

-- The numbers that `every` divides are shown.
abbrev pub is_shown : ℕ → Record → Bool
is_shown every rec = rec.no % every == 0

-- The row of a record that comes after others: its number, its key, and how the key's group stands
-- after its records up to this one. The group is folded anew from how it began.
abbrev pub row_after : ScriptPlan → (Key → Outcome) → List Record → Record → TraceRow
row_after p begin before rec = record {
  no = rec.no;
  key = key_of p rec;
  outcome = after p (records_of p (key_of p rec) (before ++ rec ∷ [])) (begin (key_of p rec));
}

-- The rows of those records that are shown, in order. They come after others.
abbrev pub rows_after : ScriptPlan → ℕ → (Key → Outcome) → List Record → List Record
    → List TraceRow
rows_after p every begin before [] = []
rows_after p every begin before (rec ∷ rest) =
    (if is_shown every rec then row_after p begin before rec ∷ [] else [])
    ++ rows_after p every begin (before ++ rec ∷ []) rest

-- The part of a trace that belongs to records that come after others.
abbrev pub trace_after : ScriptPlan → ℕ → List Record → List Record → List TraceRow
trace_after p every before records = rows_after p every (from_initial p) before records

-- The trace of records: for each that is shown, how its group stands after it.
abbrev pub trace : ScriptPlan → ℕ → List Record → List TraceRow
trace p every records = trace_after p every [] records

-- How a key's group stands by the last of the rows that have the key, if one has it.
abbrev pub last_outcome : Key → List TraceRow → Option Outcome
last_outcome key rows =
    option_map (λ (row : TraceRow). row.outcome)
    (last (filter (λ (row : TraceRow). is_key key row.key) rows))
