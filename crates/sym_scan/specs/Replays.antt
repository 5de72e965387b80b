-- Replays: the rows of records, from how the groups of their keys stand before them.
use Rattle.std.specs.Prelude.{◌≡◌, ℕ, List, [], ◌∷◌, ◌++◌, Option, Some, None, Result, Ok, Err}
use Rattle.std.specs.List.{flat_map}
use Rattle.std.specs.Map.{lookup}
use Rattle.sym_base.specs.declared.values.value.Key.{Key}
use Rattle.sym_base.specs.declared.values.record.Record.{Record}
use Rattle.sym_base.specs.declared.values.state.Outcome.{Outcome}
use Rattle.sym_check.specs.Meaning.Groups.{is_key}
use Rattle.sym_check.specs.Plan.ScriptPlans.{ScriptPlan}
use Rattle.sym_plain.specs.Pairs.{after_records}
use Rattle.sym_table.specs.declared.bad.Bad.{Bad as BadRow}
use Rattle.sym_scan.specs.declared.replays.Progress.{Progress}
use Rattle.sym_scan.specs.declared.replays.Replayed.{Replayed}
use Rattle.sym_scan.specs.declared.replays.Replayed.TheVariants.{Rows, Bad}
use Rattle.sym_scan.specs.declared.rows.TraceRow.{TraceRow}
use Rattle.sym_scan.specs.Traces.{from_groups, rows_after}

-- The start of a key: how its group stands, where there is one.
abbrev pub start_of : Key → Option Outcome → List (Key × Outcome)
start_of key None = []
start_of key (Some outcome) = (key, outcome) ∷ []

-- The starts of keys: those of them that stand in the groups, in order, as they stand there.
abbrev pub starts_of : List (Key × Outcome) → List Key → List (Key × Outcome)
starts_of groups keys = flat_map (λ key. start_of key (lookup (is_key key) groups)) keys

-- The rows of records, each key beginning with its start or, where it has none, with the initial
-- state; or the row that is no record.
abbrev pub replayed_to : ScriptPlan → ℕ → List (Key × Outcome) → Result (List Record) BadRow
    → Replayed
replayed_to p every starts (Ok records) = Rows (rows_after p every (from_groups p starts) [] records)
replayed_to p every starts (Err bad) = Bad bad

-- The row of a record with this number and key whose group stands so; none where there is no group.
abbrev pub row_of : ℕ → Key → Option Outcome → List TraceRow
row_of number key None = []
row_of number key (Some outcome) =
    record { no = number; key = key; outcome = outcome } ∷ []

-- A replay has gone on over records: its groups have made their steps, and there are their rows
-- more. Or one of the rows that were read is no record.
abbrev pub GoesOn : ScriptPlan → ℕ → Result (List Record) BadRow → Progress → Option BadRow → Progress
    → Type 0
GoesOn p every (Ok records) old bad new =
    (bad ≡ None) × (new.groups ≡ after_records p records old.groups)
    × (new.rows.items ≡ old.rows.items ++ rows_after p every (from_groups p old.groups) [] records)
GoesOn p every (Err first) old bad new = bad ≡ Some first
