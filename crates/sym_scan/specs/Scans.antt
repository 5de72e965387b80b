-- Scans: the rows of a round and the groups after it.
use Rattle.std.specs.Prelude.{ℕ, List, [], ◌++◌, Result, Ok, Err}
use Rattle.sym_base.specs.declared.values.value.Key.{Key}
use Rattle.sym_base.specs.declared.values.record.Record.{Record}
use Rattle.sym_base.specs.declared.values.state.Outcome.{Outcome}
use Rattle.sym_check.specs.Meaning.Groups.{pass}
use Rattle.sym_check.specs.Plan.ScriptPlans.{ScriptPlan}
use Rattle.sym_plain.specs.Pairs.{after_records}
use Rattle.sym_table.specs.declared.bad.Bad.{Bad as BadRow}
use Rattle.sym_scan.specs.declared.scan.Scanned.{Scanned}
use Rattle.sym_scan.specs.declared.scan.Scanned.TheVariants.{Done, Bad}
use Rattle.sym_scan.specs.Traces.{from_groups, rows_after, trace_after}

-- What the records of a round come to on groups: their rows, each group beginning as it stands, and
-- the groups after them; or the row that is no record.
abbrev pub scanned_to : ScriptPlan → ℕ → List (Key × Outcome) → Result (List Record) BadRow
    → Scanned
scanned_to p every groups (Ok records) =
    Done (rows_after p every (from_groups p groups) [] records) (after_records p records groups)
scanned_to p every groups (Err bad) = Bad bad

-- What they come to after other records: the part of the trace that belongs to them, and the pass
-- over all.
abbrev pub traced_to : ScriptPlan → ℕ → List Record → Result (List Record) BadRow → Scanned
traced_to p every before (Ok records) =
    Done (trace_after p every before records) (pass p (before ++ records))
traced_to p every before (Err bad) = Bad bad

-- The groups of a scan that is done are so.
abbrev pub IfDone : Scanned → (List (Key × Outcome) → Type 0) → Type 0
IfDone (Done rows groups) P = P groups
IfDone (Bad bad) P = Unit {0}
