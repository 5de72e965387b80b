-- The report of a trace: the names above its rows, and the rows.
-- That a record's number stands first, and under which name, is this project's profile.
use Rattle.std.specs.Prelude.{ℕ, pos, List, ◌∷◌, map}
use Rattle.sym_base.specs.declared.values.record.Record.{Record}
use Rattle.sym_base.specs.declared.values.report.Column.TheVariants as column
use Rattle.sym_base.specs.Trees.{ScriptTree}
use Rattle.sym_check.specs.Plan.ScriptPlans.{ScriptPlan}
use Rattle.sym_report.specs.declared.rows.Heads.{Heads}
use Rattle.sym_report.specs.declared.rows.Row.{Row}
use Rattle.sym_report.specs.ReportRows.{body_of, heads_of, key_columns}
use Rattle.sym_scan.specs.declared.rows.TraceRow.{TraceRow}
use Rattle.sym_scan.specs.Traces.{trace}
use Rattle.sym_trace.specs.declared.rows.TheConstants as own

-- The names above the rows: that of the records' numbers, and then those of a report.
abbrev pub trace_heads : ScriptTree → ScriptPlan → Heads
trace_heads tree p =
    let heads = heads_of tree p in
    record heads { keys = own.RECORD_NAME.now ∷ heads.keys }

-- The report row of a row of a trace: the record's number as a first key value, and then what the
-- row of the record's group shows, as the group stands after the record.
abbrev pub trace_row : ScriptTree → ScriptPlan → TraceRow → Row
trace_row tree p row = record {
  keys = column.Num (pos row.no) ∷ key_columns p row.key;
  body = body_of tree p row.outcome;
}

-- The report rows of the trace of records: a row for each record whose number `every` divides.
abbrev pub trace_rows : ScriptTree → ScriptPlan → ℕ → List Record → List Row
trace_rows tree p every records = map (trace_row tree p) (trace p every records)
