-- The text of a trace's report, piece by piece.
use Rattle.std.proofs.Common.{◌≡◌, ◌∙◌, ap, ℕ, Bool, List, ◌++◌, append_assoc}
use Rattle.sym_base.specs.declared.values.record.Record.{Record}
use Rattle.sym_base.specs.Trees.{ScriptTree}
use Rattle.sym_check.specs.Plan.ScriptPlans.{ScriptPlan}
use Rattle.sym_report.specs.declared.rows.Heads.{Heads}
use Rattle.sym_report.specs.Forms.{FormTexts, rows_text}
use Rattle.sym_trace.specs.TraceReports.{trace_heads, trace_rows}
use Rattle.sym_trace.specs.Tracing.{AreTraceRows, IsTraceReport}

-- The text of the names, the rows' texts, and the text of the end.
pub report_by : (tree : ScriptTree) (p : ScriptPlan) (every : ℕ) (heads : Heads) (texts own last : FormTexts) (before begun text after : List ℕ)
    (faulty : Bool) (records : List Record) → heads ≡ trace_heads tree p → own ≡ texts → last ≡ own → begun ≡ before ++ texts.begin heads →
    AreTraceRows tree p every own begun text faulty records → after ≡ text ++ last.end heads →
    IsTraceReport tree p every texts before after faulty records
report_by tree p every heads texts own last before begun text after faulty records heads_are own_is last_is begun_is h after_is =
    let shown = trace_rows tree p every records in
    let names = trace_heads tree p in
    let rows = rows_text texts names shown in
    record {
      text =
          after_is
          ∙ ap (λ (t : FormTexts). text ++ t.end heads) (last_is ∙ own_is)
          ∙ ap (λ (hs : Heads). text ++ texts.end hs) heads_are
          ∙ ap (λ (t : List ℕ). t ++ texts.end names)
          (h.text ∙ ap (λ (t : FormTexts). begun ++ rows_text t names shown) own_is
          ∙ ap (λ (t : List ℕ). t ++ rows) (begun_is ∙ ap (λ (hs : Heads). before ++ texts.begin hs) heads_are))
          ∙ ap (λ (t : List ℕ). t ++ texts.end names) (append_assoc before (texts.begin names) rows)
          ∙ append_assoc before (texts.begin names ++ rows) (texts.end names)
          ∙ ap (λ (t : List ℕ). before ++ t) (append_assoc (texts.begin names) rows (texts.end names));
      fault = h.fault;
    }
