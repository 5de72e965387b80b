-- A round that is traced.
use Rattle.std.proofs.Common.{◌≡◌, ◌≤◌, ◌∙◌, ap, sym, refl, subst, ℕ, Bool, false, ◌||◌, List, [], ◌++◌, map, append-nil, append_assoc, Result, Ok, Err}
use Rattle.std.specs.List.{All}
use Rattle.std.proofs.lemmas.List.Elements.{All-nil}
use Rattle.std.proofs.lemmas.Grind.{flat_map-append}
use Rattle.std.proofs.lemmas.List.{map-append}
use Rattle.std.proofs.lemmas.List.Folds.{list_any-append}
use Rattle.sym_base.specs.declared.values.memory.NoMemory.{NoMemory}
use Rattle.sym_base.specs.declared.values.record.Record.{Record}
use Rattle.sym_base.specs.declared.values.value.Key.{Key}
use Rattle.sym_base.specs.declared.values.state.Outcome.{Outcome}
use Rattle.sym_base.specs.Trees.{ScriptTree}
use Rattle.sym_check.specs.Meaning.Validity.{IsKey, IsValidOutcome}
use Rattle.sym_check.specs.Plan.ScriptPlans.{ScriptPlan}
use Rattle.sym_check.specs.Plan.WellFormed.{IsWellFormed}
use Rattle.sym_table.specs.declared.bad.Bad.{Bad as BadRow}
use Rattle.sym_table.specs.declared.chunk.Chunk.{Chunk}
use Rattle.sym_table.specs.ChunkRecords.{all_records}
use Rattle.sym_table.specs.Rows.{FitsChunk}
use Rattle.sym_report.specs.declared.rows.Heads.{Heads}
use Rattle.sym_report.specs.declared.rows.Row.{Row}
use Rattle.sym_report.specs.Forms.{FormTexts, rows_text}
use Rattle.sym_report.specs.ReportRows.{is_faulty, some_faulty}
use Rattle.sym_run.specs.Applying.{AreValid}
use Rattle.sym_files.specs.Rounds.{AreWorkers, round_records}
use Rattle.sym_files.proofs.PlainRows.{plain_chunks}
use Rattle.sym_scan.specs.declared.rows.TraceRow.{TraceRow}
use Rattle.sym_scan.specs.declared.scan.Scanned.{Scanned}
use Rattle.sym_scan.specs.declared.scan.Scanned.TheVariants.{Done, Bad}
use Rattle.sym_scan.specs.Scans.{IfDone, scanned_to, traced_to}
use Rattle.sym_scan.specs.Traces.{from_groups, rows_after, trace, trace_after}
use Rattle.sym_scan.proofs.RoundRecords.{round_are}
use Rattle.sym_scan.proofs.ScanLaws.{scan_traces}
use Rattle.sym_scan.proofs.Standing.{trace_more}
use Rattle.sym_trace.specs.TraceReports.{trace_heads, trace_row, trace_rows}
use Rattle.sym_trace.specs.Tracing.{AreTraceRows, IsTracing, Tracer, Tracing}
use Rattle.sym_trace.proofs.Keyed.{rows_keyed}

abbrev Pairs : Type 0
Pairs = List (Key × Outcome)

-- What was found where a scan is done.
record IsFound (p : ScriptPlan) (every : ℕ) (given : Pairs) (rows : List TraceRow) (found : Result (List Record) BadRow) : Type 0 where
  records : List Record
  are : found ≡ Ok records
  rows_are : rows ≡ rows_after p every (from_groups p given) [] records

found_by : (p : ScriptPlan) (every : ℕ) (found : Result (List Record) BadRow) (given new : Pairs) (rows : List TraceRow) →
    Done rows new ≡ scanned_to p every given found → IsFound p every given rows found
found_by p every (Ok records) given new rows e = record { records = records; are = refl; rows_are = cc }
found_by p every (Err why) given new rows e = absurd (cc)

bad_by : (p : ScriptPlan) (every : ℕ) (found : Result (List Record) BadRow) (given : Pairs) (bad : BadRow) →
    Bad bad ≡ scanned_to p every given found → found ≡ Err bad
bad_by p every (Ok records) given bad e = absurd (cc)
bad_by p every (Err why) given bad e = let same : why ≡ bad = cc in ap Err same

-- The keys of the rows are of the script's kinds.
pub scan_keyed : (p : ScriptPlan) (every : ℕ) (cuts : List Chunk) (given new : List (Key × Outcome)) (rows : List TraceRow) (scanned : Scanned) →
    IsWellFormed p → All (FitsChunk p.fields) cuts → scanned ≡ Done rows new → scanned ≡ scanned_to p every given (all_records p cuts) →
    All (λ row. IsKey p row.key) rows
scan_keyed p every cuts given new rows scanned well fit done is =
    let found = found_by p every (all_records p cuts) given new rows (sym done ∙ is) in
    subst (All (λ (row : TraceRow). IsKey p row.key)) (sym found.rows_are)
    (rows_keyed p every (from_groups p given) [] found.records (round_are p cuts found.records well fit found.are))

-- The rows of the trace of more records.
more_rows : (tree : ScriptTree) (p : ScriptPlan) (every : ℕ) (before records : List Record) (rows : List TraceRow) →
    rows ≡ trace_after p every before records →
    trace_rows tree p every (before ++ records) ≡ trace_rows tree p every before ++ map (trace_row tree p) rows
more_rows tree p every before records rows e =
    ap (map (trace_row tree p)) (trace_more p every before records ∙ ap (λ (last : List TraceRow). trace p every before ++ last) (sym e))
    ∙ map-append (trace_row tree p) (trace p every before) rows

-- Their text, and whether one is faulty.
pub rows_on : (tree : ScriptTree) (p : ScriptPlan) (every : ℕ) (texts : FormTexts) (begun text after : List ℕ) (faulty found new : Bool)
    (before records : List Record) (rows : List TraceRow) →
    rows ≡ trace_after p every before records → AreTraceRows tree p every texts begun text faulty before →
    after ≡ text ++ rows_text texts (trace_heads tree p) (map (trace_row tree p) rows) →
    found ≡ some_faulty (map (trace_row tree p) rows) → new ≡ (faulty || found) →
    AreTraceRows tree p every texts begun after new (before ++ records)
rows_on tree p every texts begun text after faulty found new before records rows e h text_is found_is new_is =
    let shown = trace_row tree p in
    let heads = trace_heads tree p in
    let all = more_rows tree p every before records rows e in
    let kept = trace_rows tree p every before in
    record {
      text =
          text_is
          ∙ ap (λ (t : List ℕ). t ++ rows_text texts heads (map shown rows)) h.text
          ∙ append_assoc begun (rows_text texts heads kept) (rows_text texts heads (map shown rows))
          ∙ ap (λ (t : List ℕ). begun ++ t) (sym (flat_map-append (texts.row heads) kept (map shown rows)))
          ∙ ap (λ (rs : List Row). begun ++ rows_text texts heads rs) (sym all);
      fault =
          new_is
          ∙ ap (λ (b : Bool). b || found) h.fault
          ∙ ap (λ (b : Bool). some_faulty kept || b) found_is
          ∙ sym (list_any-append (λ (r : Row). is_faulty r.body) kept (map shown rows))
          ∙ ap some_faulty (sym all);
    }

-- By what stays the same, in place of what is seen.
text_as : (by : Tracing) (p : ScriptPlan) (old : Tracer) (before : List Record) (rows : List TraceRow) → IsTracing by p old before →
    rows_text old.texts old.heads (map (trace_row old.tree old.plan) rows) ≡ rows_text by.texts (trace_heads by.tree p) (map (trace_row by.tree p) rows)
text_as by p old before rows h =
    ap (λ (t : FormTexts). rows_text t old.heads (map (trace_row old.tree old.plan) rows)) h.texts
    ∙ ap (λ (hs : Heads). rows_text by.texts hs (map (trace_row old.tree old.plan) rows)) h.heads
    ∙ ap (λ (t : ScriptTree). rows_text by.texts (trace_heads by.tree p) (map (trace_row t old.plan) rows)) h.tree
    ∙ ap (λ (q : ScriptPlan). rows_text by.texts (trace_heads by.tree p) (map (trace_row by.tree q) rows)) h.plan

faulty_as : (by : Tracing) (p : ScriptPlan) (old : Tracer) (before : List Record) (rows : List TraceRow) → IsTracing by p old before →
    some_faulty (map (trace_row old.tree old.plan) rows) ≡ some_faulty (map (trace_row by.tree p) rows)
faulty_as by p old before rows h =
    ap (λ (t : ScriptTree). some_faulty (map (trace_row t old.plan) rows)) h.tree
    ∙ ap (λ (q : ScriptPlan). some_faulty (map (trace_row by.tree q) rows)) h.plan

traced_on : (by : Tracing) (p : ScriptPlan) (old : Tracer) (new : Pairs) (texts : FormTexts) (text : List ℕ) (found faulty : Bool)
    (before records : List Record) (rows : List TraceRow) → Done rows new ≡ traced_to p old.every before (Ok records) → AreValid p new →
    texts ≡ old.texts → text ≡ old.gathered ++ rows_text old.texts old.heads (map (trace_row old.tree old.plan) rows) →
    found ≡ some_faulty (map (trace_row old.tree old.plan) rows) → faulty ≡ (old.faulty || found) → IsTracing by p old before →
    IsTracing by p (record old { groups = new; texts = texts; gathered = text; faulty = faulty }) (before ++ records)
traced_on by p old new texts text found faulty before records rows e valid same text_is found_is faulty_is h =
    let part : rows ≡ trace_after p old.every before records = cc in
    record {
      tree = h.tree;
      plan = h.plan;
      heads = h.heads;
      every = h.every;
      texts = same ∙ h.texts;
      some = h.some;
      workers = h.workers;
      passed = cc;
      valid = valid;
      rows =
          rows_on by.tree p by.every by.texts by.begun old.gathered text old.faulty found faulty before records rows
          (part ∙ ap (λ (n : ℕ). trace_after p n before records) h.every) h.rows
          (text_is ∙ ap (λ (t : List ℕ). old.gathered ++ t) (text_as by p old before rows h))
          (found_is ∙ faulty_as by p old before rows h) faulty_is;
    }

-- A round whose records are taken.
pub round_traced : (by : Tracing) (p : ScriptPlan) (cuts : List Chunk) (old : Tracer) (given new : List (Key × Outcome)) (rows : List TraceRow)
    (scanned : Scanned) (texts : FormTexts) (text : List ℕ) (found faulty : Bool) →
    given ≡ old.groups → scanned ≡ Done rows new → scanned ≡ scanned_to p old.every given (all_records p cuts) → IfDone scanned (AreValid p) →
    texts ≡ old.texts → text ≡ old.gathered ++ rows_text old.texts old.heads (map (trace_row old.tree old.plan) rows) →
    found ≡ some_faulty (map (trace_row old.tree old.plan) rows) → faulty ≡ (old.faulty || found) →
    (records : List Record) × (round_records p (λ row. row) cuts ≡ Ok records)
    × ((before : List Record) → IsTracing by p old before →
    IsTracing by p (record old { groups = new; texts = texts; gathered = text; faulty = faulty }) (before ++ records))
round_traced by p cuts old given new rows scanned texts text found faulty same done is valid texts_are text_is found_is faulty_is =
    let all = found_by p old.every (all_records p cuts) given new rows (sym done ∙ is) in (
      all.records,
      ap (all_records p) (plain_chunks cuts) ∙ all.are,
      λ before h.
          traced_on by p old new texts text found faulty before all.records rows
          (sym done
          ∙ scan_traces {E = NoMemory} p old.every given before (all_records p cuts) (Ok scanned) (same ∙ h.passed) is
          ∙ ap (traced_to p old.every before) all.are)
          (subst (λ (x : Scanned). IfDone x (AreValid p)) done valid) texts_are text_is found_is faulty_is h,
    )

-- A round with a row that is no record.
pub round_broken : (p : ScriptPlan) (every : ℕ) (cuts : List Chunk) (given : List (Key × Outcome)) (scanned : Scanned) (bad : BadRow) →
    scanned ≡ Bad bad → scanned ≡ scanned_to p every given (all_records p cuts) → round_records p (λ row. row) cuts ≡ Err bad
round_broken p every cuts given scanned bad broken is =
    ap (all_records p) (plain_chunks cuts) ∙ bad_by p every (all_records p cuts) given bad (sym broken ∙ is)

-- What takes rounds, before the first one.
pub tracing_begins : (by : Tracing) (p : ScriptPlan) (seen : Tracer) →
    by ≡ record { tree = seen.tree; every = seen.every; texts = seen.texts; begun = seen.gathered } → seen.plan ≡ p →
    seen.heads ≡ trace_heads seen.tree p → 1 ≤ seen.every → AreWorkers seen.workers → seen.groups ≡ [] → seen.faulty ≡ false →
    IsTracing by p seen []
tracing_begins by p seen is plan heads some workers groups faulty =
    let tree : seen.tree ≡ by.tree = sym (ap (λ (b : Tracing). b.tree) is) in
    let begun : seen.gathered ≡ by.begun = sym (ap (λ (b : Tracing). b.begun) is) in
    record {
      tree = tree;
      plan = plan;
      heads = heads ∙ ap (λ (t : ScriptTree). trace_heads t p) tree;
      every = sym (ap (λ (b : Tracing). b.every) is);
      texts = sym (ap (λ (b : Tracing). b.texts) is);
      some = some;
      workers = workers;
      passed = groups;
      valid = subst (AreValid p) (sym groups) (All-nil (λ (group : Key × Outcome). IsValidOutcome p group.1));
      rows = record { text = begun ∙ sym (append-nil by.begun); fault = faulty };
    }

-- The rows, by what stays the same.
pub rows_by : (by other : Tracing) (p : ScriptPlan) (seen : Tracer) (records : List Record) → by ≡ other → IsTracing by p seen records →
    AreTraceRows other.tree p other.every other.texts other.begun seen.gathered seen.faulty records
rows_by by other p seen records same h =
    subst (λ (b : Tracing). AreTraceRows b.tree p b.every b.texts b.begun seen.gathered seen.faulty records) same h.rows
