-- The rows of a round's trace belong under the names of the trace.
use Rattle.std.proofs.Common.{◌≡◌, ◌∙◌, ap, sym, subst, arith, ℕ, Bool, true, false, if◌then◌else◌, List, [], ◌∷◌, ◌++◌, slice_index_or}
use Rattle.std.specs.List.{All}
use Rattle.std.proofs.lemmas.List.Elements.{All-append, All-cons, All-head, All-nil, All-tail}
use Rattle.sym_base.specs.declared.values.record.Record.{Record}
use Rattle.sym_base.specs.declared.values.value.Key.{Key}
use Rattle.sym_base.specs.declared.values.state.Outcome.{Outcome}
use Rattle.sym_base.specs.declared.values.state.Outcome.TheVariants.{Going}
use Rattle.sym_base.specs.Trees.{ScriptTree}
use Rattle.sym_check.specs.Meaning.Validity.{IsKey, IsRecord}
use Rattle.sym_check.specs.Plan.ScriptPlans.{ScriptPlan}
use Rattle.sym_check.specs.Rules.Scripts.{IsAccepted}
use Rattle.sym_check.specs.Meaning.Groups.{key_of}
use Rattle.sym_check.specs.Meaning.Updates.{initial}
use Rattle.sym_check.proofs.GroupLaws.{pass_keys}
use Rattle.sym_report.specs.declared.rows.Heads.{Heads}
use Rattle.sym_report.specs.Forms.{IsUnder}
use Rattle.sym_report.proofs.Under.{rows_under}
use Rattle.sym_scan.specs.declared.rows.TraceRow.{TraceRow}
use Rattle.sym_scan.specs.Traces.{is_shown, row_after, rows_after}
use Rattle.sym_trace.specs.TraceReports.{trace_heads, trace_row}

-- ---- rows

-- The key of a record is of the script's kinds: that of the one group of a pass over it.
key_is : (p : ScriptPlan) (rec : Record) → IsRecord p rec → IsKey p (key_of p rec)
key_is p rec h =
    pass_keys p (rec ∷ []) (All-cons (IsRecord p) rec [] h (All-nil (IsRecord p))) 0 (key_of p rec, Going (initial p)) (omega arith)

pub rows_keyed : (p : ScriptPlan) (every : ℕ) (begin : Key → Outcome) (before records : List Record) → All (IsRecord p) records →
    All (λ row. IsKey p row.key) (rows_after p every begin before records)
rows_keyed p every begin before [] all = All-nil (λ (row : TraceRow). IsKey p row.key)
rows_keyed p every begin before (rec ∷ rest) all =
    All-append (λ (row : TraceRow). IsKey p row.key) (if is_shown every rec then row_after p begin before rec ∷ [] else [])
    (rows_after p every begin (before ++ rec ∷ []) rest) (of (is_shown every rec))
    (rows_keyed p every begin (before ++ rec ∷ []) rest (All-tail (IsRecord p) rec rest all))
  where
    of : (b : Bool) → All (λ (row : TraceRow). IsKey p row.key) (if b then row_after p begin before rec ∷ [] else [])
    of true =
        All-cons (λ (row : TraceRow). IsKey p row.key) (row_after p begin before rec) [] (key_is p rec (All-head (IsRecord p) rec rest all))
        (All-nil (λ (row : TraceRow). IsKey p row.key))
    of false = All-nil (λ (row : TraceRow). IsKey p row.key)

row_under : (t : ScriptTree) (p : ScriptPlan) (row : TraceRow) → IsAccepted t p → IsKey p row.key → IsUnder (trace_heads t p) (trace_row t p row)
row_under t p row accepted key =
    let group : Key × Outcome = (row.key, row.outcome) in
    let P : (Key × Outcome) → Type 0 = λ pair. IsKey p pair.0 in
    let one = rows_under t p (group ∷ []) accepted (All-cons P group [] key (All-nil P)) 0 group (omega arith) in
    record { keys = omega (arith, one.keys); columns = one.columns }

rows_all_under : (t : ScriptTree) (p : ScriptPlan) (rows : List TraceRow) → IsAccepted t p → All (λ row. IsKey p row.key) rows →
    All (λ row. IsUnder (trace_heads t p) (trace_row t p row)) rows
rows_all_under t p rows accepted keys i d within = row_under t p (slice_index_or rows i d) accepted (keys i d within)

-- Under names and by a script that are equal to the trace's.
pub under_as : (t tree : ScriptTree) (q p : ScriptPlan) (heads : Heads) (rows : List TraceRow) → t ≡ tree → q ≡ p → heads ≡ trace_heads tree p →
    IsAccepted t q → All (λ row. IsKey p row.key) rows → All (λ row. IsUnder heads (trace_row t q row)) rows
under_as t tree q p heads rows trees plans are accepted keys =
    let same : heads ≡ trace_heads t q = are ∙ ap (λ x. trace_heads x p) (sym trees) ∙ ap (trace_heads t) (sym plans) in
    let own : All (λ (row : TraceRow). IsKey q row.key) rows = subst (λ (x : ScriptPlan). All (λ (row : TraceRow). IsKey x row.key) rows) (sym plans) keys in
    subst (λ (h : Heads). All (λ (row : TraceRow). IsUnder h (trace_row t q row)) rows) (sym same) (rows_all_under t q rows accepted own)
