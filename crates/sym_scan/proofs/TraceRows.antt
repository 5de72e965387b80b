-- The rows of records: of more records, and by how the groups begin.
use Rattle.std.proofs.Common.{◌≡◌, ◌∙◌, ap, sym, refl, ℕ, Bool, true, false, ◌||◌, if◌then◌else◌, List, [], ◌∷◌, ◌++◌, map, append-nil, append_assoc}
use Rattle.sym_base.specs.declared.values.value.Key.{Key}
use Rattle.sym_base.specs.declared.values.record.Record.{Record}
use Rattle.sym_base.specs.declared.values.state.Outcome.{Outcome}
use Rattle.sym_check.specs.Meaning.Groups.{is_among, is_key, key_of, records_of}
use Rattle.sym_check.specs.Meaning.Updates.{after}
use Rattle.sym_check.specs.Plan.ScriptPlans.{ScriptPlan}
use Rattle.sym_check.proofs.GroupLaws.{records_of_append}
use Rattle.sym_check.proofs.Keys.{same_key}
use Rattle.sym_check.proofs.PlanLaws.{after_append}
use Rattle.sym_scan.specs.declared.rows.TraceRow.{TraceRow}
use Rattle.sym_scan.specs.Traces.{is_shown, row_after, rows_after}

-- The row of one record, where it is shown.
abbrev shown_row : ScriptPlan → ℕ → (Key → Outcome) → List Record → Record → List TraceRow
shown_row p every begin before rec = if is_shown every rec then row_after p begin before rec ∷ [] else []

-- ---- more records
pub rows_append : (p : ScriptPlan) (every : ℕ) (begin : Key → Outcome) (before first rest : List Record)
    → rows_after p every begin before (first ++ rest) ≡ rows_after p every begin before first ++ rows_after p every begin (before ++ first) rest
rows_append p every begin before [] rest = ap (λ (rs : List Record). rows_after p every begin rs rest) (sym (append-nil before))
rows_append p every begin before (rec ∷ first) rest =
    ap (λ (more : List TraceRow). shown_row p every begin before rec ++ more) (rows_append p every begin (before ++ rec ∷ []) first rest)
    ∙ sym (append_assoc (shown_row p every begin before rec) (rows_after p every begin (before ++ rec ∷ []) first) (rows_after p every begin ((before ++ rec ∷ []) ++ first) rest))
    ∙ ap (λ (rs : List Record). (shown_row p every begin before rec ++ rows_after p every begin (before ++ rec ∷ []) first) ++ rows_after p every begin rs rest)
    (append_assoc before (rec ∷ []) first)

-- ---- how the groups begin
or_true : (b : Bool) → (b || true) ≡ true
or_true true = refl
or_true false = refl

row_same : (p : ScriptPlan) (every : ℕ) (before : List Record) (rec : Record) (o u : Outcome) (begin next : Key → Outcome) → begin (key_of p rec) ≡ next (key_of p rec)
    → shown_row p every begin before rec ≡ shown_row p every next before rec
row_same p every before rec o u begin next e =
    ap (λ (first : Outcome). if is_shown every rec then record { no = rec.no; key = key_of p rec; outcome = after p (records_of p (key_of p rec) (before ++ rec ∷ [])) first } ∷ [] else []) e

-- The rows are the same where the keys of the records begin alike.
pub rows_same : (p : ScriptPlan) (every : ℕ) (begin next : Key → Outcome) (before records : List Record)
    → ((k : Key) → is_among k (map (key_of p) records) ≡ true → begin k ≡ next k) → rows_after p every begin before records ≡ rows_after p every next before records
rows_same p every begin next before [] e = refl
rows_same p every begin next before (rec ∷ rest) e =
    ap (λ (row : List TraceRow). row ++ rows_after p every begin (before ++ rec ∷ []) rest)
    (row_same p every before rec (begin (key_of p rec)) (next (key_of p rec)) begin next
    (e (key_of p rec) (ap (λ (b : Bool). b || is_among (key_of p rec) (map (key_of p) rest)) (same_key (key_of p rec)))))
    ∙ ap (λ (more : List TraceRow). shown_row p every next before rec ++ more)
    (rows_same p every begin next (before ++ rec ∷ []) rest (λ k h. e k (ap (λ (b : Bool). is_key k (key_of p rec) || b) h ∙ or_true (is_key k (key_of p rec)))))

-- Groups that begin as they stand after some records have the rows that come after those.
row_shift : (p : ScriptPlan) (every : ℕ) (begin : Key → Outcome) (first before : List Record) (rec : Record)
    → shown_row p every (λ k. after p (records_of p k first) (begin k)) before rec ≡ shown_row p every begin (first ++ before) rec
row_shift p every begin first before rec =
    let k : Key = key_of p rec in
    ap (λ (o : Outcome). if is_shown every rec then record { no = rec.no; key = k; outcome = o } ∷ [] else [])
    (sym (after_append p (records_of p k first) (records_of p k (before ++ rec ∷ [])) (begin k))
    ∙ ap (λ (rs : List Record). after p rs (begin k)) (sym (records_of_append p k first (before ++ rec ∷ [])) ∙ ap (records_of p k) (sym (append_assoc first before (rec ∷ [])))))

pub rows_shift : (p : ScriptPlan) (every : ℕ) (begin : Key → Outcome) (first before records : List Record)
    → rows_after p every (λ k. after p (records_of p k first) (begin k)) before records ≡ rows_after p every begin (first ++ before) records
rows_shift p every begin first before [] = refl
rows_shift p every begin first before (rec ∷ rest) =
    ap (λ (row : List TraceRow). row ++ rows_after p every (λ k. after p (records_of p k first) (begin k)) (before ++ rec ∷ []) rest) (row_shift p every begin first before rec)
    ∙ ap (λ (more : List TraceRow). shown_row p every begin (first ++ before) rec ++ more)
    (rows_shift p every begin first (before ++ rec ∷ []) rest ∙ ap (λ (rs : List Record). rows_after p every begin rs rest) (sym (append_assoc first before (rec ∷ []))))
