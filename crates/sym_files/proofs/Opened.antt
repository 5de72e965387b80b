-- What opening a file says of its records.
use Rattle.std.proofs.Common.{◌≡◌, refl, sym, ap, ℕ, ◌∙◌, arith, List, [], ◌∷◌, length, map, subst, Ok, Err, Result}
use Rattle.sym_check.specs.Meaning.Arithmetic.{and_then}
use Rattle.sym_base.specs.declared.values.record.Record.{Record}
use Rattle.sym_check.specs.Plan.ScriptPlans.{ScriptPlan}
use Rattle.sym_table.specs.declared.bad.Bad.{Bad}
use Rattle.sym_table.specs.declared.header.Header.{Header}
use Rattle.sym_table.specs.declared.header.HeadErr.{HeadErr}
use Rattle.sym_table.specs.declared.header.HeadErr.TheVariants as head_err
use Rattle.sym_table.specs.declared.header.HeadFault.{HeadFault}
use Rattle.sym_table.specs.Cutting.{Cutting, Opens}
use Rattle.sym_table.specs.Headers.{columns_of}
use Rattle.sym_table.specs.Reading.{Row}
use Rattle.sym_table.specs.Rows.{FitsHeader}
use Rattle.sym_files.specs.declared.error.PassErr.TheVariants as pass_err
use Rattle.sym_table.specs.RowRecords.{records_or_bad}
use Rattle.sym_files.specs.declared.error.PassErr.{PassErr}
use Rattle.sym_files.specs.FileRecords.{or_else, header_of, shown_rows, row_records}
use Rattle.sym_files.specs.Rounds.{stands_by}
use Rattle.sym_files.specs.Taking.{IsOpened, OpensFile, AreTaken, IsTaken, TakesFile}

header_is : (p : ScriptPlan) (row : Row) (header : Header) → columns_of row 0 p.fields ≡ Ok header.places → header.columns ≡ length row
    → header_of p row ≡ Ok header
header_is p row header e w = rw e (ap (λ n. Ok (record { places = header.places; columns = n })) (sym w))

header_fault : (p : ScriptPlan) (row : Row) (why : HeadFault) → columns_of row 0 p.fields ≡ Err why → header_of p row ≡ Err why
header_fault p row why e = rw e refl

by_header : (p : ScriptPlan) (file first : ℕ) (row : Row) (rows : List Row) (r : Result Header HeadFault) → header_of p row ≡ r
    → row_records p file first (row ∷ rows) ≡ and_then (λ header. or_else (pass_err.Bad file) (records_or_bad p header first rows)) (or_else (pass_err.Head file) r)
by_header p file first row rows r e =
    ap (λ found. and_then (λ header. or_else (pass_err.Bad file) (records_or_bad p header first rows)) (or_else (pass_err.Head file) found)) e

pub opened : (p : ScriptPlan) (shown : Row → Row) (file first : ℕ) (rows : List Row) (c : Cutting)
    → Opens p.fields rows (Ok c) → c.next_no ≡ first → FitsHeader p.fields c.header → IsOpened p shown file first rows c
opened p shown file first [] c e next fits = record { left = []; has = e; next = next; fits = fits; reads = refl; opens = e }
opened p shown file first (row ∷ rows) c e next fits = record {
  left = rows;
  has = e.2;
  next = next;
  fits = fits;
  reads = by_header p file first row (map shown rows) (Ok c.header) (header_is p row c.header e.0 e.1);
  opens = e;
}

fault_of : (p : ScriptPlan) (shown : Row → Row) (file first : ℕ) (rows : List Row) (why : HeadFault)
    → Opens p.fields rows (Err (head_err.Fault why)) → row_records p file first (shown_rows shown rows) ≡ Err (pass_err.Head file why)
fault_of p shown file first [] why e = absurd e
fault_of p shown file first (row ∷ rows) why e =
    by_header p file first row (map shown rows) (Err why) (header_fault p row why e)

pub unopened : (p : ScriptPlan) (shown : Row → Row) (file first : ℕ) (rows : List Row) (e : HeadErr) (why : HeadFault) → e ≡ head_err.Fault why
    → Opens p.fields rows (Err e) → row_records p file first (shown_rows shown rows) ≡ Err (pass_err.Head file why)
unopened p shown file first rows e why same opens =
    let P : HeadErr → Type 0 = λ x. Opens p.fields rows (Err x) in
    fault_of p shown file first rows why (subst P same opens)

-- ---- the opened file is taken
pub file_taken : {S : Type 0} (stands : S → List Record → Type 0) (p : ScriptPlan) (shown : Row → Row) (file first next last : ℕ) (rows : List Row) (c : Cutting) (old new : S) → last ≡ next
    → (is : IsOpened p shown file first rows c) → AreTaken stands (records_or_bad p c.header c.next_no (map shown is.left)) c.next_no next old new
    → IsTaken stands (row_records p file first (shown_rows shown rows)) first last old new
file_taken stands p shown file first next last rows c old new same is are = record {
  records = are.records;
  are =
      is.reads
      ∙ ap (λ n. or_else (pass_err.Bad file) (records_or_bad p c.header n (map shown is.left))) (sym is.next)
      ∙ ap (or_else (pass_err.Bad file)) are.are;
  next_is = omega (arith, same, are.next_is, is.next);
  extends = are.extends;
}

pub file_bad : (p : ScriptPlan) (shown : Row → Row) (file first : ℕ) (rows : List Row) (c : Cutting) (bad : Bad)
    → (is : IsOpened p shown file first rows c) → records_or_bad p c.header c.next_no (map shown is.left) ≡ Err bad
    → row_records p file first (shown_rows shown rows) ≡ Err (pass_err.Bad file bad)
file_bad p shown file first rows c bad is broken =
    is.reads
    ∙ ap (λ n. or_else (pass_err.Bad file) (records_or_bad p c.header n (map shown is.left))) (sym is.next)
    ∙ ap (or_else (pass_err.Bad file)) broken

-- What a file came to, by the script, the limit and what is shown as they were.
pub file_as : {S A : Type 0} (stands : S → ScriptPlan → ℕ → List Record → Type 0) (p q : ScriptPlan) (n m : ℕ) (f g : Row → Row) (file first next : ℕ) (rows : List Row)
    (old new : S) (r : Result A PassErr) → p ≡ q → n ≡ m → f ≡ g
    → TakesFile (stands_by stands p n) (row_records p file first (shown_rows f rows)) first next old new r
    → TakesFile (stands_by stands q m) (row_records q file first (shown_rows g rows)) first next old new r
file_as stands p q n m f g file first next rows old new r plan limit shown takes =
    let P : ScriptPlan → Type 0 = λ x. TakesFile (stands_by stands x n) (row_records x file first (shown_rows f rows)) first next old new r in
    let N : ℕ → Type 0 = λ x. TakesFile (stands_by stands q x) (row_records q file first (shown_rows f rows)) first next old new r in
    let F : (Row → Row) → Type 0 = λ x. TakesFile (stands_by stands q m) (row_records q file first (shown_rows x rows)) first next old new r in
    subst F shown (subst N limit (subst P plan takes))

-- A file that isn't opened isn't taken.
pub head_stops : {S : Type 0} (stands : S → List Record → Type 0) (p : ScriptPlan) (shown : Row → Row) (file first last : ℕ) (rows : List Row) (old new : S) (why : PassErr)
    → OpensFile p shown file first rows (Err why) → TakesFile {A = Unit {0}} stands (row_records p file first (shown_rows shown rows)) first last old new (Err why)
head_stops stands p shown file first last rows old new (pass_err.Read n) stops = stops
head_stops stands p shown file first last rows old new (pass_err.TooLarge n) stops = stops
head_stops stands p shown file first last rows old new (pass_err.Head n fault) stops = stops
head_stops stands p shown file first last rows old new (pass_err.Bad n bad) stops = absurd stops
head_stops stands p shown file first last rows old new pass_err.NoMemory stops = tt
