-- The header by the first row, as a function and as relations.
use Rattle.std.proofs.Common.{◌≡◌, refl, sym, ap, ℕ, arith, List, length, Result, Ok, Err, MatchResult}
use Rattle.sym_check.specs.declared.plan.script.FieldPlan.{FieldPlan}
use Rattle.sym_check.specs.Meaning.Arithmetic.{and_then}
use Rattle.sym_check.specs.Plan.ScriptPlans.{ScriptPlan}
use Rattle.sym_table.specs.declared.header.Header.{Header}
use Rattle.sym_table.specs.declared.header.HeadFault.{HeadFault}
use Rattle.sym_table.specs.Headers.{AreColumns, FirstHeadFault, columns_of}
use Rattle.sym_table.specs.Headers as headers
use Rattle.sym_table.specs.Reading.{Row}
use Rattle.sym_table.proofs.HeadersAgree.{header_columns, header_fault}
use Rattle.sym_files.specs.FileRecords.{IsHeader, header_of}

header_go : (p : ScriptPlan) (row : Row) (r : Result (List ℕ) HeadFault) → columns_of row 0 p.fields ≡ r
    → MatchResult (and_then (λ places. Ok (record { places = places; columns = length row })) r) (IsHeader p row) (FirstHeadFault row 0 p.fields)
header_go p row (Ok places) e = record { have = (header_columns p.fields row places).1 e; width = refl }
header_go p row (Err fault) e = (header_fault p.fields row fault).1 e

pub header_holds : (p : ScriptPlan) (row : Row) → MatchResult (header_of p row) (IsHeader p row) (FirstHeadFault row 0 p.fields)
header_holds p row = header_go p row (columns_of row 0 p.fields) refl

pub header_answered : (p : ScriptPlan) (row : Row) (header : Header) → IsHeader p row header → header_of p row ≡ Ok header
header_answered p row header is =
    rw ((header_columns p.fields row header.places).0 is.have)
    (ap (λ n. Ok (record { places = header.places; columns = n })) (sym is.width))

pub head_answered : (p : ScriptPlan) (row : Row) (fault : HeadFault) → FirstHeadFault row 0 p.fields fault → header_of p row ≡ Err fault
head_answered p row fault is = rw ((header_fault p.fields row fault).0 is) refl

-- There is a place for each field.
pub places_count : (row : Row) (fields : List FieldPlan) (places : List ℕ) → AreColumns row fields places → length places ≡ length fields
places_count row _ _ headers.no_field = refl
places_count row _ _ (headers.one_more f fields place places is are) =
    let more = places_count row fields places are in omega (arith, more)
