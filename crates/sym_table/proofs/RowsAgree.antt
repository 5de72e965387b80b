-- What a row's fields read, as a function and as relations.
use Rattle.std.proofs.Common.{◌≡◌, ◌≢◌, ◌↔◌, refl, ℕ, ◌+◌, ◌==◌, arith, Bool, true, false, List, [], ◌∷◌, length, Result, Ok, Err, MatchResult, if◌then◌else◌}
use Rattle.std.proofs.lemmas.Bool.Decides.{Decides-eqb}
use Rattle.sym_base.specs.declared.values.value.Value.{Value}
use Rattle.sym_check.specs.declared.plan.script.EnumPlan.{EnumPlan}
use Rattle.sym_check.specs.declared.plan.script.FieldPlan.{FieldPlan}
use Rattle.sym_check.specs.Meaning.Arithmetic.{and_then}
use Rattle.sym_table.specs.declared.bad.BadCause.{BadCause}
use Rattle.sym_table.specs.declared.bad.BadCause.TheVariants as cause
use Rattle.sym_table.specs.declared.header.Header.{Header}
use Rattle.sym_table.specs.Fields.{IsFieldValue, IsBadField, read_field}
use Rattle.sym_table.specs.Rows.{column, AreFieldValues, FirstBadField, HasValues, BreaksRow, read_fields, read_row}
use Rattle.sym_table.specs.Rows as rows
use Rattle.sym_table.proofs.FieldsAgree.{field_holds, value_read, fault_read}

-- One field, and then the others.
more_hold : (enums : List EnumPlan) (row : List (List ℕ)) (which : ℕ) (f : FieldPlan) (fields : List FieldPlan) (place : ℕ) (places : List ℕ)
    (first : Result Value BadCause) (rest : Result (List Value) BadCause)
    → MatchResult first (IsFieldValue enums f (column row place)) (IsBadField enums which f (column row place))
    → MatchResult rest (AreFieldValues enums row fields places) (FirstBadField enums row (which + 1) fields places)
    → MatchResult (and_then (λ v. and_then (λ vs. Ok (v ∷ vs)) rest) first) (AreFieldValues enums row (f ∷ fields) (place ∷ places)) (FirstBadField enums row which (f ∷ fields) (place ∷ places))
more_hold enums row which f fields place places (Ok v) (Ok vs) is are = rows.one_more f fields place places v vs is are
more_hold enums row which f fields place places (Ok v) (Err why) is broken = rows.later which f fields place places v why is broken
more_hold enums row which f fields place places (Err why) rest broken others = rows.here which f fields place places why broken

fields_hold : (enums : List EnumPlan) (row : List (List ℕ)) (which : ℕ) (fields : List FieldPlan) (places : List ℕ) → length places ≡ length fields
    → MatchResult (read_fields enums row which fields places) (AreFieldValues enums row fields places) (FirstBadField enums row which fields places)
fields_hold enums row which [] [] l = rows.no_field
fields_hold enums row which [] (place ∷ places) l = absurd (omega (arith, l))
fields_hold enums row which (f ∷ fields) [] l = absurd (omega (arith, l))
fields_hold enums row which (f ∷ fields) (place ∷ places) l =
    more_hold enums row which f fields place places (read_field enums which f (column row place)) (read_fields enums row (which + 1) fields places)
    (field_holds enums which f (column row place)) (fields_hold enums row (which + 1) fields places (omega (arith, l)))

values_read : (enums : List EnumPlan) (row : List (List ℕ)) (which : ℕ) (fields : List FieldPlan) (places : List ℕ) (values : List Value)
    → AreFieldValues enums row fields places values → read_fields enums row which fields places ≡ Ok values
values_read enums row which _ _ _ rows.no_field = refl
values_read enums row which _ _ _ (rows.one_more f fields place places v vs is are) =
    rw (value_read enums which f (column row place) v is, values_read enums row (which + 1) fields places vs are) refl

broken_read : (enums : List EnumPlan) (row : List (List ℕ)) (which : ℕ) (fields : List FieldPlan) (places : List ℕ) (why : BadCause)
    → FirstBadField enums row which fields places why → read_fields enums row which fields places ≡ Err why
broken_read enums row _ _ _ _ (rows.here which f fields place places why breaks) =
    rw (fault_read enums which f (column row place) why breaks) refl
broken_read enums row _ _ _ _ (rows.later which f fields place places v why is after) =
    rw (value_read enums which f (column row place) v is, broken_read enums row (which + 1) fields places why after) refl

in_width : (enums : List EnumPlan) (fields : List FieldPlan) (header : Header) (row : List (List ℕ)) (r : Result (List Value) BadCause)
    → length row ≡ header.columns → MatchResult r (AreFieldValues enums row fields header.places) (FirstBadField enums row 0 fields header.places)
    → MatchResult r (HasValues enums fields header row) (BreaksRow enums fields header row)
in_width enums fields header row (Ok values) e are = record { width_is = e; have = are }
in_width enums fields header row (Err why) e broken = rows.in_field why e broken

row_go : (enums : List EnumPlan) (fields : List FieldPlan) (header : Header) (row : List (List ℕ)) (b : Bool)
    → (length row == header.columns) ≡ b → length header.places ≡ length fields
    → MatchResult (if b then read_fields enums row 0 fields header.places else Err (cause.Fields (length row))) (HasValues enums fields header row) (BreaksRow enums fields header row)
row_go enums fields header row true e l =
    in_width enums fields header row (read_fields enums row 0 fields header.places)
    ((Decides-eqb (length row) header.columns).0 e) (fields_hold enums row 0 fields header.places l)
row_go enums fields header row false e l =
    rows.other_width (λ same. let yes = (Decides-eqb (length row) header.columns).1 same in cc (e, yes))

pub row_holds : (enums : List EnumPlan) (fields : List FieldPlan) (header : Header) (row : List (List ℕ)) → length header.places ≡ length fields
    → MatchResult (read_row enums fields header row) (HasValues enums fields header row) (BreaksRow enums fields header row)
row_holds enums fields header row l = row_go enums fields header row (length row == header.columns) refl l

pub values_answered : (enums : List EnumPlan) (fields : List FieldPlan) (header : Header) (row : List (List ℕ)) (values : List Value)
    → HasValues enums fields header row values → read_row enums fields header row ≡ Ok values
values_answered enums fields header row values has =
    rw ((Decides-eqb (length row) header.columns).1 has.width_is) (values_read enums row 0 fields header.places values has.have)

no_width : (m n : ℕ) (b : Bool) → (m == n) ≡ b → m ≢ n → (m == n) ≡ false
no_width m n true e h = absurd (h ((Decides-eqb m n).0 e))
no_width m n false e h = e

pub fault_answered : (enums : List EnumPlan) (fields : List FieldPlan) (header : Header) (row : List (List ℕ)) (why : BadCause)
    → BreaksRow enums fields header row why → read_row enums fields header row ≡ Err why
fault_answered enums fields header row _ (rows.other_width h) =
    rw (no_width (length row) header.columns (length row == header.columns) refl h) refl
fault_answered enums fields header row _ (rows.in_field why e broken) =
    rw ((Decides-eqb (length row) header.columns).1 e) (broken_read enums row 0 fields header.places why broken)

-- Both ways, in one.
pub row_values : (enums : List EnumPlan) (fields : List FieldPlan) (header : Header) (row : List (List ℕ)) (values : List Value) → length header.places ≡ length fields
    → HasValues enums fields header row values ↔ (read_row enums fields header row ≡ Ok values)
row_values enums fields header row values l =
    (values_answered enums fields header row values, λ e. rw e at (row_holds enums fields header row l))

pub row_fault : (enums : List EnumPlan) (fields : List FieldPlan) (header : Header) (row : List (List ℕ)) (why : BadCause) → length header.places ≡ length fields
    → BreaksRow enums fields header row why ↔ (read_row enums fields header row ≡ Err why)
row_fault enums fields header row why l =
    (fault_answered enums fields header row why, λ e. rw e at (row_holds enums fields header row l))
