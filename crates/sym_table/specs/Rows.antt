-- A row of a file as a record: the value of each field, or the first rule that the row breaks.
use Rattle.std.specs.Prelude.{◌≡◌, ◌≢◌, ◌≤◌, ◌<◌, ℕ, ◌+◌, ◌^◌, ◌==◌, List, [], ◌∷◌, length, Result, Ok, Err, slice_index_or, if◌then◌else◌}
use Rattle.std.specs.List.{All}
use Rattle.sym_base.specs.Limits.{max_fields}
use Rattle.sym_base.specs.declared.limits.TheConstants as limit
use Rattle.sym_base.specs.declared.values.value.Value.{Value}
use Rattle.sym_check.specs.declared.plan.script.EnumPlan.{EnumPlan}
use Rattle.sym_check.specs.declared.plan.script.FieldPlan.{FieldPlan}
use Rattle.sym_check.specs.Meaning.Arithmetic.{◌>>=◌}
use Rattle.sym_check.specs.Plan.WellFormed.{IsEnum}
use Rattle.sym_table.specs.declared.bad.BadCause.{BadCause}
use Rattle.sym_table.specs.declared.bad.BadCause.TheVariants as cause
use Rattle.sym_table.specs.declared.chunk.Chunk.{Chunk}
use Rattle.sym_table.specs.declared.header.Header.{Header}
use Rattle.sym_table.specs.Fields.{IsFieldValue, IsBadField, read_field}

-- There are no more fields than a script may have, and no enum has more labels.
pub record KeepsLimits (enums : List EnumPlan) (fields : List FieldPlan) : Type 0 where
  pub few_fields : length fields ≤ max_fields
  pub few_labels : All IsEnum enums

-- The header has one position for each field, and each is below the header's width.
pub record FitsHeader (fields : List FieldPlan) (header : Header) : Type 0 where
  pub count : length header.places ≡ length fields
  pub places : All (λ place. place < header.columns) header.places

-- The header of the chunk has a position for each field, each below its width; the rows are no more
-- than a chunk may have, and their numbers no greater than a record's may be.
pub record FitsChunk (fields : List FieldPlan) (cut : Chunk) : Type 0 where
  pub header : FitsHeader fields cut.header
  pub number : cut.first_no ≤ 2 ^ 63
  pub few : length cut.rows ≤ limit.CHUNK_MAX

-- The bytes in a column of a row.
abbrev pub column : List (List ℕ) → ℕ → List ℕ
column row place = slice_index_or row place []

-- Each field, from these columns of the row, has its value.
pub data AreFieldValues (enums : List EnumPlan) (row : List (List ℕ))
    : List FieldPlan → List ℕ → List Value → Type 0 where
  no_field : AreFieldValues enums row [] [] []
  one_more : (field : FieldPlan) (fields : List FieldPlan) (place : ℕ) (places : List ℕ)
      (v : Value) (vs : List Value)
      → IsFieldValue enums field (column row place) v
      → AreFieldValues enums row fields places vs
      → AreFieldValues enums row (field ∷ fields) (place ∷ places) (v ∷ vs)

-- A field breaks a rule, and those before it have their values. The fields are numbered from
-- `which` on.
pub data FirstBadField (enums : List EnumPlan) (row : List (List ℕ))
    : ℕ → List FieldPlan → List ℕ → BadCause → Type 0 where
  here : (which : ℕ) (field : FieldPlan) (fields : List FieldPlan) (place : ℕ) (places : List ℕ)
      (why : BadCause)
      → IsBadField enums which field (column row place) why
      → FirstBadField enums row which (field ∷ fields) (place ∷ places) why
  later : (which : ℕ) (field : FieldPlan) (fields : List FieldPlan) (place : ℕ) (places : List ℕ)
      (v : Value) (why : BadCause)
      → IsFieldValue enums field (column row place) v
      → FirstBadField enums row (which + 1) fields places why
      → FirstBadField enums row which (field ∷ fields) (place ∷ places) why

-- The row has a column for each of the header, and these are the values of the fields in it.
pub record HasValues (enums : List EnumPlan) (fields : List FieldPlan) (header : Header)
    (row : List (List ℕ)) (values : List Value) : Type 0 where
  pub width_is : length row ≡ header.columns
  pub have : AreFieldValues enums row fields header.places values

-- The first rule that the row breaks: its width, and then the fields' own in their order.
pub data BreaksRow (enums : List EnumPlan) (fields : List FieldPlan) (header : Header)
    (row : List (List ℕ)) : BadCause → Type 0 where
  other_width : length row ≢ header.columns
      → BreaksRow enums fields header row (cause.Fields (length row))
  in_field : (why : BadCause)
      → length row ≡ header.columns
      → FirstBadField enums row 0 fields header.places why
      → BreaksRow enums fields header row why

-- The values of the fields, which are numbered from `which` on, or the first broken rule.
abbrev pub read_fields : List EnumPlan → List (List ℕ) → ℕ → List FieldPlan → List ℕ
    → Result (List Value) BadCause
read_fields enums row which [] places = Ok []
read_fields enums row which (field ∷ fields) [] = Ok []
read_fields enums row which (field ∷ fields) (place ∷ places) = do
  v ← read_field enums which field (column row place)
  vs ← read_fields enums row (which + 1) fields places
  Ok (v ∷ vs)

-- The values of a row, or the first rule that it breaks.
abbrev pub read_row : List EnumPlan → List FieldPlan → Header → List (List ℕ)
    → Result (List Value) BadCause
read_row enums fields header row =
    if length row == header.columns
    then read_fields enums row 0 fields header.places
    else Err (cause.Fields (length row))
