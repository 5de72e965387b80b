-- The columns of a script's fields, by a file's header.
use Rattle.std.specs.Prelude.{◌≡◌, ◌≢◌, ◌<◌, ℕ, ◌+◌, nat_eq, List, [], ◌∷◌, drop, Option, Some, None, Result, Ok, Err, slice_get, if◌then◌else◌}
use Rattle.std.specs.Cmp.Lexicographic.{pointwise}
use Rattle.sym_check.specs.declared.plan.script.FieldPlan.{FieldPlan}
use Rattle.sym_check.specs.Meaning.Arithmetic.{◌>>=◌}
use Rattle.sym_table.specs.declared.header.HeadFault.{HeadFault}
use Rattle.sym_table.specs.declared.header.HeadFault.TheVariants as head

-- The column with this text, and the only one.
pub record HasColumn (row : List (List ℕ)) (text : List ℕ) (place : ℕ) : Type 0 where
  pub named : slice_get row place ≡ Some text
  pub only : (k : ℕ) → slice_get row k ≡ Some text → k ≡ place

-- No column has this text.
abbrev pub HasNoColumn : List (List ℕ) → List ℕ → Type 0
HasNoColumn row text = (k : ℕ) → slice_get row k ≢ Some text

-- Two columns have this text.
pub record HasTwoColumns (row : List (List ℕ)) (text : List ℕ) : Type 0 where
  pub one : ℕ
  pub other : ℕ
  pub apart : one < other
  pub named : slice_get row one ≡ Some text
  pub again : slice_get row other ≡ Some text

-- Each field has its column.
pub data AreColumns (row : List (List ℕ)) : List FieldPlan → List ℕ → Type 0 where
  no_field : AreColumns row [] []
  one_more : (f : FieldPlan) (fields : List FieldPlan) (place : ℕ) (places : List ℕ)
      → HasColumn row f.header place
      → AreColumns row fields places
      → AreColumns row (f ∷ fields) (place ∷ places)

-- A field has no column, or two, and those before it have theirs. The fields are numbered from
-- `which` on.
pub data FirstHeadFault (row : List (List ℕ)) : ℕ → List FieldPlan → HeadFault → Type 0 where
  absent : (which : ℕ) (f : FieldPlan) (fields : List FieldPlan)
      → HasNoColumn row f.header
      → FirstHeadFault row which (f ∷ fields) (head.NoField which)
  twice : (which : ℕ) (f : FieldPlan) (fields : List FieldPlan)
      → HasTwoColumns row f.header
      → FirstHeadFault row which (f ∷ fields) (head.Twice which)
  later : (which : ℕ) (f : FieldPlan) (fields : List FieldPlan) (place : ℕ) (why : HeadFault)
      → HasColumn row f.header place
      → FirstHeadFault row (which + 1) fields why
      → FirstHeadFault row which (f ∷ fields) why

-- The first of these columns that has the text; they are numbered from `at` on.
abbrev pub column_from : ℕ → List (List ℕ) → List ℕ → Option ℕ
column_from at [] text = None
column_from at (c ∷ rest) text =
    if pointwise nat_eq c text then Some at else column_from (at + 1) rest text

abbrev pub unless_again : ℕ → ℕ → Option ℕ → Result ℕ HeadFault
unless_again which place None = Ok place
unless_again which place (Some other) = Err (head.Twice which)

abbrev pub found_column : List (List ℕ) → List ℕ → ℕ → Option ℕ → Result ℕ HeadFault
found_column row text which None = Err (head.NoField which)
found_column row text which (Some place) =
    unless_again which place (column_from (place + 1) (drop (place + 1) row) text)

-- The column of the field with the number `which`, or what is wrong with the header.
abbrev pub column_of : List (List ℕ) → List ℕ → ℕ → Result ℕ HeadFault
column_of row text which = found_column row text which (column_from 0 row text)

-- The columns of the fields, which are numbered from `which` on, or the first fault.
abbrev pub columns_of : List (List ℕ) → ℕ → List FieldPlan → Result (List ℕ) HeadFault
columns_of row which [] = Ok []
columns_of row which (f ∷ fields) = do
  place ← column_of row f.header which
  places ← columns_of row (which + 1) fields
  Ok (place ∷ places)
