-- Whether rows may differ in length is nothing that the text of a row depends on.
use Rattle.std.proofs.Common.{◌≡◌, ℕ, ◌==◌, List, [], ◌∷◌, ◌++◌, length, if◌then◌else◌}
use Rattle.std.proofs.Common.{refl, ap, ap₂}
use Rattle.csv.specs.Writing.{default_writer, by_style, needs_quotes, escaped, field_text}
use Rattle.csv.specs.Writing.{fields_text, is_blank, row_body, row_text, end_text}
use Rattle.sym_report.specs.Pages.{page_setup}

escaped_same : (field : List ℕ) → escaped page_setup field ≡ escaped default_writer field
unfolding escaped
escaped_same [] = refl
escaped_same (b ∷ rest) =
    ap (λ text. if b == 34 then 34 ∷ b ∷ text else b ∷ text) (escaped_same rest)

field_same : (field : List ℕ) → field_text page_setup field ≡ field_text default_writer field
field_same field =
    ap
    (λ text.
    if by_style default_writer.style (needs_quotes default_writer field)
    then 34 ∷ (text ++ 34 ∷ []) else field)
    (escaped_same field)

fields_same :
    (fields : List (List ℕ)) → fields_text page_setup fields ≡ fields_text default_writer fields
unfolding fields_text
fields_same [] = refl
fields_same (field ∷ rest) =
    ap₂ (λ text more. 44 ∷ (text ++ more)) (field_same field) (fields_same rest)

body_same : (fields : List (List ℕ)) → row_body page_setup fields ≡ row_body default_writer fields
body_same [] = refl
body_same (field ∷ rest) = ap₂ (λ text more. text ++ more) (field_same field) (fields_same rest)

blank_same : (fields : List (List ℕ)) → is_blank page_setup fields ≡ is_blank default_writer fields
unfolding is_blank
blank_same [] = refl
blank_same (field ∷ []) = ap (λ text. length text == 0) (field_same field)
blank_same (field ∷ next ∷ rest) = refl

pub row_same :
    (fields : List (List ℕ)) → row_text page_setup fields ≡ row_text default_writer fields
row_same fields =
    ap₂
    (λ text blank.
    text ++ ((if blank then 34 ∷ 34 ∷ [] else []) ++ end_text default_writer.terminator))
    (body_same fields) (blank_same fields)
