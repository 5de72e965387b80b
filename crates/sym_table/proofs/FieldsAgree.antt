-- What a field reads, as a function and as relations.
use Rattle.std.proofs.Common.{◌≡◌, ◌≢◌, ◌⊎◌, ◌∙◌, refl, ap, inl, inr, ℕ, ℤ, Bool, true, false, IsUtf8, List, [], ◌∷◌, Option, Some, None, Ok, Err, MatchResult, option_map, if◌then◌else◌}
use Rattle.std.proofs.lemmas.Str.{IsUtf8-from_is_utf8, is_utf8-from_IsUtf8}
use Rattle.std.specs.Option.{ok_or}
use Rattle.std.specs.Str.{is_utf8}
use Rattle.sym_base.specs.declared.values.value.Value.{Value}
use Rattle.sym_base.specs.declared.values.value.Value.TheVariants as value
use Rattle.sym_check.specs.declared.plan.script.EnumPlan.{EnumPlan}
use Rattle.sym_check.specs.declared.plan.script.KindPlan.{KindPlan}
use Rattle.sym_check.specs.declared.plan.script.KindPlan.TheVariants as kind
use Rattle.sym_check.specs.declared.plan.script.FieldPlan.{FieldPlan}
use Rattle.sym_table.specs.declared.bad.BadCause.{BadCause}
use Rattle.sym_table.specs.declared.bad.BadCause.TheVariants as cause
use Rattle.sym_check.specs.Meaning.Validity.{enum_labels}
use Rattle.sym_table.specs.Fields.{text_of, IsRead, IsFieldValue, IsBadField, default_for, value_in, unless_given, read_text, read_field}
use Rattle.sym_table.specs.Fields as fields
use Rattle.sym_table.specs.Texts.{without_blanks, SaysNumber, number_in, SaysLabel, label_in}
use Rattle.sym_table.proofs.FieldFacts.{is_text, is_no_text}
use Rattle.sym_table.proofs.Said.{number_said, said_number, label_said, said_label}

-- An empty text takes the value after `else`.
default_taken : (default : Option Value) (text : List ℕ) (v : Value) → default_for default text ≡ Some v → (text ≡ []) × (default ≡ Some v)
default_taken default [] v e = (refl, e)
default_taken default (b ∷ rest) v e = cc e

default_left : (default : Option Value) (text : List ℕ) → default_for default text ≡ None → (text ≢ []) ⊎ (default ≡ None)
default_left default [] e = inr e
default_left default (b ∷ rest) e = inl (λ same. cc same)

no_default : (default : Option Value) (text : List ℕ) → (text ≢ []) ⊎ (default ≡ None) → default_for default text ≡ None
no_default default [] (inl h) = absurd (h refl)
no_default default [] (inr e) = e
no_default default (b ∷ rest) h = refl

no_x : (text : List ℕ) (x : ℤ) → number_in text ≡ None → SaysNumber text x → ⊥
no_x text x e says = let found = said_number text x says in cc (e, found)

no_l : (labels : List (List ℕ)) (text : List ℕ) (l : ℕ) → label_in labels text ≡ None → SaysLabel labels text l → ⊥
no_l labels text l e says = let found = said_label labels text l says in cc (e, found)

number_holds : (enums : List EnumPlan) (which : ℕ) (field : FieldPlan) (bytes : List ℕ) (o : Option ℤ)
    → field.kind ≡ kind.Num → IsRead field bytes → number_in (without_blanks bytes) ≡ o
    → MatchResult (ok_or (option_map value.Num o) (cause.Number which)) (IsFieldValue enums field bytes) (IsBadField enums which field bytes)
number_holds enums which field bytes None k read e =
    fields.no_number k read (λ x says. no_x (without_blanks bytes) x e says)
number_holds enums which field bytes (Some x) k read e =
    fields.number x k read (number_said (without_blanks bytes) x e)

label_holds : (enums : List EnumPlan) (which : ℕ) (field : FieldPlan) (bytes : List ℕ) (enum : ℕ) (o : Option ℕ)
    → field.kind ≡ kind.Label enum → IsRead field bytes → label_in (enum_labels enums enum) (without_blanks bytes) ≡ o
    → MatchResult (ok_or (option_map value.Label o) (cause.Label which)) (IsFieldValue enums field bytes) (IsBadField enums which field bytes)
label_holds enums which field bytes enum None k read e =
    fields.no_label enum k read (λ l says. no_l (enum_labels enums enum) (without_blanks bytes) l e says)
label_holds enums which field bytes enum (Some l) k read e =
    fields.label enum l k read (label_said (enum_labels enums enum) (without_blanks bytes) l e)

kind_holds : (enums : List EnumPlan) (which : ℕ) (field : FieldPlan) (bytes : List ℕ) (k : KindPlan)
    → field.kind ≡ k → IsRead field bytes
    → MatchResult (value_in enums which k (text_of k bytes)) (IsFieldValue enums field bytes) (IsBadField enums which field bytes)
kind_holds enums which field bytes kind.Num e read =
    number_holds enums which field bytes (number_in (without_blanks bytes)) e read refl
kind_holds enums which field bytes kind.Word e read = fields.word e read
kind_holds enums which field bytes (kind.Label enum) e read =
    label_holds enums which field bytes enum (label_in (enum_labels enums enum) (without_blanks bytes)) e read refl

text_holds : (enums : List EnumPlan) (which : ℕ) (field : FieldPlan) (bytes : List ℕ) (d : Option Value)
    → IsUtf8 bytes → default_for field.default (text_of field.kind bytes) ≡ d
    → MatchResult (unless_given d (value_in enums which field.kind (text_of field.kind bytes))) (IsFieldValue enums field bytes) (IsBadField enums which field bytes)
text_holds enums which field bytes None utf8 e =
    kind_holds enums which field bytes field.kind refl
    (record { utf8 = utf8; given = default_left field.default (text_of field.kind bytes) e })
text_holds enums which field bytes (Some v) utf8 e =
    let taken = default_taken field.default (text_of field.kind bytes) v e in
    fields.empty v utf8 taken.0 taken.1

utf8_holds : (enums : List EnumPlan) (which : ℕ) (field : FieldPlan) (bytes : List ℕ) (b : Bool) → is_utf8 bytes ≡ b
    → MatchResult (if b then read_text enums which field (text_of field.kind bytes) else Err (cause.Utf8 which)) (IsFieldValue enums field bytes) (IsBadField enums which field bytes)
utf8_holds enums which field bytes true e =
    text_holds enums which field bytes (default_for field.default (text_of field.kind bytes)) (IsUtf8-from_is_utf8 bytes e) refl
utf8_holds enums which field bytes false e =
    fields.not_utf8 (λ h. let yes = is_utf8-from_IsUtf8 bytes h in cc (e, yes))

-- What the function answers is so.
pub field_holds : (enums : List EnumPlan) (which : ℕ) (field : FieldPlan) (bytes : List ℕ)
    → MatchResult (read_field enums which field bytes) (IsFieldValue enums field bytes) (IsBadField enums which field bytes)
field_holds enums which field bytes = utf8_holds enums which field bytes (is_utf8 bytes) refl

-- What is so is answered.
given_read : (enums : List EnumPlan) (which : ℕ) (field : FieldPlan) (bytes : List ℕ) (k : KindPlan) → field.kind ≡ k → IsRead field bytes
    → read_field enums which field bytes ≡ value_in enums which k (text_of k bytes)
given_read enums which field bytes k e read =
    is_text enums which field bytes read.utf8
    ∙ ap (λ d. unless_given d (value_in enums which field.kind (text_of field.kind bytes))) (no_default field.default (text_of field.kind bytes) read.given)
    ∙ ap (λ c. value_in enums which c (text_of c bytes)) e

pub value_read : (enums : List EnumPlan) (which : ℕ) (field : FieldPlan) (bytes : List ℕ) (v : Value)
    → IsFieldValue enums field bytes v → read_field enums which field bytes ≡ Ok v
value_read enums which field bytes v (fields.empty _ utf8 empty default) =
    is_text enums which field bytes utf8 ∙ rw (empty, default) refl
value_read enums which field bytes _ (fields.number x k read says) =
    given_read enums which field bytes kind.Num k read
    ∙ rw (said_number (without_blanks bytes) x says) refl
value_read enums which field bytes _ (fields.word k read) = given_read enums which field bytes kind.Word k read
value_read enums which field bytes _ (fields.label enum l k read says) =
    given_read enums which field bytes (kind.Label enum) k read
    ∙ rw (said_label (enum_labels enums enum) (without_blanks bytes) l says) refl

no_number_in : (text : List ℕ) (o : Option ℤ) → number_in text ≡ o → ((x : ℤ) → ¬ (SaysNumber text x)) → number_in text ≡ None
no_number_in text None e h = e
no_number_in text (Some x) e h = absurd (h x (number_said text x e))

no_label_in : (labels : List (List ℕ)) (text : List ℕ) (o : Option ℕ) → label_in labels text ≡ o → ((l : ℕ) → ¬ (SaysLabel labels text l)) → label_in labels text ≡ None
no_label_in labels text None e h = e
no_label_in labels text (Some l) e h = absurd (h l (label_said labels text l e))

pub fault_read : (enums : List EnumPlan) (which : ℕ) (field : FieldPlan) (bytes : List ℕ) (why : BadCause)
    → IsBadField enums which field bytes why → read_field enums which field bytes ≡ Err why
fault_read enums which field bytes _ (fields.not_utf8 h) = is_no_text enums which field bytes h
fault_read enums which field bytes _ (fields.no_number k read none) =
    given_read enums which field bytes kind.Num k read
    ∙ rw (no_number_in (without_blanks bytes) (number_in (without_blanks bytes)) refl none) refl
fault_read enums which field bytes _ (fields.no_label enum k read none) =
    given_read enums which field bytes (kind.Label enum) k read
    ∙ rw (no_label_in (enum_labels enums enum) (without_blanks bytes) (label_in (enum_labels enums enum) (without_blanks bytes)) refl none) refl
