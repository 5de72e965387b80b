-- The bytes of a field as text.
use Rattle.std.proofs.Common.{◌≡◌, refl, ℕ, Bool, true, false, IsUtf8, List, Err}
use Rattle.std.proofs.lemmas.Str.{IsUtf8-from_is_utf8, is_utf8-from_IsUtf8}
use Rattle.std.specs.Str.{is_utf8}
use Rattle.sym_check.specs.declared.plan.script.EnumPlan.{EnumPlan}
use Rattle.sym_check.specs.declared.plan.script.FieldPlan.{FieldPlan}
use Rattle.sym_table.specs.declared.bad.BadCause.TheVariants as cause
use Rattle.sym_table.specs.Fields.{text_of, read_text, read_field}

not_utf8 : (bytes : List ℕ) (b : Bool) → is_utf8 bytes ≡ b → ¬ (IsUtf8 bytes) → is_utf8 bytes ≡ false
not_utf8 bytes true e h = absurd (h (IsUtf8-from_is_utf8 bytes e))
not_utf8 bytes false e h = e

pub is_text : (enums : List EnumPlan) (which : ℕ) (field : FieldPlan) (bytes : List ℕ) → IsUtf8 bytes
    → read_field enums which field bytes ≡ read_text enums which field (text_of field.kind bytes)
is_text enums which field bytes h = rw (is_utf8-from_IsUtf8 bytes h) refl

pub is_no_text : (enums : List EnumPlan) (which : ℕ) (field : FieldPlan) (bytes : List ℕ) → ¬ (IsUtf8 bytes)
    → read_field enums which field bytes ≡ Err (cause.Utf8 which)
is_no_text enums which field bytes h = rw (not_utf8 bytes (is_utf8 bytes) refl h) refl
