-- The values of a row are of the fields' kinds.
use Rattle.std.proofs.Common.{◌≡◌, ◌∙◌, refl, sym, ap, ◌<◌, ℕ, zero, suc, arith, List, [], ◌∷◌, length, map, Option, Some, None, Result, Ok, Err, IfOk, IfNone, slice_get}
use Rattle.std.specs.List.{All}
use Rattle.sym_base.specs.declared.values.memory.NoMemory.{NoMemory}
use Rattle.sym_base.specs.declared.values.record.Record.{Record}
use Rattle.sym_base.specs.declared.values.value.Value.{Value}
use Rattle.sym_check.specs.declared.plan.script.EnumPlan.{EnumPlan}
use Rattle.sym_check.specs.declared.plan.script.FieldPlan.{FieldPlan}
use Rattle.sym_check.specs.Plan.ScriptPlans.{ScriptPlan}
use Rattle.sym_check.specs.Meaning.Validity.{AreOfKinds, IsOfKind, IsRecord, enum_labels, label_count, labels_in, labels_of}
use Rattle.sym_check.specs.Plan.WellFormed.{IsField, IsWellFormed}
use Rattle.sym_table.specs.declared.bad.Bad.{Bad}
use Rattle.sym_table.specs.declared.bad.BadCause.{BadCause}
use Rattle.sym_table.specs.declared.bad.Decoded.TheVariants as decoded
use Rattle.sym_table.specs.declared.header.Header.{Header}
use Rattle.sym_table.specs.Decoding.{Fills, numbered}
use Rattle.sym_table.specs.Fields.{IsFieldValue}
use Rattle.sym_table.specs.Fields as fields
use Rattle.sym_table.specs.Rows.{AreFieldValues, HasValues, column, read_row}
use Rattle.sym_table.specs.Rows as rows
use Rattle.sym_table.proofs.RowsAgree.{row_values}

labels_counted : (enum : Option EnumPlan) → length (labels_of enum) ≡ labels_in enum
labels_counted None = refl
labels_counted (Some enum) = refl

named_below : (labels : List (List ℕ)) (l : ℕ) (text : List ℕ) → slice_get labels l ≡ Some text → l < length labels
named_below [] l text e = cc e
named_below (x ∷ labels) zero text e = omega arith
named_below (x ∷ labels) (suc l) text e = let below = named_below labels l text e in omega arith

label_below : (enums : List EnumPlan) (enum l : ℕ) (text : List ℕ) → slice_get (enum_labels enums enum) l ≡ Some text → l < label_count enums enum
label_below enums enum l text e =
    let below = named_below (enum_labels enums enum) l text e in
    let count = labels_counted (slice_get enums enum) in
    omega arith

value_is_of_kind : (enums : List EnumPlan) (f : FieldPlan) (bytes : List ℕ) (v : Value) → IsField enums f → IsFieldValue enums f bytes v → IsOfKind enums f.kind v
value_is_of_kind enums f bytes _ is (fields.empty v utf8 empty default) = rw default at is.empty
value_is_of_kind enums f bytes _ is (fields.number x k read says) = rw k says.in_range
value_is_of_kind enums f bytes _ is (fields.word k read) = rw k tt
value_is_of_kind enums f bytes _ is (fields.label enum l k read says) =
    rw k (label_below enums enum l _ says.named)

values_are_of_kinds : (enums : List EnumPlan) (row : List (List ℕ)) (fs : List FieldPlan) (places : List ℕ) (values : List Value)
    → All (IsField enums) fs → AreFieldValues enums row fs places values → AreOfKinds enums (map (λ (f : FieldPlan). f.kind) fs) values
values_are_of_kinds enums row _ _ _ all rows.no_field = tt
values_are_of_kinds enums row _ _ _ all (rows.one_more f fs place places v vs is are) = (
  value_is_of_kind enums f (column row place) v (all 0 f (omega arith)) is,
  values_are_of_kinds enums row fs places vs (λ i d lt. all (suc i) d (omega arith)) are,
)

-- The values of a row are those of a record of the script.
pub row_is_record : (p : ScriptPlan) (header : Header) (row : List (List ℕ)) (n : ℕ) (values : List Value) → IsWellFormed p
    → HasValues p.enums p.fields header row values → IsRecord p (record { no = n; fields = values })
row_is_record p header row n values formed has =
    values_are_of_kinds p.enums row p.fields header.places values formed.fields has.have

record_fits : (p : ScriptPlan) (header : Header) (row : List (List ℕ)) (n : ℕ) (rec : Record) (r : Result (List Value) BadCause)
    → IsWellFormed p → length header.places ≡ length p.fields
    → read_row p.enums p.fields header row ≡ r → numbered n r ≡ decoded.Is rec → IsRecord p rec
record_fits p header row n rec (Ok values) formed count read same =
    let has = (row_values p.enums p.fields header row values count).1 read in
    let fit = values_are_of_kinds p.enums row p.fields header.places values formed.fields has.have in
    let is : values ≡ rec.fields = cc same in
    rw (← is) fit
record_fits p header row n rec (Err why) formed count read same = cc same

filled_fits : (p : ScriptPlan) (header : Header) (row : List (List ℕ)) (n : ℕ) (bad : Option Bad) (rec : Record)
    → IsWellFormed p → length header.places ≡ length p.fields
    → Fills bad rec (numbered n (read_row p.enums p.fields header row)) → IfNone bad (IsRecord p rec)
filled_fits p header row n None rec formed count fills =
    record_fits p header row n rec (read_row p.enums p.fields header row) formed count refl fills
filled_fits p header row n (Some bad) rec formed count fills = tt

-- A record that a row is read as fits the script.
pub answer_fits : (p q : ScriptPlan) (header : Header) (row : List (List ℕ)) (n : ℕ) (answer : Result (Option Bad) NoMemory) (rec : Record)
    → p ≡ q → IsWellFormed p → length header.places ≡ length q.fields
    → IfOk answer (λ bad. Fills bad rec (numbered n (read_row p.enums p.fields header row)))
    → IfOk answer (λ bad. IfNone bad (IsRecord q rec))
answer_fits p q header row n (Ok bad) rec same formed count fills =
    let there : length header.places ≡ length p.fields = count ∙ ap (λ (r : ScriptPlan). length r.fields) (sym same) in
    rw (← same) (filled_fits p header row n bad rec formed there fills)
answer_fits p q header row n (Err e) rec same formed count fills = tt
