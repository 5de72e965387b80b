-- The fields of a row, one after the other.
use Rattle.std.proofs.Common.{◌≡◌, refl, sym, ap, ℕ, ◌+◌, ◌<◌, ◌≤◌, arith, List, [], ◌∷◌, ◌++◌, length, take, drop, get_or, set, Result, Ok, Err, append_assoc}
use Rattle.std.proofs.lemmas.List.{drop_more, take_more_set, drop_all, take_all, append-nil}
use Rattle.sym_base.specs.declared.values.value.Value.{Value}
use Rattle.sym_check.specs.declared.plan.script.EnumPlan.{EnumPlan}
use Rattle.sym_check.specs.declared.plan.script.FieldPlan.{FieldPlan}
use Rattle.sym_check.specs.Meaning.Arithmetic.{and_then}
use Rattle.sym_table.specs.declared.bad.BadCause.{BadCause}
use Rattle.sym_table.specs.Fields.{read_field}
use Rattle.sym_table.specs.Rows.{column, read_fields}

-- These values, and then those that are found.
abbrev pub with_values : List Value → Result (List Value) BadCause → Result (List Value) BadCause
with_values vs found = and_then (λ rest. Ok (vs ++ rest)) found

more_values : (vs : List Value) (v : Value) (found : Result (List Value) BadCause)
    → with_values vs (and_then (λ rest. Ok (v ∷ rest)) found) ≡ with_values (vs ++ v ∷ []) found
more_values vs v (Ok rest) = ap Ok (sym (append_assoc vs (v ∷ []) rest))
more_values vs v (Err why) = refl

-- The field with the number i has its value.
pub one_field_more : (enums : List EnumPlan) (row : List (List ℕ)) (fields : List FieldPlan) (places : List ℕ) (values : List Value) (i : ℕ) (f : FieldPlan) (v : Value)
    → i < length fields → length places ≡ length fields → length values ≡ length fields
    → read_field enums i (get_or fields i f) (column row (get_or places i 0)) ≡ Ok v
    → with_values (take i values) (read_fields enums row i (drop i fields) (drop i places))
    ≡ with_values (take (i + 1) (set values i v)) (read_fields enums row (i + 1) (drop (i + 1) fields) (drop (i + 1) places))
one_field_more enums row fields places values i f v h p l e =
    rw (drop_more fields i f h, drop_more places i 0 (omega arith), e, take_more_set values i v (omega arith))
    (more_values (take i values) v (read_fields enums row (i + 1) (drop (i + 1) fields) (drop (i + 1) places)))

-- It breaks a rule.
pub broken_field : (enums : List EnumPlan) (row : List (List ℕ)) (fields : List FieldPlan) (places : List ℕ) (values : List Value) (i : ℕ) (f : FieldPlan) (why : BadCause)
    → i < length fields → length places ≡ length fields
    → read_field enums i (get_or fields i f) (column row (get_or places i 0)) ≡ Err why
    → with_values (take i values) (read_fields enums row i (drop i fields) (drop i places)) ≡ Err why
broken_field enums row fields places values i f why h p e =
    rw (drop_more fields i f h, drop_more places i 0 (omega arith), e) refl

-- All have their values.
pub all_fields : (enums : List EnumPlan) (row : List (List ℕ)) (fields : List FieldPlan) (places : List ℕ) (values : List Value) (i : ℕ)
    → length fields ≤ i → length values ≡ length fields
    → with_values (take i values) (read_fields enums row i (drop i fields) (drop i places)) ≡ Ok values
all_fields enums row fields places values i h l =
    rw (drop_all i fields h, take_all i values (omega arith)) (ap Ok (append-nil values))
