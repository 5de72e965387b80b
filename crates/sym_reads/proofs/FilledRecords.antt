-- Blank records, and records with the values of another one in some fields.
use Rattle.std.proofs.Common.{◌≡◌, refl, sym, ap, subst, ℕ, zero, suc, ◌<◌, Bool, true, false, List, [], ◌∷◌, length, map, Some, slice_get, arith}
use Rattle.std.specs.List.{All}
use Rattle.sym_base.specs.declared.values.value.Value.{Value}
use Rattle.sym_base.specs.declared.values.record.Record.{Record}
use Rattle.sym_base.specs.declared.values.state.Outcome.{Outcome}
use Rattle.sym_check.specs.declared.plan.script.EnumPlan.{EnumPlan}
use Rattle.sym_check.specs.declared.plan.script.FieldPlan.{FieldPlan}
use Rattle.sym_check.specs.declared.plan.script.KindPlan.{KindPlan}
use Rattle.sym_check.specs.declared.plan.script.KindPlan.TheVariants as kind
use Rattle.sym_check.specs.Meaning.Groups.{field_value}
use Rattle.sym_check.specs.Meaning.Updates.{step}
use Rattle.sym_check.specs.Meaning.Validity.{label_count, IsOfKind, AreOfKinds, field_kinds, IsRecord}
use Rattle.sym_check.specs.Plan.ScriptPlans.{ScriptPlan}
use Rattle.sym_check.specs.Plan.WellFormed.{IsKind, IsEnum, IsField, IsWellFormed}
use Rattle.sym_reads.specs.Agreement.{AgreeOnRead, HasReadMarked, kinds_of, blank_value, blank_record, where_marked, with_marked_of}
use Rattle.sym_reads.proofs.SameSteps.{step_same}

-- An enum has a first label.
some_label : (enums : List EnumPlan) (enum : ℕ) → All IsEnum enums → enum < length enums → 0 < label_count enums enum
some_label [] enum h lt = absurd (omega arith)
some_label (e ∷ enums) zero h lt = let first : IsEnum e = h 0 e (omega arith) in let many = first.0 in omega arith
some_label (e ∷ enums) (suc enum) h lt = some_label enums enum (λ i d below. h (suc i) d (omega arith)) (omega arith)

blank_fits : (enums : List EnumPlan) (k : KindPlan) → All IsEnum enums → IsKind enums k → IsOfKind enums k (blank_value k)
blank_fits enums kind.Num h t = omega arith
blank_fits enums kind.Word h t = tt
blank_fits enums (kind.Label enum) h t = some_label enums enum h t

blanks_fit : (enums : List EnumPlan) (fields : List FieldPlan) → All IsEnum enums → All (IsField enums) fields → AreOfKinds enums (map (λ (f : FieldPlan). f.kind) fields) (map blank_value (map (λ (f : FieldPlan). f.kind) fields))
blanks_fit enums [] h w = tt
blanks_fit enums (f ∷ fields) h w =
    let first : IsField enums f = w 0 f (omega arith) in
    (blank_fits enums f.kind h first.kind, blanks_fit enums fields h (λ i d lt. w (suc i) d (omega arith)))

pub blank_is_record : (p : ScriptPlan) (number : ℕ) → IsWellFormed p → IsRecord p (blank_record p number)
blank_is_record p number w = blanks_fit p.enums p.fields w.enums w.fields

pub blank_values_fit : (p q : ScriptPlan) (values : List Value) → IsWellFormed p → p ≡ q → values ≡ map blank_value (kinds_of p.fields) → AreOfKinds q.enums (field_kinds q) values
blank_values_fit p q values w same e =
    let P : List Value → Type 0 = AreOfKinds p.enums (field_kinds p) in
    let Q : ScriptPlan → Type 0 = λ s. AreOfKinds s.enums (field_kinds s) values in
    subst Q same (subst P (sym e) (blanks_fit p.enums p.fields w.enums w.fields))

-- Values of two lists of these kinds, chosen by marks, are of these kinds.
marked_fit : (enums : List EnumPlan) (marks : List Bool) (kinds : List KindPlan) (others values : List Value) → AreOfKinds enums kinds others → AreOfKinds enums kinds values → AreOfKinds enums kinds (where_marked marks others values)
marked_fit enums [] kinds others values h k = k
marked_fit enums (mark ∷ marks) [] [] values h k = k
marked_fit enums (mark ∷ marks) [] (x ∷ others) values h k = absurd h
marked_fit enums (mark ∷ marks) (kd ∷ kinds) [] values h k = absurd h
marked_fit enums (mark ∷ marks) (kd ∷ kinds) (x ∷ others) [] h k = absurd k
marked_fit enums (true ∷ marks) (kd ∷ kinds) (x ∷ others) (y ∷ values) h k = (h.0, marked_fit enums marks kinds others values h.1 k.1)
marked_fit enums (false ∷ marks) (kd ∷ kinds) (x ∷ others) (y ∷ values) h k = (k.0, marked_fit enums marks kinds others values h.1 k.1)

pub marked_is_record : (p : ScriptPlan) (from rec : Record) (marks : List Bool) → IsRecord p from → IsRecord p rec → IsRecord p (with_marked_of from marks rec)
marked_is_record p from rec marks h k = marked_fit p.enums marks (field_kinds p) from.fields rec.fields h k

same_lengths : (enums : List EnumPlan) (kinds : List KindPlan) (xs ys : List Value) → AreOfKinds enums kinds xs → AreOfKinds enums kinds ys → length xs ≡ length ys
same_lengths enums [] [] [] h k = refl
same_lengths enums [] [] (y ∷ ys) h k = absurd k
same_lengths enums [] (x ∷ xs) ys h k = absurd h
same_lengths enums (kd ∷ kinds) [] ys h k = absurd h
same_lengths enums (kd ∷ kinds) (x ∷ xs) [] h k = absurd k
same_lengths enums (kd ∷ kinds) (x ∷ xs) (y ∷ ys) h k = ap suc (same_lengths enums kinds xs ys h.1 k.1)

-- Where there is a mark, the value is that of the other list.
marked_value : (marks : List Bool) (others values : List Value) (i : ℕ) → length values ≡ length others → slice_get marks i ≡ Some true → field_value (slice_get (where_marked marks others values) i) ≡ field_value (slice_get others i)
marked_value [] others values i same e = absurd (cc)
marked_value (mark ∷ marks) [] [] i same e = refl
marked_value (mark ∷ marks) [] (y ∷ values) i same e = absurd (omega arith)
marked_value (mark ∷ marks) (x ∷ others) [] i same e = absurd (omega arith)
marked_value (true ∷ marks) (x ∷ others) (y ∷ values) zero same e = refl
marked_value (false ∷ marks) (x ∷ others) (y ∷ values) zero same e = absurd (cc)
marked_value (mark ∷ marks) (x ∷ others) (y ∷ values) (suc i) same e = marked_value marks others values i (omega arith) e

pub marked_agrees : (p : ScriptPlan) (from rec : Record) (marks : List Bool) → IsRecord p from → IsRecord p rec → HasReadMarked p marks → AgreeOnRead p (with_marked_of from marks rec) from
marked_agrees p from rec marks h k all i named = marked_value marks from.fields rec.fields i (same_lengths p.enums (field_kinds p) rec.fields from.fields k h) (all i named)

-- A blank record with the values that are read does what the record does.
pub marked_steps : (p : ScriptPlan) (rec : Record) (marks : List Bool) (o : Outcome) → IsWellFormed p → IsRecord p rec → HasReadMarked p marks → step p o (with_marked_of rec marks (blank_record p rec.no)) ≡ step p o rec
marked_steps p rec marks o w h all =
    step_same p (with_marked_of rec marks (blank_record p rec.no)) rec o refl
    (marked_agrees p rec (blank_record p rec.no) marks h (blank_is_record p rec.no w) all)
