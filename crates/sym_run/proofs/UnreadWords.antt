-- Values without the words that an update doesn't read.
use Rattle.std.proofs.Common.{◌≡◌, ◌∙◌, ◌+◌, ◌<◌, ℕ, zero, suc, ap, sym, refl, arith, get_or, Bool, true, false, List, [], ◌∷◌, length, take, Some, None}
use Rattle.std.proofs.lemmas.Option.{slice_get-get_or}
use Rattle.std.specs.Prelude.{slice_get, slice_set}
use Rattle.sym_base.specs.declared.values.value.Value.{Value}
use Rattle.sym_base.specs.declared.values.value.Value.TheVariants.{Num, Word, Label}
use Rattle.sym_base.specs.declared.values.record.Record.{Record}
use Rattle.sym_check.specs.declared.plan.script.EnumPlan.{EnumPlan}
use Rattle.sym_check.specs.declared.plan.script.KindPlan.{KindPlan}
use Rattle.sym_check.specs.declared.plan.script.KindPlan.TheVariants as kind
use Rattle.sym_check.specs.Meaning.Groups.{field_value}
use Rattle.sym_check.specs.Meaning.Validity.{AreOfKinds, IsOfKind, IsRecord, field_kinds}
use Rattle.sym_check.specs.Plan.ScriptPlans.{ScriptPlan}
use Rattle.sym_reads.specs.Agreement.{HasReadMarked}
use Rattle.sym_reads.proofs.SameSteps.{step_same}
use Rattle.sym_run.specs.Keeping.{IsKeptAs}
use Rattle.sym_run.specs.Unread.{read_alone, without_text}

-- ---- one mark more
stays : (marks : List Bool) (values : List Value) (i : ℕ) → slice_get marks i ≡ Some true → read_alone (take (suc i) marks) values ≡ read_alone (take i marks) values
stays [] values i at = cc
stays (mark ∷ marks) [] zero at = refl
stays (true ∷ marks) (v ∷ values) zero at = refl
stays (false ∷ marks) (v ∷ values) zero at = cc
stays (mark ∷ marks) [] (suc i) at = refl
stays (true ∷ marks) (v ∷ values) (suc i) at = ap (λ (vs : List Value). v ∷ vs) (stays marks values i at)
stays (false ∷ marks) (v ∷ values) (suc i) at = ap (λ (vs : List Value). without_text v ∷ vs) (stays marks values i at)

emptied : (marks : List Bool) (values : List Value) (i : ℕ) (value : Value) → slice_get marks i ≡ Some false → slice_get (read_alone (take i marks) values) i ≡ Some value
    → read_alone (take (suc i) marks) values ≡ slice_set (read_alone (take i marks) values) i (without_text value)
emptied [] values i value at there = cc
emptied (mark ∷ marks) [] zero value at there = cc
emptied (true ∷ marks) (v ∷ values) zero value at there = cc
emptied (false ∷ marks) (v ∷ values) zero value at there = let same : v ≡ value = cc in ap (λ (u : Value). without_text u ∷ values) same
emptied (mark ∷ marks) [] (suc i) value at there = cc
emptied (true ∷ marks) (v ∷ values) (suc i) value at there = ap (λ (vs : List Value). v ∷ vs) (emptied marks values i value at there)
emptied (false ∷ marks) (v ∷ values) (suc i) value at there = ap (λ (vs : List Value). without_text v ∷ vs) (emptied marks values i value at there)

absent : (marks : List Bool) (values : List Value) (i : ℕ) → slice_get (read_alone (take i marks) values) i ≡ None → read_alone (take (suc i) marks) values ≡ read_alone (take i marks) values
absent [] values zero none = refl
absent [] values (suc i) none = refl
absent (mark ∷ marks) [] zero none = refl
absent (mark ∷ marks) (v ∷ values) zero none = cc
absent (mark ∷ marks) [] (suc i) none = refl
absent (true ∷ marks) (v ∷ values) (suc i) none = ap (λ (vs : List Value). v ∷ vs) (absent marks values i none)
absent (false ∷ marks) (v ∷ values) (suc i) none = ap (λ (vs : List Value). without_text v ∷ vs) (absent marks values i none)

one_more : (marks : List Bool) (values : List Value) (i : ℕ) → read_alone (take (i + 1) marks) values ≡ read_alone (take (suc i) marks) values
one_more marks values i = let next : i + 1 ≡ suc i = omega arith in ap (λ (n : ℕ). read_alone (take n marks) values) next

-- The mark at the index is true: the value stays.
pub marked_stays : (marks : List Bool) (values new : List Value) (i : ℕ) → i < length marks → get_or marks i false ≡ true → new ≡ read_alone (take i marks) values → new ≡ read_alone (take (i + 1) marks) values
marked_stays marks values new i within at is =
    is ∙ sym (stays marks values i (slice_get-get_or marks i false within ∙ ap Some at)) ∙ sym (one_more marks values i)

-- It is false: the value there, if there is one, loses its text.
pub unmarked_set : (marks : List Bool) (values old new : List Value) (i : ℕ) (value : Value) → i < length marks → get_or marks i false ≡ false → old ≡ read_alone (take i marks) values → slice_get old i ≡ Some value
    → new ≡ slice_set old i (without_text value) → new ≡ read_alone (take (i + 1) marks) values
unmarked_set marks values old new i value within at was there is =
    is ∙ ap (λ (vs : List Value). slice_set vs i (without_text value)) was
    ∙ sym (emptied marks values i value (slice_get-get_or marks i false within ∙ ap Some at) (ap (λ (vs : List Value). slice_get vs i) (sym was) ∙ there))
    ∙ sym (one_more marks values i)

pub unmarked_none : (marks : List Bool) (values old new : List Value) (i : ℕ) → old ≡ read_alone (take i marks) values → slice_get old i ≡ None → new ≡ old → new ≡ read_alone (take (i + 1) marks) values
unmarked_none marks values old new i was there is =
    is ∙ was ∙ sym (absent marks values i (ap (λ (vs : List Value). slice_get vs i) (sym was) ∙ there)) ∙ sym (one_more marks values i)

-- ---- a record of the script, which is as good
kind_stays : (enums : List EnumPlan) (k : KindPlan) (value : Value) → IsOfKind enums k value → IsOfKind enums k (without_text value)
kind_stays enums k (Num x) h = h
kind_stays enums kind.Num (Word t) h = absurd h
kind_stays enums kind.Word (Word t) h = tt
kind_stays enums (kind.Label enum) (Word t) h = absurd h
kind_stays enums k (Label l) h = h

kinds_stay : (enums : List EnumPlan) (kinds : List KindPlan) (marks : List Bool) (values : List Value) → AreOfKinds enums kinds values → AreOfKinds enums kinds (read_alone marks values)
kinds_stay enums kinds [] values h = h
kinds_stay enums kinds (mark ∷ marks) [] h = h
kinds_stay enums [] (mark ∷ marks) (v ∷ values) h = absurd h
kinds_stay enums (k ∷ kinds) (true ∷ marks) (v ∷ values) h = (h.0, kinds_stay enums kinds marks values h.1)
kinds_stay enums (k ∷ kinds) (false ∷ marks) (v ∷ values) h = (kind_stays enums k v h.0, kinds_stay enums kinds marks values h.1)

marked_value : (marks : List Bool) (values : List Value) (i : ℕ) → slice_get marks i ≡ Some true → slice_get (read_alone marks values) i ≡ slice_get values i
marked_value [] values i at = cc
marked_value (mark ∷ marks) [] i at = refl
marked_value (true ∷ marks) (v ∷ values) zero at = refl
marked_value (false ∷ marks) (v ∷ values) zero at = cc
marked_value (mark ∷ marks) (v ∷ values) (suc i) at = marked_value marks values i at

pub is_record : (p : ScriptPlan) (rec new : Record) (marks : List Bool) → IsRecord p rec → new.fields ≡ read_alone marks rec.fields → IsRecord p new
is_record p rec new marks h is = rw is (kinds_stay p.enums (field_kinds p) marks rec.fields h)

pub is_as_good : (p : ScriptPlan) (rec new : Record) (marks : List Bool) → HasReadMarked p marks → new.no ≡ rec.no → new.fields ≡ read_alone marks rec.fields → IsKeptAs p rec new
is_as_good p rec new marks all same is = record {
  number = same;
  steps = λ o. step_same p new rec o same (λ i named. ap (λ (vs : List Value). field_value (slice_get vs i)) is ∙ ap field_value (marked_value marks rec.fields i (all i named)));
}
