-- Marks at the fields of a list of values, one value after the other.
use Rattle.std.proofs.Common.{◌≡◌, sym, ap, ◌∙◌, ℕ, suc, ◌+◌, ◌<◌, Bool, List, ◌∷◌, length, map, drop, get_or, add-one, drop-cons}
use Rattle.sym_check.specs.declared.plan.expression.Fixed.{Fixed}
use Rattle.sym_check.specs.Plan.FixedPlans.{fixed_plan}
use Rattle.sym_reads.specs.NamedFields.{with_marks, fixed_fields, fields_of_all}
use Rattle.sym_reads.proofs.MarksAppended.{marks_append}

-- The values from one on are that one and those after it.
left_from : (xs : List Fixed) (k : ℕ) (x : Fixed) → k < length xs → x ≡ get_or xs k x → drop k xs ≡ x ∷ drop (k + 1) xs
left_from xs k x within is = rw add-one (drop-cons xs k x within ∙ ap (λ y. y ∷ drop (suc k) xs) (sym is))

pub marks_next : (xs : List Fixed) (k : ℕ) (x : Fixed) (a b wanted : List Bool) → k < length xs → x ≡ get_or xs k x → b ≡ with_marks (fixed_fields (fixed_plan x)) a → with_marks (fields_of_all (map fixed_plan (drop k xs))) a ≡ wanted → with_marks (fields_of_all (map fixed_plan (drop (k + 1) xs))) b ≡ wanted
marks_next xs k x a b wanted within is made h =
    let rest = fields_of_all (map fixed_plan (drop (k + 1) xs)) in
    ap (with_marks rest) made
    ∙ sym (marks_append (fixed_fields (fixed_plan x)) rest a)
    ∙ sym (ap (λ (ys : List Fixed). with_marks (fields_of_all (map fixed_plan ys)) a) (left_from xs k x within is))
    ∙ h
