use Rattle.std.proofs.Common.{◌≡◌, ◌∙◌, ap, sym, refl, inl, inr, ◌⊎◌, List, [], ◌∷◌, ◌++◌, append-nil, ℕ}
use Rattle.std.proofs.lemmas.Slice.Zip.{either_empty_from_Zip}
use Rattle.sym_base.specs.declared.values.value.Value.{Value}
use Rattle.sym_check.specs.Plan.ScriptPlans.{ScriptPlan, script_plan}
use Rattle.sym_report.specs.ReportRows.{field_columns}
use Rattle.sym_report.proofs.keys.key_columns.Goals as goal

none_left : (p : ScriptPlan) (fields : List ℕ) (values : List Value) → (fields ≡ []) ⊎ (values ≡ []) → field_columns p fields values ≡ []
none_left p fields values (inl e) = ap (λ xs. field_columns p xs values) e
none_left p [] values (inr e) = refl
none_left p (x ∷ fields) values (inr e) = ap (field_columns p (x ∷ fields)) e

pub returns : goal.returns
returns c =
    let made = c.values.columns.items in
    let none = none_left (script_plan c.args.plan.now) _ _ (either_empty_from_Zip c.values.field-iterator c.next.new.self c.next.result c.in-None.is c.next.ensures.steps) in
    c.of.ensures ∙ sym (append-nil made) ∙ ap (λ columns. made ++ columns) (sym none) ∙ c.values.invariant
