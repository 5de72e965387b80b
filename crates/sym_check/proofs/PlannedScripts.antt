-- What is known of a script from the function's answer.
use Rattle.std.proofs.Common.{◌≡◌, ◌∙◌, sym, ℕ, ◌≤◌, true, length, Ok, Err, arith}
use Rattle.std.specs.Prelude.{Result}
use Rattle.std.proofs.lemmas.Bool.Decides.{nat_tests}
use Rattle.sym_base.specs.Limits.{max_fields}
use Rattle.sym_base.specs.Lawful.{is_between}
use Rattle.sym_base.specs.Lawful.{IsLawful}
use Rattle.sym_base.specs.Trees.{ScriptTree}
use Rattle.sym_check.specs.Plan.ScriptPlans.{ScriptPlan}
use Rattle.sym_check.specs.Rules.Scripts.{IsAccepted, BreaksScript, plan_of}
use Rattle.sym_check.specs.Plan.WellFormed.{IsWellFormed}
use Rattle.sym_check.specs.declared.elaborate.error.CheckErr.{CheckErr}
use Rattle.sym_check.specs.Rules.Declarations.{IsFieldDecl}
use Rattle.sym_check.proofs.AcceptedPlans.{accepted_well, each_long}
use Rattle.sym_check.proofs.ScriptsAgree.{planned_accepted, accepted_planned, breaks_planned}

pub planned_well : (t : ScriptTree) (p : ScriptPlan) → IsLawful t → plan_of t ≡ Ok p → IsWellFormed p
planned_well t p lawful e = accepted_well t p lawful (planned_accepted t p e)

at_most : (most n k : ℕ) → is_between 1 most n ≡ true → k ≡ n → k ≤ most
at_most most n k h e = grind (arith, nat_tests)

pub planned_fields : (t : ScriptTree) (p : ScriptPlan) → IsLawful t → plan_of t ≡ Ok p → length p.fields ≤ max_fields
planned_fields t p lawful e =
    let d = (planned_accepted t p e).has_plan.declared in
    at_most max_fields (length t.fields) (length p.fields) lawful.field_count
    (each_long IsFieldDecl d.fields.enum_scope d.field_scope 0 t.fields p.fields d.fields.fields)

-- What an accepted script, and one that breaks a rule, is answered.
pub accepted_answer : (t : ScriptTree) (p : ScriptPlan) (o : Result ScriptPlan CheckErr) → IsAccepted t p → plan_of t ≡ o → Ok p ≡ o
accepted_answer t p o i e = sym (accepted_planned t p i) ∙ e

pub broken_answer : (t : ScriptTree) (f : CheckErr) (o : Result ScriptPlan CheckErr) → BreaksScript t f → plan_of t ≡ o → Err f ≡ o
broken_answer t f o i e = sym (breaks_planned t f i) ∙ e
