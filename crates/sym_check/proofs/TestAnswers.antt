-- Tests by their numbers.
use Rattle.std.proofs.Common.{◌≡◌, ◌∙◌, ap, subst, ℕ, Bool, true, List, map, Option, Some}
use Rattle.std.specs.Prelude.{IsTrue, slice_get}
use Rattle.std.specs.Option.{option_map}
use Rattle.std.specs.List.{list_all}
use Rattle.std.proofs.lemmas.Option.{slice_get-map, slice_get_within, get_or_from_slice_get}
use Rattle.std.proofs.lemmas.List.Sums.{AllPass-from_list_all}
use Rattle.sym_base.specs.declared.values.value.Value.{Value}
use Rattle.sym_check.specs.declared.plan.script.TestPlan.{TestPlan}
use Rattle.sym_check.specs.Meaning.Conditions.{has_fixed_body, answer, test_truth}
use Rattle.sym_check.specs.Plan.ScriptPlans.{test_plan}

passes_at : {A : Type 0} (p : A → Bool) (xs : List A) (i : ℕ) (x : A) → list_all p xs ≡ true → slice_get xs i ≡ Some x → p x ≡ true
passes_at {A} p xs i x h e =
    let P : A → Type 0 = λ v. p v ≡ true in
    subst P (get_or_from_slice_get xs i x x e) (AllPass-from_list_all p xs h i x (slice_get_within xs i x e))

pub found_body : (tests : List TestPlan) (i : ℕ) (t : TestPlan) → IsTrue (list_all has_fixed_body (map test_plan tests)) → slice_get tests i ≡ Some t → IsTrue (has_fixed_body (test_plan t))
found_body tests i t h e = passes_at has_fixed_body (map test_plan tests) i (test_plan t) h (slice_get-map test_plan tests i ∙ ap (option_map test_plan) e)

-- The answer is that of the test with this number.
pub found_answer : (tests : List TestPlan) (i : ℕ) (args parts : List Value) (o : Option TestPlan) → slice_get tests i ≡ o → test_truth (map test_plan tests) i args parts ≡ answer (option_map test_plan o) args parts
found_answer tests i args parts o e = ap (λ t. answer t args parts) (slice_get-map test_plan tests i ∙ ap (option_map test_plan) e)
