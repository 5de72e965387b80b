use Rattle.std.proofs.Common.{◌≡◌, ◌↔◌, List, Some, sym, ap, ◌∙◌, subst}
use Rattle.std.specs.Prelude.{slice_get, IsTrue}
use Rattle.sym_base.specs.declared.values.value.Value.{Value}
use Rattle.sym_check.specs.declared.plan.script.EnumPlan.{EnumPlan}
use Rattle.sym_check.specs.declared.plan.script.KindPlan.{KindPlan}
use Rattle.sym_path.specs.Checking.{AreParameters}
use Rattle.sym_path.proofs.Checks.{suits_decided, no_test_suits}
use Rattle.sym_path.proofs.kinds.suits.Goals as goal

pub returns-in-Some : goal.returns-in-Some
returns-in-Some c =
    let found : slice_get c.args.plan.now.tests c.args.literal.now.test ≡ Some c.in-Some.test.now = sym (c.in-Some.ensures ∙ ap (λ i. slice_get c.args.plan.now.tests i) c.from.ensures) in
    let b = c.are_parameters.result in
    let kinds = c.args.kinds.now in
    let decided = subst (λ (vs : List Value). IsTrue b ↔ AreParameters c.args.plan.now.enums kinds c.in-Some.test.now.params vs) c.as_slice-in-Some-2.ensures
    (subst (λ (ks : List KindPlan). IsTrue b ↔ AreParameters c.args.plan.now.enums kinds ks c.as_slice-in-Some-2.result.now) c.as_slice-in-Some.ensures
    (subst (λ (es : List EnumPlan). IsTrue b ↔ AreParameters es kinds c.as_slice-in-Some.result.now c.as_slice-in-Some-2.result.now) c.as_slice.ensures c.are_parameters.ensures)) in
    suits_decided c.args.plan.now kinds c.args.literal.now c.in-Some.test.now b found decided

pub returns-in-None : goal.returns-in-None
returns-in-None c = no_test_suits c.args.plan.now c.args.kinds.now c.args.literal.now (sym (c.in-None.ensures ∙ ap (λ i. slice_get c.args.plan.now.tests i) c.from.ensures))
