use Rattle.std.proofs.Common.{◌≡◌, ◌∙◌, ℕ, Option, ap, sym, subst}
use Rattle.sym_check.specs.Checking.CheckedScripts.{checked_plan}
use Rattle.sym_check.specs.Meaning.Updates.{initial}
use Rattle.sym_check.specs.Meaning.Validity.{IsValid}
use Rattle.sym_check.specs.Plan.ScriptPlans.{ScriptPlan}
use Rattle.sym_check.specs.Plan.WellFormed.{IsWellFormed}
use Rattle.sym_plain.specs.Pairs.{after_records}
use Rattle.sym_file.specs.Totals.{taken, taken_to}
use Rattle.sym_file.specs.declared.totals.Taken.TheVariants.{Done}
use Rattle.sym_file.proofs.Taking.{lawful_closed, taken_records}
use Rattle.sym_file.proofs.totals.Totals.take.Goals as goal

pub returns-in-Some-clause-stands : goal.returns-in-Some-clause-stands
returns-in-Some-clause-stands c = λ records s.
    let p : ScriptPlan = checked_plan c.args.checked.now in
    let first : IsValid p (initial p) = c.well_formed_plans_keep_states_valid.ensures.first p (subst IsWellFormed c.plan-plan.ensures.same c.plan-plan.ensures.well_formed) in
    let whole : taken p 0 c.args.saved.now.groups c.args.self ≡ Done (after_records p records c.args.self) = taken_records p records c.args.saved.now.groups c.args.self first c.requires.valid
    (lawful_closed p c.args.saved.now.first c.args.saved.now.next c.args.saved.now.groups c.requires.lawful.each) s.groups in
    sym (c.in_ok-index.ensures.taken ∙ ap (λ (g : Option ℕ). taken_to g c.take_all.new.groups) c.in-Some.is) ∙ ap (taken p 0 c.args.saved.now.groups) c.self.view_is ∙ whole

pub returns-in-None-clause-stands : goal.returns-in-None-clause-stands
returns-in-None-clause-stands c = λ records s.
    let p : ScriptPlan = checked_plan c.args.checked.now in
    let first : IsValid p (initial p) = c.well_formed_plans_keep_states_valid.ensures.first p (subst IsWellFormed c.plan-plan.ensures.same c.plan-plan.ensures.well_formed) in
    let whole : taken p 0 c.args.saved.now.groups c.args.self ≡ Done (after_records p records c.args.self) = taken_records p records c.args.saved.now.groups c.args.self first c.requires.valid
    (lawful_closed p c.args.saved.now.first c.args.saved.now.next c.args.saved.now.groups c.requires.lawful.each) s.groups in
    sym (c.in_ok-index.ensures.taken ∙ ap (λ (g : Option ℕ). taken_to g c.take_all.new.groups) c.in-None.is) ∙ ap (taken p 0 c.args.saved.now.groups) c.self.view_is ∙ whole
