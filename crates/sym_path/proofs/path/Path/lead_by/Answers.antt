use Rattle.std.proofs.Common.{◌≡◌, ◌∙◌, sym, ap, subst, length, List}
use Rattle.std.proofs.lemmas.Result.{on_ok_weaker}
use Rattle.std.specs.List.{All}
use Rattle.sym_base.specs.declared.values.state.State.{State}
use Rattle.sym_base.specs.declared.values.state.Outcome.{Outcome}
use Rattle.sym_base.specs.declared.values.state.Outcome.TheVariants.{Going}
use Rattle.sym_check.specs.Meaning.Conditions.{test_truth}
use Rattle.sym_check.specs.Plan.ScriptPlans.{ScriptPlan, script_plan}
use Rattle.sym_check.specs.Meaning.Validity.{IsValid, IsValidCell, IsValidOutcome}
use Rattle.sym_path.specs.Admitting.{Admits}
use Rattle.sym_path.specs.Fitting.{EndFits, FormFits, FormsFit}
use Rattle.sym_path.specs.Following.{AdmitsOutcome}
use Rattle.sym_path.specs.Giving.{HasNumbers, state_at}
use Rattle.sym_path.specs.declared.form.Form.{Form}
use Rattle.sym_path.specs.declared.path.PathEnd.{PathEnd}
use Rattle.sym_path.proofs.Fitted.{forms_have_numbers, state_valid}
use Rattle.sym_path.proofs.Lists.{zip_length}
use Rattle.sym_path.proofs.path.Path.lead_by.Goals as goal

pub change-requires-clause-numbers : goal.change-requires-clause-numbers
change-requires-clause-numbers c =
    let p : ScriptPlan = script_plan c.args._plan.now in
    let s = c.in-Going.state in
    let is : c.args.outcome.now ≡ Going s = cc in
    let fits : FormsFit p c.args.self.now.when c.in-Next.forms = subst (λ (e : PathEnd). EndFits p c.args.self.now.when e) c.in-Next.is c.requires.fits.end in
    let admitted : Admits (test_truth p.tests) c.args.self.now.when s = subst (λ (o : Outcome). AdmitsOutcome (test_truth p.tests) c.args.self.now.when o) is c.requires.admitted in
    subst (λ (fs : List Form). All (HasNumbers s) fs) (sym c.as_slice.ensures)
    (forms_have_numbers (test_truth p.tests) p c.args.self.now.when c.in-Next.forms s c.requires.known fits admitted)

pub change-requires-clause-lengths : goal.change-requires-clause-lengths
change-requires-clause-lengths c =
    let p : ScriptPlan = script_plan c.args._plan.now in
    let s = c.in-Going.state in
    let is : c.args.outcome.now ≡ Going s = cc in
    let fits : FormsFit p c.args.self.now.when c.in-Next.forms = subst (λ (e : PathEnd). EndFits p c.args.self.now.when e) c.in-Next.is c.requires.fits.end in
    let valid : IsValid p s = subst (λ (o : Outcome). IsValidOutcome p o) is c.requires.valid in
    ap length c.as_slice.ensures ∙ sym (zip_length (FormFits p c.args.self.now.when) p.cells c.in-Next.forms fits.each) ∙ zip_length (IsValidCell p.enums) p.cells s.cells valid

pub returns-in-Next-clause-valid : goal.returns-in-Next-clause-valid
returns-in-Next-clause-valid c =
    let p : ScriptPlan = script_plan c.args._plan.now in
    let s = c.in-Going.state in
    let is : c.args.outcome.now ≡ Going s = cc in
    let fits : FormsFit p c.args.self.now.when c.in-Next.forms = subst (λ (e : PathEnd). EndFits p c.args.self.now.when e) c.in-Next.is c.requires.fits.end in
    let admitted : Admits (test_truth p.tests) c.args.self.now.when s = subst (λ (o : Outcome). AdmitsOutcome (test_truth p.tests) c.args.self.now.when o) is c.requires.admitted in
    let valid : IsValid p s = subst (λ (o : Outcome). IsValidOutcome p o) is c.requires.valid in
    on_ok_weaker c.change.result
    (λ e. subst (λ (t : State). IsValid p t) (sym (e ∙ ap (λ (fs : List Form). state_at fs s) c.as_slice.ensures))
    (state_valid (test_truth p.tests) p c.args.self.now.when c.in-Next.forms s fits admitted valid))
    c.change.ensures
