use Rattle.std.proofs.Common.{◌≡◌, ◌∙◌, ◌++◌, ◌∷◌, [], ℕ, List, sym, ap, subst}
use Rattle.sym_check.specs.Meaning.Conditions.{test_truth}
use Rattle.sym_check.specs.Plan.ScriptPlans.{script_plan}
use Rattle.sym_path.specs.declared.path.Path.{Path}
use Rattle.sym_path.specs.Changing.{form_of, with_form}
use Rattle.sym_path.specs.Fitting.{PathFits}
use Rattle.sym_path.specs.Giving.{given}
use Rattle.sym_explore.specs.Assigning.{added_words, one_word_more}
use Rattle.sym_explore.proofs.AssignedForms.{word_pushed}
use Rattle.sym_explore.proofs.AssignedFits.{words_fit}
use Rattle.sym_explore.proofs.SureSteps.{form_sure}
use Rattle.sym_explore.specs.Sure.{IsSureEnd}
use Rattle.sym_explore.proofs.assignments.push_word.Goals as goal

pub returns-clause-exact : goal.returns-clause-exact
returns-clause-exact c = λ s.
    let p = script_plan c.args._plan.now in
    let truth = test_truth p.tests in
    let path : Path = c.args.path.now in
    let k : ℕ = c.args.cell in
    let w : List ℕ = c.args.word.now in
    let word : c.in_ok-from_str.field-0 ≡ w = c.in_ok-from_str.ensures in
    let new : c.add_word.new.path ≡ with_form path k (one_word_more (form_of path.end k) w) = c.in_ok-add_word.ensures ∙ ap (λ (t : List ℕ). with_form path k (one_word_more (form_of path.end k) t)) word in
    ap (λ (q : Path). given truth q s) new ∙ word_pushed truth p path s k w c.requires.fits c.requires.cell

pub returns-clause-fits : goal.returns-clause-fits
returns-clause-fits c =
    let p = script_plan c.args._plan.now in
    let path : Path = c.args.path.now in
    let k : ℕ = c.args.cell in
    let more : List (List ℕ) = added_words (form_of path.end k) ++ c.in_ok-from_str.field-0 ∷ [] in
    subst (λ (q : Path). PathFits p q) (sym c.in_ok-add_word.ensures) (words_fit p path k more c.requires.fits c.requires.cell)

pub returns-clause-sure : goal.returns-clause-sure
returns-clause-sure c = λ sure.
    let path : Path = c.args.path.now in
    subst (λ (q : Path). IsSureEnd q.end) (sym c.in_ok-add_word.ensures) (form_sure c.args.cell (one_word_more (form_of path.end c.args.cell) c.in_ok-from_str.field-0) path.end tt sure)
