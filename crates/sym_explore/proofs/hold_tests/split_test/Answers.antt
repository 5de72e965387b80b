use Rattle.std.proofs.Common.{◌≡◌, true, false, List, Some, None, sym, ap, ◌∙◌, subst}
use Rattle.std.specs.Prelude.{slice_get}
use Rattle.sym_check.specs.Plan.ScriptPlans.{script_plan}
use Rattle.sym_pred.specs.declared.literal.Literal.{Literal}
use Rattle.sym_pred.specs.Literals.{atom_of}
use Rattle.sym_path.specs.declared.path.Path.{Path}
use Rattle.sym_path.specs.declared.path.PathEnd.{PathEnd}
use Rattle.sym_path.specs.Changing.{GoesOn, IsOpenOf, GivesWhereLiteral}
use Rattle.sym_explore.specs.declared.branch.Branch.{Branch}
use Rattle.sym_explore.specs.Branches.{BranchesGo, AreFewBranches}
use Rattle.sym_explore.specs.Calling.{known_outcome, WasTested}
use Rattle.sym_explore.proofs.JudgedBranches.{few_one, few_split, pushed_go}
use Rattle.sym_explore.proofs.TestsHeld.{open_outcome, known_tested, both_tested}
use Rattle.sym_explore.proofs.hold_tests.split_test.Goals as goal

pub returns-in-Some-clause-exact : goal.returns-in-Some-clause-exact
returns-in-Some-clause-exact c =
    let told : known_outcome c.args.path.now c.args.called.now.cell (c.args.called.now.test, c.args.called.now.args.now) ≡ Some c.in-Some.outcome = sym c.known_outcome.ensures ∙ c.in-Some.is in
    known_tested (script_plan c.args.plan.now) c.args.path.now c.args.out.now.items c.args.called.now.cell c.args.called.now.test c.args.called.now.args.now c.in-Some.outcome c.requires.suits c.requires.split.fits told

pub add_literal-requires-clause-open : goal.add_literal-requires-clause-open
add_literal-requires-clause-open c =
    let none : known_outcome c.args.path.now c.args.called.now.cell (c.args.called.now.test, c.args.called.now.args.now) ≡ None = sym c.known_outcome.ensures ∙ c.in_default.is in
    let here = open_outcome (script_plan c.args.plan.now) c.args.path.now c.args.called.now.cell c.args.called.now.test c.args.called.now.args.now c.requires.suits c.requires.split.fits none in
    subst (λ (l : Literal). IsOpenOf (atom_of l) (slice_get c.in_ok-copy.copy.when c.args.called.now.cell)) (sym c.in_ok-literal.ensures)
    (subst (λ (x : Path). IsOpenOf (c.args.called.now.test, c.args.called.now.args.now) (slice_get x.when c.args.called.now.cell)) (sym c.in_ok-copy.ensures) here)

pub add_literal-requires-2-clause-open : goal.add_literal-requires-2-clause-open
add_literal-requires-2-clause-open c =
    let none : known_outcome c.args.path.now c.args.called.now.cell (c.args.called.now.test, c.args.called.now.args.now) ≡ None = sym c.known_outcome.ensures ∙ c.in_default.is in
    let here = open_outcome (script_plan c.args.plan.now) c.args.path.now c.args.called.now.cell c.args.called.now.test c.args.called.now.args.now c.requires.suits c.requires.split.fits none in
    subst (λ (l : Literal). IsOpenOf (atom_of l) (slice_get c.args.path.now.when c.args.called.now.cell)) (sym c.in_ok-literal-2.ensures) here

pub returns-clause-exact : goal.returns-clause-exact
returns-clause-exact c =
    let copy = c.add_literal.new.self in
    let path = c.add_literal-2.new.self in
    let first = c.in_ok-literal.field-0 in
    let last = c.in_ok-literal-2.field-0 in
    let one : GivesWhereLiteral c.args.path.now c.args.called.now.cell first copy = subst (λ (x : Path). GivesWhereLiteral x c.args.called.now.cell c.in_ok-literal.field-0 c.add_literal.new.self) c.in_ok-copy.ensures c.in_ok-add_literal.ensures.gives in
    let both = both_tested (script_plan c.args.plan.now) c.args.path.now copy path c.args.out.now.items c.args.called.now.cell c.args.called.now.test c.args.called.now.args.now first last c.in_ok-literal.ensures c.in_ok-literal-2.ensures one c.in_ok-add_literal-2.ensures.gives in
    subst (λ (after : List Branch). WasTested (script_plan c.args.plan.now) c.args.called.now.cell c.args.called.now.test c.args.called.now.args.now c.args.path.now c.args.out.now.items c.add_literal-2.new.self after false) (sym c.in_ok-push.ensures.items) both

pub returns-clause-next : goal.returns-clause-next
returns-clause-next c =
    let copied = c.in_ok-add_literal.ensures.end ∙ ap (λ (x : Path). x.end) c.in_ok-copy.ensures in
    record {
      fits = c.in_ok-add_literal-2.ensures.fits;
      goes_on = subst (λ (end : PathEnd). GoesOn end) (sym c.in_ok-add_literal-2.ensures.end) c.requires.split.goes_on;
      others =
          subst (λ (after : List Branch). BranchesGo (script_plan c.args.plan.now) after) (sym c.in_ok-push.ensures.items)
          (pushed_go (script_plan c.args.plan.now) c.args.out.now.items c.add_literal.new.self true c.requires.split.others c.in_ok-add_literal.ensures.fits
          (subst (λ (end : PathEnd). GoesOn end) (sym copied) c.requires.split.goes_on));
    }

pub returns-clause-few : goal.returns-clause-few
returns-clause-few c =
    subst (λ (after : List Branch). AreFewBranches (λ x. 1) c.args.out.now.items after false) (sym c.in_ok-push.ensures.items)
    (few_split c.args.out.now.items c.add_literal.new.self)

pub returns-in-Some-clause-few : goal.returns-in-Some-clause-few
returns-in-Some-clause-few c = few_one c.args.out.now.items c.in-Some.outcome
