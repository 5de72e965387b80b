use Rattle.std.proofs.Common.{◌≤◌, ℕ, Vec, Global, List, length, map, subst}
use Rattle.std.proofs.lemmas.List.Elements.{All-map}
use Rattle.sym_check.specs.Checking.CheckedScripts.{checked_plan}
use Rattle.sym_check.specs.Plan.WellFormed.{IsWellFormed}
use Rattle.sym_file.specs.SavedTexts.{printed}
use Rattle.sym_reduce.proofs.JoiningFiles.{texts_far}
use Rattle.sym_reduce.proofs.joins.join_first.Goals as goal

pub returns-in-Some-clause-joined : goal.returns-in-Some-clause-joined
returns-in-Some-clause-joined g c = λ max sizes.
    let p = checked_plan c.args.checked.now in
    let formed : IsWellFormed p = subst IsWellFormed c.plan-plan.ensures.same c.plan-plan.ensures.well_formed in
    let texts = c.args.texts.now in
    let files : List (List ℕ) = map (λ (text : Vec ℕ Global). text.items) texts in
    let each = All-map (λ (bytes : List ℕ). length bytes ≤ max) (λ (text : Vec ℕ Global). text.items) texts sizes in
    texts_far (printed c.args.checked.now) p max c.args.limit formed files c.in-Some.joined c.in-Some.ensures.joined each
