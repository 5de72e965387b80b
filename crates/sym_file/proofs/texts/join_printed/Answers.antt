use Rattle.std.proofs.Common.{◌≡◌, ◌∙◌, IfOk, ℕ, List, ap, length, map, subst}
use Rattle.std.proofs.lemmas.Result.{IfOk-weaker}
use Rattle.sym_check.specs.Checking.CheckedScripts.{checked_plan}
use Rattle.sym_check.specs.Plan.ScriptPlans.{ScriptPlan}
use Rattle.sym_check.specs.Plan.WellFormed.{IsWellFormed}
use Rattle.sym_parse.specs.Printed.{script_text}
use Rattle.sym_run.specs.ClosedJoins.{IsJoinable}
use Rattle.sym_run.specs.declared.saved.Saved.{Saved}
use Rattle.sym_file.specs.PlacedTexts.{IsJoinedByKey}
use Rattle.sym_file.specs.Places.{AreTextsJoined}
use Rattle.sym_file.specs.SavedTexts.{printed}
use Rattle.sym_file.proofs.TextsByKey.{few_bytes, texts_in_turn}
use Rattle.sym_file.proofs.texts.join_printed.Given.{Over}
use Rattle.sym_file.proofs.texts.join_printed.Goals as goal

own_is : (g : Over) (c : goal.After-drop-own g) → c.deref.result.now ≡ printed c.args.checked.now
own_is g c = c.deref.ensures.value ∙ c.in_ok-own.ensures.text ∙ ap script_text c.script.ensures.same

pub returns-clause-joined : goal.returns-clause-joined
returns-clause-joined g c =
    let p : ScriptPlan = checked_plan c.args.checked.now in
    let texts : List (List ℕ) = map (λ text. text.items) c.args.texts.now in
    let formed : IsWellFormed p = subst IsWellFormed c.plan-plan.ensures.same c.plan-plan.ensures.well_formed in
    IfOk-weaker c.join_own.result (IsJoinedByKey (printed c.args.checked.now) p c.args.limit texts) (AreTextsJoined (printed c.args.checked.now) p c.args.limit texts)
    (λ saved is. (texts_in_turn (printed c.args.checked.now) p formed c.args.limit texts (few_bytes c.args.texts.now c.requires.size) saved is).0)
    (subst (λ (own : List ℕ). IfOk c.join_own.result (IsJoinedByKey own p c.args.limit texts)) (own_is g c) c.join_own.ensures)

pub returns-clause-joinable : goal.returns-clause-joinable
returns-clause-joinable g c =
    let p : ScriptPlan = checked_plan c.args.checked.now in
    let own : List ℕ = c.deref.result.now in
    let texts : List (List ℕ) = map (λ text. text.items) c.args.texts.now in
    let formed : IsWellFormed p = subst IsWellFormed c.plan-plan.ensures.same c.plan-plan.ensures.well_formed in
    IfOk-weaker c.join_own.result (IsJoinedByKey own p c.args.limit texts) (IsJoinable p)
    (λ saved is. (texts_in_turn own p formed c.args.limit texts (few_bytes c.args.texts.now c.requires.size) saved is).1)
    c.join_own.ensures
