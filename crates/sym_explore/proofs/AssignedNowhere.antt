-- Paths that have ended, which no assignment changes.
use Rattle.std.proofs.Common.{◌≡◌, ℕ, Bool, true, false, List, [], ◌∷◌, Some, None, map, refl, sym, ap, ◌∙◌}
use Rattle.std.specs.Prelude.{if◌then◌else◌}
use Rattle.sym_base.specs.declared.values.value.Value.{Value}
use Rattle.sym_base.specs.declared.values.state.State.{State}
use Rattle.sym_base.specs.declared.values.state.Outcome.{Outcome}
use Rattle.sym_base.specs.declared.values.state.Outcome.TheVariants as outcome
use Rattle.sym_base.specs.declared.values.state.Fault.{Fault}
use Rattle.sym_check.specs.declared.plan.script.CellPlan.TheVariants as plan
use Rattle.sym_check.specs.declared.plan.script.KindPlan.{KindPlan}
use Rattle.sym_check.specs.Meaning.Conditions.{test_truth}
use Rattle.sym_check.specs.Plan.ScriptPlans.{ScriptPlan}
use Rattle.sym_check.specs.Plan.WellFormed.{AreOfOneEnum, HaveSameKinds}
use Rattle.sym_path.specs.declared.form.Form.{Form}
use Rattle.sym_path.specs.declared.part.Part.{Part}
use Rattle.sym_path.specs.declared.path.PathEnd.{PathEnd}
use Rattle.sym_path.specs.declared.path.PathEnd.TheVariants.{Next, Ended}
use Rattle.sym_path.specs.declared.path.Path.{Path}
use Rattle.sym_path.specs.Admitting.{admits}
use Rattle.sym_path.specs.Changing.{GoesOn, form_of}
use Rattle.sym_path.specs.Fitting.{FormFits, PathFits}
use Rattle.sym_path.specs.Fitting as fitting
use Rattle.sym_path.specs.Giving.{end_at}
use Rattle.sym_explore.specs.Assigning.{hold_form, parts_form}
use Rattle.sym_explore.specs.Labels.{enum_form, label_form}
use Rattle.sym_explore.specs.Stepping.{Becomes}
use Rattle.sym_explore.proofs.AssignedForms.{form_there}
use Rattle.sym_explore.proofs.AssignedFits.{going_fit}

stays : (f : Outcome → Outcome) → ((fault : Fault) → f (outcome.Ended fault) ≡ outcome.Ended fault) → (end : PathEnd) (s : State) → ¬ (GoesOn end) → end_at end s ≡ f (end_at end s)
stays f e (Next forms) s ended = absurd (ended tt)
stays f e (Ended fault) s ended = sym (e fault)

given_stays : (a : Bool) (f : Outcome → Outcome) (o : Outcome) → o ≡ f o → (if a then o ∷ [] else []) ≡ map f (if a then o ∷ [] else [])
given_stays true f o e = ap (λ x. x ∷ []) e
given_stays false f o e = refl

-- A path that has ended stays as it is.
pub ended_stays : (p : ScriptPlan) (f : Outcome → Outcome) (path : Path) → ((fault : Fault) → f (outcome.Ended fault) ≡ outcome.Ended fault) → ¬ (GoesOn path.end) → Becomes p f path path
ended_stays p f path e ended = λ s. given_stays (admits (test_truth p.tests) path.when s.cells) f (end_at path.end s) (stays f e path.end s ended)

-- A path in which an enum cell, or a hold cell, has no form of its kind has ended.
no_enum_form : (p : ScriptPlan) (when : List Part) (of first : ℕ) (f : Form) → FormFits p when (plan.Enum of first) f → enum_form (Some f) ≡ None → ⊥
no_enum_form p when _ _ _ (fitting.of_label of first l h) e = cc
no_enum_form p when _ _ _ (fitting.copied_label of first c h) e = cc

pub no_label : (p : ScriptPlan) (path : Path) (c d : ℕ) → PathFits p path → AreOfOneEnum p.cells c d → label_form path d ≡ None → ¬ (GoesOn path.end)
no_label p path c d fits cells = go path.end refl
  where
    go : (end : PathEnd) → path.end ≡ end → label_form path d ≡ None → GoesOn end → ⊥
    go (Next forms) is e going =
        let (f, at, q) = form_there p path.when forms d (plan.Enum cells.enum cells.from.first) (going_fit p path forms fits is) cells.from.is in
        let none : enum_form (Some f) ≡ None = ap enum_form (sym at) ∙ ap (λ (x : PathEnd). enum_form (form_of x d)) (sym is) ∙ e in
        no_enum_form p path.when cells.enum cells.from.first f q none
    go (Ended fault) is e going = going

no_hold_form : (p : ScriptPlan) (when : List Part) (kinds : List KindPlan) (first : List Value) (f : Form) → FormFits p when (plan.Hold kinds first) f → hold_form (Some f) ≡ None → ⊥
no_hold_form p when _ _ _ (fitting.of_parts kinds first parts h) e = cc
no_hold_form p when _ _ _ (fitting.copied_parts kinds first c h) e = cc

pub no_parts : (p : ScriptPlan) (path : Path) (c d : ℕ) → PathFits p path → HaveSameKinds p.cells c d → parts_form path d ≡ None → ¬ (GoesOn path.end)
no_parts p path c d fits cells = go path.end refl
  where
    go : (end : PathEnd) → path.end ≡ end → parts_form path d ≡ None → GoesOn end → ⊥
    go (Next forms) is e going =
        let (f, at, q) = form_there p path.when forms d (plan.Hold cells.parts cells.from.first) (going_fit p path forms fits is) cells.from.is in
        let none : hold_form (Some f) ≡ None = ap hold_form (sym at) ∙ ap (λ (x : PathEnd). hold_form (form_of x d)) (sym is) ∙ e in
        no_hold_form p path.when cells.parts cells.from.first f q none
    go (Ended fault) is e going = going
