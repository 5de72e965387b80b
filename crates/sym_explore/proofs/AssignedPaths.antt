-- The paths that an assignment makes: how they end, and what they give.
use Rattle.std.proofs.Common.{◌≡◌, ℕ, List, [], ◌∷◌, map, refl, sym, ap, ◌∙◌}
use Rattle.std.specs.Prelude.{Result, Ok}
use Rattle.sym_base.specs.declared.values.state.FaultKind.{FaultKind}
use Rattle.sym_base.specs.declared.values.state.State.{State}
use Rattle.sym_base.specs.declared.values.state.Outcome.{Outcome}
use Rattle.sym_base.specs.declared.values.state.Outcome.TheVariants.{Going}
use Rattle.sym_base.specs.declared.values.state.Outcome.TheVariants as outcome
use Rattle.sym_check.specs.Meaning.Conditions.{test_truth}
use Rattle.sym_check.specs.Plan.DoPlans.{DoPlan}
use Rattle.sym_check.specs.Meaning.FixedValues.{Environment}
use Rattle.sym_check.specs.Plan.ScriptPlans.{ScriptPlan}
use Rattle.sym_check.specs.Meaning.Updates.{do_step}
use Rattle.sym_path.specs.declared.form.Form.{Form}
use Rattle.sym_path.specs.declared.path.PathEnd.{PathEnd}
use Rattle.sym_path.specs.declared.path.PathEnd.TheVariants.{Next, Ended}
use Rattle.sym_path.specs.declared.path.Path.{Path}
use Rattle.sym_path.specs.Changing.{GoesOn, changed, end_with_form}
use Rattle.sym_path.specs.Giving.{given}
use Rattle.sym_explore.specs.Faulting.{EndsSo}
use Rattle.sym_explore.specs.Stepping.{Becomes, after_do, going_on}

-- ---- ends

pub formed_end : (c : ℕ) (f : Form) (end : PathEnd) → EndsSo end (end_with_form c f end)
formed_end c f (Next forms) = tt
formed_end c f (Ended fault) = refl

pub form_goes : (c : ℕ) (f : Form) (end : PathEnd) → GoesOn end → GoesOn (end_with_form c f end)
form_goes c f (Next forms) h = tt
form_goes c f (Ended fault) h = absurd h

-- ---- the same changes of outcomes

pub same_maps : {A B : Type 0} (f g : A → B) (xs : List A) → ((x : A) → f x ≡ g x) → map f xs ≡ map g xs
same_maps f g [] e = refl
same_maps f g (x ∷ xs) e = λ i. e x i ∷ same_maps f g xs e i

-- A statement that each state goes on from.
pub going_same : (n : ℕ) (part : State → Result State FaultKind) (f : State → State) → ((s : State) → part s ≡ Ok (f s)) → (o : Outcome) → changed f o ≡ going_on n part o
going_same n part f e (Going s) = ap (λ (r : Result State FaultKind). at n r) (sym (e s))
  where
    at : ℕ → Result State FaultKind → Outcome
    at m r = going_on m (λ _. r) (Going s)
going_same n part f e (outcome.Ended fault) = refl

pub becomes_step : (p : ScriptPlan) (k : Environment) (n : ℕ) (d : DoPlan) (f : State → State) (old new : Path) → ((s : State) → do_step p k d s ≡ Ok (f s)) → Becomes p (changed f) old new → Becomes p (after_do p k n d) old new
becomes_step p k n d f old new e becomes = λ s. becomes s ∙ same_maps (changed f) (after_do p k n d) (given (test_truth p.tests) old s) (going_same n (do_step p k d) f e)
