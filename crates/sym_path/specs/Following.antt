-- The path of one path and then another.
use Rattle.std.specs.Prelude.{◌≡◌, ◌↔◌, List}
use Rattle.sym_base.specs.declared.values.state.Fault.{Fault}
use Rattle.sym_base.specs.declared.values.state.State.{State}
use Rattle.sym_base.specs.declared.values.state.Outcome.{Outcome}
use Rattle.sym_base.specs.declared.values.state.Outcome.TheVariants.{Going}
use Rattle.sym_base.specs.declared.values.state.Outcome.TheVariants as outcome
use Rattle.sym_base.specs.Tests.{Truth}
use Rattle.sym_check.specs.Meaning.Conditions.{test_truth}
use Rattle.sym_check.specs.Plan.ScriptPlans.{ScriptPlan}
use Rattle.sym_path.specs.declared.part.Part.{Part}
use Rattle.sym_path.specs.declared.form.Form.{Form}
use Rattle.sym_path.specs.declared.path.PathEnd.{PathEnd}
use Rattle.sym_path.specs.declared.path.PathEnd.TheVariants.{Ended}
use Rattle.sym_path.specs.declared.path.Path.{Path}
use Rattle.sym_path.specs.Admitting.{Admits}
use Rattle.sym_path.specs.Fitting.{EndFits, PathFits}
use Rattle.sym_path.specs.Giving.{end_at, state_at}

-- The second path's end after the first one's forms: a fault stays, and where the second one goes
-- on, so does this one, by what the forms give.
pub record IsEndAfter (plan : ScriptPlan) (lefts : List Part) (forms : List Form)
    (old new : PathEnd) : Type 0 where
  pub fits : EndFits plan lefts new
  pub fault : (fault : Fault) → (new ≡ Ended fault) ↔ (old ≡ Ended fault)
  pub gives : (s : State) → Admits (test_truth plan.tests) lefts s →
      end_at new s ≡ end_at old (state_at forms s)

-- The outcome is a state that the constraint admits.
abbrev pub AdmitsOutcome : Truth → List Part → Outcome → Type 0
AdmitsOutcome truth when (Going s) = Admits truth when s
AdmitsOutcome truth when (outcome.Ended fault) = ⊥

-- What an end makes of an outcome: of a state what it gives there, and a fault stays.
abbrev pub end_after : PathEnd → Outcome → Outcome
end_after end (Going s) = end_at end s
end_after end (outcome.Ended fault) = outcome.Ended fault

-- The path of p and then q: it admits the states that p admits and whose outcome by p q admits,
-- gives there what q gives of it, has a fault where q has it, and fits the script.
pub record IsFollowed (plan : ScriptPlan) (p q path : Path) : Type 0 where
  pub admits : (s : State) →
      Admits (test_truth plan.tests) path.when s ↔
      (Admits (test_truth plan.tests) p.when s
      × AdmitsOutcome (test_truth plan.tests) q.when (end_at p.end s))
  pub gives : (s : State) → Admits (test_truth plan.tests) path.when s →
      end_at path.end s ≡ end_after q.end (end_at p.end s)
  pub fault : (fault : Fault) → (path.end ≡ Ended fault) ↔ (q.end ≡ Ended fault)
  pub fits : PathFits plan path
