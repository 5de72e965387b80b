-- Paths that have ended, which move out of a list of paths.
use Rattle.std.specs.Prelude.{◌≡◌, ◌≤◌, Bool, false, List, [], ◌++◌, map, length}
use Rattle.std.specs.List.{All}
use Rattle.std.specs.List.Sorted.{IsPermutation}
use Rattle.sym_base.specs.declared.values.state.State.{State}
use Rattle.sym_base.specs.declared.values.state.Outcome.{Outcome}
use Rattle.sym_check.specs.Plan.ScriptPlans.{ScriptPlan}
use Rattle.sym_path.specs.declared.path.Path.{Path}
use Rattle.sym_path.specs.Changing.{GoesOn}
use Rattle.sym_path.specs.Fitting.{PathFits}
use Rattle.sym_explore.specs.Faulting.{EndsSo}
use Rattle.sym_explore.specs.Parting.{at_state, those_going}
use Rattle.sym_explore.specs.Stepping.{Becomes}

-- The old paths are the new ones, in some order, and those that were put after the others, which
-- have ended.
pub record AreMoved (old new before after : List Path) : Type 0 where
  pub moved : List Path
  pub is : after ≡ before ++ moved
  pub same : IsPermutation old (new ++ moved)
  pub over : All (λ (path : Path). ¬ (GoesOn path.end)) moved

-- Paths that were changed where they stand, and other paths before and after: at a state, what was
-- added to what the others give, with what the new paths give, is what the step makes of what the
-- old ones gave. Where no number is clamped, what was added has ended.
pub record ArePartedAt (p : ScriptPlan) (clamps : Bool) (step : Outcome → Outcome)
    (old new before after : List Path) (s : State) : Type 0 where
  pub added : List Outcome
  pub others : at_state p after s ≡ at_state p before s ++ added
  pub over : clamps ≡ false → those_going added ≡ []
  pub gives : added ++ at_state p new s ≡ map step (at_state p old s)

-- Paths were changed where they stand, at each state that at most one of the old ones admits.
abbrev pub AreParted :
    ScriptPlan → Bool → (Outcome → Outcome) →
    List Path → List Path → List Path → List Path → Type 0
AreParted p clamps step old new before after = (s : State) →
    length (at_state p old s) ≤ 1 → ArePartedAt p clamps step old new before after s

-- A path becomes what the step makes of it, and ends only where it had ended.
pub record IsChanged (p : ScriptPlan) (step : Outcome → Outcome) (old new : Path) : Type 0 where
  pub becomes : Becomes p step old new
  pub fits : PathFits p new
  pub same : EndsSo old.end new.end
