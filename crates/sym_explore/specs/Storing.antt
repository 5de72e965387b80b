-- Numbers that are stored in the cells of paths.
use Rattle.std.specs.Prelude.{◌≡◌, ℕ, Bool, true, List, Option}
use Rattle.sym_base.specs.declared.values.state.State.{State}
use Rattle.sym_base.specs.declared.values.state.Outcome.{Outcome}
use Rattle.sym_check.specs.Plan.DoPlans.{DoPlan, PushNum, SetInt}
use Rattle.sym_check.specs.Plan.LinePlans.{TermPlan}
use Rattle.sym_check.specs.Plan.ScriptPlans.{ScriptPlan}
use Rattle.sym_int.specs.declared.form.IntForm.{IntForm}
use Rattle.sym_path.specs.declared.path.Path.{Path}
use Rattle.sym_path.specs.Changing.{GoesOn}
use Rattle.sym_explore.specs.Parting.{AllGoOn}
use Rattle.sym_explore.specs.Placing.{place_cell, put_at}
use Rattle.sym_explore.specs.Ranging.{IsPartedAt, form_stored, ready_stored}
use Rattle.sym_explore.specs.Stepping.{going_on}
use Rattle.sym_explore.specs.declared.places.Place.{Place}
use Rattle.sym_explore.specs.declared.places.Place.TheVariants as place
use Rattle.sym_explore.specs.declared.places.Target.{Target}
use Rattle.sym_explore.specs.declared.terms.Ready.{Ready}

-- The statement that stores the number of a term there.
abbrev pub store_do : Place → TermPlan → DoPlan
store_do (place.Cell c) t = SetInt c t
store_do (place.End c) t = PushNum c t

-- What a group comes to whose state gets the number of the term at the place, at the record with
-- this number.
abbrev pub after_store : ScriptPlan → ℕ → Place → Ready → Outcome → Outcome
after_store p n at r = going_on n (ready_stored p r (place_cell at) (put_at at))

-- The number of a ready term is stored at the target: the paths after give that, the path by the
-- number of the form.
abbrev pub ReadyStores :
    ScriptPlan → Target → Ready → Path → List Path → Path → List Path → Option IntForm → Type 0
ReadyStores p target r old before path after number = (s : State) →
    IsPartedAt p target.clamps (after_store p target.fault.no target.place r)
    (form_stored number (put_at target.place) s) old before path after s

-- The path and the other paths before, and those after: the step ends parts of the path, or where
-- numbers are clamped adds paths for them.
abbrev pub IsParted :
    ScriptPlan → Bool → (Outcome → Outcome) → Path → List Path → Path → List Path → Type 0
IsParted p clamps step old before path after = (s : State) →
    IsPartedAt p clamps step (λ (o : Outcome). o) old before path after s

-- Where numbers are clamped, the path goes on, and paths that are added do.
abbrev pub StoresAll : Bool → Path → List Path → List Path → Type 0
StoresAll clamps path before after =
    clamps ≡ true → GoesOn path.end × (AllGoOn before → AllGoOn after)
