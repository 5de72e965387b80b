-- Paths whose known cells are held as a state that steps, and the records for which they stand.
use Rattle.std.specs.Prelude.{◌≡◌, refl, List, [], ◌∷◌, ◌++◌, if◌then◌else◌}
use Rattle.std.specs.List.{All, Any}
use Rattle.std.specs.Coded.{Coded, code_by, coded×}
use Rattle.sym_base.specs.contracts.values.state.Outcome as outcome_contract
use Rattle.sym_base.specs.Tests.{Truth}
use Rattle.sym_base.specs.declared.values.record.Record.{Record}
use Rattle.sym_base.specs.declared.values.state.Cell.{Cell}
use Rattle.sym_base.specs.declared.values.state.State.{State}
use Rattle.sym_base.specs.declared.values.state.Outcome.{Outcome}
use Rattle.sym_base.specs.declared.values.state.Outcome.TheVariants.{Going}
use Rattle.sym_base.specs.declared.values.state.Outcome.TheVariants as outcome
use Rattle.sym_check.specs.Meaning.Conditions.{test_truth}
use Rattle.sym_check.specs.Meaning.Fitting.{FitsOutcome}
use Rattle.sym_check.specs.Meaning.Updates.{after, step}
use Rattle.sym_check.specs.Meaning.Validity.{IsValid, IsValidOutcome}
use Rattle.sym_check.specs.Plan.ScriptPlans.{ScriptPlan}
use Rattle.sym_path.specs.contracts.path.Path as path_contract
use Rattle.sym_path.specs.declared.path.PathEnd.{PathEnd}
use Rattle.sym_path.specs.declared.path.PathEnd.TheVariants.{Next, Ended}
use Rattle.sym_path.specs.declared.path.Path.{Path}
use Rattle.sym_path.specs.Admitting.{admits}
use Rattle.sym_path.specs.Fitting.{PathFits}
use Rattle.sym_path.specs.Giving.{cells_at}
use Rattle.sym_known.specs.Fronts.{outcome_fronted}
use Rattle.sym_known.specs.Knowing.{HasKnownCells, known_outcome}

-- A path, and how a group stands by now that began with its known cells. Its lists have the elements
-- that were pushed since.
pub record KnownPath : Type 0 where
  pub path : Path
  pub outcome : Outcome

-- Such a path is stored as the pair of the two.
abbrev pub known_code : Coded KnownPath
known_code =
    code_by (Path × Outcome) (coded× (path_contract.the_row).coded (outcome_contract.the_row).coded)
    (λ k. (k.path, k.outcome)) (λ p. record { path = p.0; outcome = p.1 }) (λ _. refl)

-- The path as it is held at first.
abbrev pub known_path : Path → KnownPath
known_path path = record { path = path; outcome = known_outcome path.end }

-- It one record later: its outcome made a step, and one that has ended stays.
abbrev pub stepped : ScriptPlan → Record → KnownPath → KnownPath
stepped p rec known = record known { outcome = step p known.outcome rec }

-- The cells that the path gave at a state, whose lists come before those of its outcome.
abbrev pub given_cells : PathEnd → State → List Cell
given_cells (Next forms) s = cells_at forms s s.cells
given_cells (Ended fault) s = []

-- What it makes of a state that it admits.
abbrev pub known_at : KnownPath → State → Outcome
known_at known s = outcome_fronted (given_cells known.path.end s) known.outcome

-- What it gives at a state: one outcome where its path admits the state, else none.
abbrev pub known_given : Truth → KnownPath → State → List Outcome
known_given truth known s =
    if admits truth known.path.when s.cells then known_at known s ∷ [] else []

-- What those give whose paths admit the state, in order.
abbrev pub known_outcomes : Truth → List KnownPath → State → List Outcome
known_outcomes truth [] s = []
known_outcomes truth (k ∷ known) s = known_given truth k s ++ known_outcomes truth known s

-- A path that has ended has its fault as its outcome.
abbrev pub StaysEnded : PathEnd → Outcome → Type 0
StaysEnded (Next forms) o = Unit {0}
StaysEnded (Ended fault) o = o ≡ outcome.Ended fault

-- The path fits the script and its cells are known; its outcome may be one of a group of the script.
pub record KnownFits (p : ScriptPlan) (known : KnownPath) : Type 0 where
  pub path : PathFits p known.path
  pub cells : HasKnownCells known.path.end
  pub ended : StaysEnded known.path.end known.outcome
  pub valid : IsValidOutcome p known.outcome
  pub fits : FitsOutcome p known.outcome

-- It is so of each of them.
abbrev pub AllFit : ScriptPlan → List KnownPath → Type 0
AllFit p known = All (KnownFits p) known

-- A group that has ended did so at one of the records.
abbrev pub EndedAmong : List Record → Outcome → Type 0
EndedAmong records (Going s) = Unit {0}
EndedAmong records (outcome.Ended fault) = Any (λ (rec : Record). rec.no ≡ fault.no) records

-- They stand for the records: faults came at these records, and for every valid state, whether or
-- not a run can reach it, exactly one of them admits it and gives the sequential outcome of the
-- records from it.
pub record KnownStandsFor (p : ScriptPlan) (records : List Record) (known : List KnownPath) :
    Type 0 where
  pub faults : All (λ (k : KnownPath). EndedAmong records k.outcome) known
  pub exact : (s : State) → IsValid p s →
      known_outcomes (test_truth p.tests) known s ≡ after p records (Going s) ∷ []
