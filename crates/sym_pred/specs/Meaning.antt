-- What facts say of the parts of a hold cell, and how two lots of facts stand to each other.
use Rattle.std.specs.Prelude.{◌≡◌, ◌≢◌, Bool, not, List, Some, ◌⊎◌}
use Rattle.std.specs.FinMap.{get}
use Rattle.sym_base.specs.declared.values.value.Value.{Value}
use Rattle.sym_base.specs.Tests.{Truth}
use Rattle.sym_pred.specs.Facts.{Atom, FactMap}

-- The literal with this atom and outcome is one of the facts.
abbrev pub Stands : FactMap → Atom → Bool → Type 0
Stands facts atom outcome = get facts atom ≡ Some outcome

-- A hold cell with these parts gives each literal's outcome.
abbrev pub Admits : Truth → FactMap → List Value → Type 0
Admits truth facts parts =
    (atom : Atom) (outcome : Bool) → Stands facts atom outcome → truth atom.0 atom.1 parts ≡ outcome

-- A literal of the one stands in the other with the other outcome.
pub record Clash (left right : FactMap) : Type 0 where
  pub atom : Atom
  pub outcome : Bool
  pub one : Stands left atom outcome
  pub other : Stands right atom (not outcome)

-- The two have the same atoms, and differ in the outcome of exactly one.
pub record DifferInOne (left right : FactMap) : Type 0 where
  pub atom : Atom
  pub outcome : Bool
  pub one : Stands left atom outcome
  pub other : Stands right atom (not outcome)
  pub rest : (a : Atom) → a ≢ atom → get right a ≡ get left a

-- They are equal or differ in the outcome of exactly one atom.
abbrev pub Unite : FactMap → FactMap → Type 0
Unite left right = (left ≡ right) ⊎ DifferInOne left right
