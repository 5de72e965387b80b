-- What the calls on facts answer.
use Rattle.std.specs.Prelude.{◌≡◌, ◌≢◌, ◌↔◌, ◌⊎◌, Any, Bool, not, List, None}
use Rattle.std.specs.FinMap.{get, insert}
use Rattle.sym_base.specs.declared.values.value.Value.{Value}
use Rattle.sym_pred.specs.declared.literal.Literal.{Literal}
use Rattle.sym_pred.specs.declared.facts.Added.{Added}
use Rattle.sym_pred.specs.declared.facts.Added.TheVariants.{Same, Longer, Against}
use Rattle.sym_pred.specs.Facts.{Atom, FactMap}
use Rattle.sym_pred.specs.Literals.{atom_of}
use Rattle.sym_base.specs.Tests.{Truth}
use Rattle.sym_pred.specs.Meaning.{Stands, Admits}

-- What adding a literal comes to: it stands already, its atom has no outcome yet and now has this
-- one, or it stands with the other outcome.
abbrev pub IsAdded : FactMap → Literal → Added → Type 0
IsAdded facts literal Same = Stands facts (atom_of literal) literal.outcome
IsAdded facts literal (Longer more) =
    (get facts (atom_of literal) ≡ None) × (more ≡ insert facts (atom_of literal) literal.outcome)
IsAdded facts literal Against = Stands facts (atom_of literal) (not literal.outcome)

-- The same on states: the longer facts admit what both the old ones and the literal do. `Same`
-- comes where all that the old ones admit gives the literal's outcome, `Against` where none does.
abbrev pub AdmitsAdded : Truth → FactMap → Literal → List Value → Added → Type 0
AdmitsAdded truth facts literal parts Same =
    Admits truth facts parts → truth literal.test literal.args parts ≡ literal.outcome
AdmitsAdded truth facts literal parts (Longer more) =
    Admits truth more parts
    ↔ (Admits truth facts parts × (truth literal.test literal.args parts ≡ literal.outcome))
AdmitsAdded truth facts literal parts Against =
    Admits truth facts parts → truth literal.test literal.args parts ≢ literal.outcome

-- The literal gives the atom this outcome.
abbrev pub Says : Atom → Bool → Literal → Type 0
Says atom outcome literal = (atom ≡ atom_of literal) × (outcome ≡ literal.outcome)

-- The second facts have the literals of the first ones, and this one, or these.
abbrev pub IsWith : FactMap → Literal → FactMap → Type 0
IsWith facts literal more = (atom : Atom) (outcome : Bool) →
    Stands more atom outcome ↔ (Stands facts atom outcome ⊎ Says atom outcome literal)

abbrev pub AreWith : FactMap → List Literal → FactMap → Type 0
AreWith facts literals more = (atom : Atom) (outcome : Bool) →
    Stands more atom outcome ↔ (Stands facts atom outcome ⊎ Any (Says atom outcome) literals)

-- A literal stands with the other outcome in the facts, or is among the literals with it.
abbrev pub AreAgainst : FactMap → List Literal → Type 0
AreAgainst facts literals =
    Any (λ literal. Stands facts (atom_of literal) (not literal.outcome)
    ⊎ Any (Says (atom_of literal) (not literal.outcome)) literals) literals
