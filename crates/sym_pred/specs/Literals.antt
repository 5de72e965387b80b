-- Literals as entries of the map that facts are.
use Rattle.std.specs.Prelude.{Bool, List, map}
use Rattle.std.specs.FinMap.{entries}
use Rattle.sym_pred.specs.declared.literal.Literal.{Literal}
use Rattle.sym_pred.specs.Facts.{Atom, FactMap}

abbrev pub atom_of : Literal → Atom
atom_of literal = (literal.test, literal.args)

abbrev pub entry_of : Literal → Atom × Bool
entry_of literal = (atom_of literal, literal.outcome)

abbrev pub literal_of : Atom × Bool → Literal
literal_of entry = record { test = entry.0.0; args = entry.0.1; outcome = entry.1 }

-- The literals of the facts, in order.
abbrev pub literals : FactMap → List Literal
literals facts = map literal_of (entries facts)
