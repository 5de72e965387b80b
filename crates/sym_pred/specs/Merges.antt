-- Literals of two lists side by side.
use Rattle.std.specs.Prelude.{◌≡◌, Bool, not, List, map, Option, Some, None, T}
use Rattle.std.specs.FinMap.{find}
use Rattle.std.specs.FinMap.Entries.{below_all}
use Rattle.sym_pred.specs.declared.literal.Literal.{Literal}
use Rattle.sym_pred.specs.Facts.{Atom, atom_cmp}
use Rattle.sym_pred.specs.Literals.{entry_of}
use Rattle.sym_pred.specs.Places.{IsInOrder}

-- The outcome of an atom among literals.
abbrev pub outcome_in : List Literal → Atom → Option Bool
outcome_in xs atom = find atom_cmp atom (map entry_of xs)

-- The first outcome of two that may be none.
abbrev pub first_of : Option Bool → Option Bool → Option Bool
first_of (Some a) other = Some a
first_of None other = other

-- An atom has different outcomes in the two lists.
pub record ClashIn (xs ys : List Literal) : Type 0 where
  pub atom : Atom
  pub outcome : Bool
  pub one : outcome_in xs atom ≡ Some outcome
  pub other : outcome_in ys atom ≡ Some (not outcome)

-- The third list has the outcomes of the first two, in order, where those have none that differ.
-- An atom that comes before those of both lists comes before those of the third.
pub record IsMerged (xs ys zs : List Literal) : Type 0 where
  pub in_order : IsInOrder zs
  pub below : (a : Atom) → T (below_all atom_cmp a (map entry_of xs)) →
      T (below_all atom_cmp a (map entry_of ys)) → T (below_all atom_cmp a (map entry_of zs))
  pub finds : (q : Atom) → outcome_in zs q ≡ first_of (outcome_in xs q) (outcome_in ys q)
  pub agree : (q : Atom) (a b : Bool) → outcome_in xs q ≡ Some a → outcome_in ys q ≡ Some b → a ≡ b
