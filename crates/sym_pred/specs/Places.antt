-- Where an atom stands among literals in order.
use Rattle.std.specs.Prelude.{◌≡◌, ℕ, ◌<◌, ◌≤◌, Bool, List, map, length, Some, None, Result, Ok, Err, slice_index_or, T}
use Rattle.std.specs.List.{insert}
use Rattle.std.specs.FinMap.{find, put, is_sorted}
use Rattle.sym_pred.specs.declared.literal.Literal.{Literal}
use Rattle.sym_pred.specs.Facts.{Atom, atom_cmp}
use Rattle.sym_pred.specs.Literals.{atom_of, entry_of}

-- The atoms of the literals strictly rise.
abbrev pub IsInOrder : List Literal → Type 0
IsInOrder literals = T (is_sorted atom_cmp (map entry_of literals))

-- `Ok` has the place of the literal with this atom, `Err` the place where one would stand.
abbrev pub IsPlace : List Literal → Atom → Result ℕ ℕ → Type 0
IsPlace literals atom (Ok index) =
    (index < length literals)
    × ((d : Literal) → atom_of (slice_index_or literals index d) ≡ atom)
    × ((d : Literal) → find atom_cmp atom (map entry_of literals)
    ≡ Some (slice_index_or literals index d).outcome)
IsPlace literals atom (Err index) =
    (index ≤ length literals)
    × (find atom_cmp atom (map entry_of literals) ≡ None)
    × ((outcome : Bool) → put atom_cmp atom outcome (map entry_of literals)
    ≡ insert (map entry_of literals) index (atom, outcome))
