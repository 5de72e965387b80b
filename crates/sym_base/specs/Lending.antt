-- What a list ends as, where a `&mut` to one of its items is returned.
use Rattle.std.specs.Prelude.{ℕ, List, Option, slice_set}
use Rattle.std.specs.Borrow.{LendsIf, MutBor, Fml, RattleType}
use Rattle.sym_base.specs.contracts.values.sequence.Sequence as sequence
use Rattle.sym_base.specs.contracts.values.small_list.SmallList as small_list

-- The item at the place becomes what is written last; where there is no such item, the list stays.
abbrev pub lends_item : (T : RattleType) → MutBor (List T.Denot) → ℕ → Option (MutBor T.Denot) → Fml
lends_item T list place item =
    LendsIf (sequence.the_row T) T list item (slice_set list.now place) list.now

-- The same of a small list.
abbrev pub lends_small_item : (T : RattleType) → MutBor (List T.Denot) → ℕ → Option (MutBor T.Denot)
    → Fml
lends_small_item T list place item =
    LendsIf (small_list.the_row T) T list item (slice_set list.now place) list.now
