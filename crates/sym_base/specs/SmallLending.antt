-- What the parts of a small list end as, where a `&mut` to one of its items is returned. No public
-- clause cites this module.
use Rattle.std.specs.Prelude.{ℕ, Option}
use Rattle.std.specs.Borrow.{LendsIf, MutBor, Fml, RattleType}
use Rattle.sym_base.specs.SmallLists.{with_item}
use Rattle.sym_base.specs.contracts.values.small_list.Items as items

abbrev pub lends_place : (T : RattleType) → MutBor (items.the_row T).Denot → ℕ
    → Option (MutBor T.Denot) → Fml
lends_place T list place item = LendsIf (items.the_row T) T list item (with_item list.now place) list.now
