-- The items of a small list, wherever they lie. No public clause cites this module.
use Rattle.std.specs.Prelude.{◌≡◌, ℕ, List, length}
use Rattle.std.specs.Vec as vec
use Rattle.arrayvec.specs.ArrayVec as inline
use Rattle.sym_base.specs.declared.values.small_list.Items.{Items}
use Rattle.sym_base.specs.declared.values.small_list.Items.TheVariants.{One, Many}

module _ {T : Type 0} where
  abbrev pub items_of : Items T → List T
  items_of (One one) = one.items
  items_of (Many items) = items.items

  -- Exactly one item lies inline.
  abbrev pub IsSound : Items T → Type 0
  IsSound (One one) = length one.items ≡ 1
  IsSound (Many items) = Unit {0}

  -- Exactly one item, which lies inline.
  abbrev pub IsOne : Items T → Type 0
  IsOne (One one) = length one.items ≡ 1
  IsOne (Many items) = ⊥

  -- No item lies inline.
  abbrev pub IsMany : Items T → Type 0
  IsMany (One one) = ⊥
  IsMany (Many items) = Unit {0}

  -- The place has another item.
  abbrev pub with_item : Items T → ℕ → T → Items T
  with_item (One one) place item = One (inline.with_item one place item)
  with_item (Many items) place item = Many (vec.with_item items place item)
