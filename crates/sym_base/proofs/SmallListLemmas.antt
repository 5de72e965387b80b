-- What a write to an item of a small list does to the list that a contract sees, and what is lent.
use Rattle.std.proofs.Common.{◌≡◌, ◌<◌, ◌≤◌, ℕ, zero, suc, List, [], ◌∷◌, length, refl, ap, arith, MutBor}
use Rattle.std.specs.Prelude.{Option, Some, None, slice_get, slice_set, slice_index_or}
use Rattle.std.specs.List.{IsItemAtMut}
use Rattle.std.specs.Option.{option_copied_mut}
use Rattle.sym_base.specs.SmallLists.{items_of, with_item}
use Rattle.sym_base.specs.declared.values.small_list.Items.{Items}
use Rattle.sym_base.specs.declared.values.small_list.Items.TheVariants.{One, Many}

module _ {T : Type 0} where
  pub items-with_item : (items : Items T) (place : ℕ) (item : T)
      → items_of (with_item items place item) ≡ slice_set (items_of items) place item
  items-with_item (One one) place item = refl
  items-with_item (Many items) place item = refl

  found : (xs : List T) (i : ℕ) (x : T) → i < length xs
      → ((d : T) → x ≡ slice_index_or xs i d) → Some x ≡ slice_get xs i
  found [] i x lt is = absurd (omega arith)
  found (y ∷ ys) zero x lt is = ap Some (is x)
  found (y ∷ ys) (suc i) x lt is = found ys i x (omega arith) is

  missing : (xs : List T) (i : ℕ) → length xs ≤ i → None ≡ slice_get xs i
  missing [] i le = refl
  missing (y ∷ ys) zero le = absurd (omega arith)
  missing (y ∷ ys) (suc i) le = missing ys i (omega arith)

  -- What is lent at a place is the item there.
  pub copied_mut-get : (xs : List T) (i : ℕ) (r : Option (MutBor T)) → IsItemAtMut xs i r
      → option_copied_mut r ≡ slice_get xs i
  copied_mut-get xs i (Some x) lent = found xs i x.now lent.3.0 lent.3.1
  copied_mut-get xs i None lent = missing xs i lent.3
