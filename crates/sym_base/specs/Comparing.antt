-- What a comparison says of two whole numbers.
use Rattle.std.specs.Prelude.{ℤ, Bool, not, int_lt, int_le}
use Rattle.std.specs.Ordering.{int_eq}
use Rattle.sym_base.specs.declared.tree.compare.Compare.{Compare}
use Rattle.sym_base.specs.declared.tree.compare.Compare.TheVariants as compare

-- Whether x compares so with y.
abbrev pub compares : Compare → ℤ → ℤ → Bool
compares compare.Eq x y = int_eq x y
compares compare.Ne x y = not (int_eq x y)
compares compare.Lt x y = int_lt x y
compares compare.Le x y = int_le x y
compares compare.Gt x y = int_lt y x
compares compare.Ge x y = int_le y x
