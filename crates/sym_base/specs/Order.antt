-- The order of values and of lists of them.
use Rattle.std.specs.Prelude.{List}
use Rattle.std.specs.declared.cmp.Ordering.{Ordering}
use Rattle.std.specs.declared.cmp.Ordering.TheVariants.{Less, Greater}
use Rattle.std.specs.Ordering.{nat_cmp, int_cmp}
use Rattle.std.specs.Cmp.Lexicographic.{slice_cmp}
use Rattle.sym_base.specs.declared.values.value.Value.{Value}
use Rattle.sym_base.specs.declared.values.value.Value.TheVariants.{Num, Word, Label}

-- Numbers come first and go by size, then words by their bytes, then labels by number.
abbrev pub value_cmp : Value → Value → Ordering
value_cmp (Num x) (Num y) = int_cmp x y
value_cmp (Num x) (Word t) = Less
value_cmp (Num x) (Label m) = Less
value_cmp (Word s) (Num y) = Greater
value_cmp (Word s) (Word t) = slice_cmp nat_cmp s t
value_cmp (Word s) (Label m) = Less
value_cmp (Label l) (Num y) = Greater
value_cmp (Label l) (Word t) = Greater
value_cmp (Label l) (Label m) = nat_cmp l m

-- Lists go by the first values that differ; a list comes before those that it begins.
abbrev pub values_cmp : List Value → List Value → Ordering
values_cmp = slice_cmp value_cmp
