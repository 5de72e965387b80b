-- Facts as finite maps from atoms to outcomes.
use Rattle.std.specs.Prelude.{ℕ, Bool, List}
use Rattle.std.specs.declared.cmp.Ordering.{Ordering}
use Rattle.std.specs.Ordering.{nat_cmp, ordering_then}
use Rattle.std.specs.Coded.{Coded, coded×, coded_ℕ, coded_list, coded_bool}
use Rattle.std.specs.FinMap.{FinMap}
use Rattle.std.specs.FinMap as map
use Rattle.sym_base.specs.contracts.values.value.Value as value
use Rattle.sym_base.specs.declared.values.value.Value.{Value}
use Rattle.sym_base.specs.Order.{values_cmp}

-- An atom: a test, by its number, with arguments. A literal gives it an outcome.
abbrev pub Atom : Type 0
Atom = ℕ × List Value

-- Atoms go by test, and then by arguments.
abbrev pub atom_cmp : Atom → Atom → Ordering
atom_cmp a b = ordering_then (nat_cmp a.0 b.0) (values_cmp a.1 b.1)

-- Facts: at most one outcome for each atom, in the order of the atoms.
abbrev pub FactMap : Type 0
FactMap = FinMap atom_cmp Bool

abbrev pub fact_map_code : Coded FactMap
fact_map_code = map.code (coded× coded_ℕ (coded_list (value.the_row).coded)) coded_bool
