-- The names of the enums so far are added, each with those of its labels.
use Rattle.std.proofs.Common.{◌≡◌, ◌++◌, take}
use Rattle.std.specs.List.{flat_map}
use Rattle.sym_check.specs.Rules.Scripts.{enum_names}
use Rattle.sym_check.proofs.elaborate.names.add_enums.Given as goal

abbrev pub invariant-enums : goal.invariant-enums
invariant-enums l = l.names ≡ l.fn.names ++ flat_map enum_names (take l.decl-index l.decl-items)
