use Rattle.std.proofs.Common.{◌≡◌, map, take}
use Rattle.std.specs.String.{string_bytes}
use Rattle.sym_command.proofs.matches.copy_names.Given as goal

abbrev pub invariant-names : goal.invariant-names
invariant-names l =
    map string_bytes l.copy.items ≡ map (λ name. name.now) (take l.name-index l.names)
