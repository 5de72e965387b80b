-- The groups of the keys so far have begun, and these have their places.
use Rattle.std.proofs.Common.{◌≡◌, ◌++◌, List}
use Rattle.std.specs.Map.{keys_of}
use Rattle.sym_base.specs.declared.values.value.Key.{Key}
use Rattle.sym_check.specs.Checking.CheckedScripts.{checked_plan}
use Rattle.sym_shuffle.specs.Begun.{begun}
use Rattle.sym_shuffle.specs.Places.{ArePlaces}
use Rattle.sym_shuffle.proofs.settled.places_of.Given as goal

abbrev pub invariant-keys : goal.invariant-keys
invariant-keys l = record {
  done : List Key;
  all : done ++ keys_of l.key-iterator ≡ keys_of l.fn.new.entries;
  groups : begun (checked_plan l.checked) (keys_of l.key-iterator) l.groups ≡ begun (checked_plan l.checked) (keys_of l.fn.new.entries) l.fn.groups;
  places : ArePlaces (keys_of l.groups) l.places.items done;
}
