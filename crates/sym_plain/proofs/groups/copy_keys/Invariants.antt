-- Where those that are left are inserted too, all keys are there.
use Rattle.std.proofs.Common.{◌≡◌}
use Rattle.indexmap.specs.IndexSet.{insert_all}
use Rattle.sym_check.specs.Meaning.Groups.{is_key}
use Rattle.sym_plain.proofs.groups.copy_keys.Given as goal

abbrev pub invariant-keys : goal.invariant-keys
invariant-keys l = insert_all is_key l.copied.keys l.key-iterator ≡ l.keys.keys
