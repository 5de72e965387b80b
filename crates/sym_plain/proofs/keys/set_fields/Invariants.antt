-- The first values are those of the first fields.
use Rattle.std.proofs.Common.{◌≡◌, ◌≤◌, length, map, take}
use Rattle.sym_check.specs.Meaning.Groups.{field_at}
use Rattle.sym_plain.proofs.keys.set_fields.Given as goal

abbrev pub invariant-fields : goal.invariant-fields
invariant-fields l = record {
  written : take l.index l.values ≡ map (field_at l.rec) (take l.index l.fields);
  long : l.index ≤ length l.values;
}
