-- So many values are there.
use Rattle.std.proofs.Common.{◌≡◌, length}
use Rattle.sym_table.proofs.records.make_room.Given as goal

abbrev pub invariant-room : goal.invariant-room
invariant-room l = length l.room.items ≡ l._place
