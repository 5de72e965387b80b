-- So many places are there, each in the one column.
use Rattle.std.proofs.Common.{◌≡◌, ◌<◌, length}
use Rattle.std.specs.List.{All}
use Rattle.sym_table.proofs.cutter.unused_header.Given as goal

abbrev pub invariant-places : goal.invariant-places
invariant-places l = record {
  count : length l.places ≡ l._place;
  within : All (λ place. place < 1) l.places;
}
