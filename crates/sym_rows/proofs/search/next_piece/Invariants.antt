-- The bytes so far are passed over.
use Rattle.std.proofs.Common.{◌≡◌, ◌≤◌, ◌<◌, ◌-◌, length}
use Rattle.sym_rows.specs.Pieces.{between}
use Rattle.sym_rows.specs.Places.{place_after, row_ends}
use Rattle.sym_rows.specs.declared.place.Place.TheVariants as place
use Rattle.sym_rows.proofs.search.next_piece.Given as goal

abbrev pub invariant-bytes : goal.invariant-bytes
invariant-bytes l = record {
  low : l.from ≤ l.at;
  high : l.at ≤ length l.bytes;
  few : l.rows < l.most;
  counted : l.rows ≡ row_ends place.Between (between l.bytes l.from l.at);
  stands : l.place ≡ place_after place.Between (between l.bytes l.from l.at);
}

abbrev pub decreases-bytes : goal.decreases-bytes
decreases-bytes l = length l.bytes - l.at
