-- The bytes up to and with the last one are passed over.
use Rattle.std.proofs.Common.{◌≡◌, ◌≤◌, ◌<◌, ◌+◌, ◌-◌, get_or, length}
use Rattle.sym_rows.specs.Pieces.{between}
use Rattle.sym_rows.specs.Places.{place_after, place_of, row_ends}
use Rattle.sym_rows.specs.declared.place.Place.TheVariants as place
use Rattle.sym_rows.proofs.search.pass_blocks.Given as goal

abbrev pub invariant-block : goal.invariant-block
invariant-block l = record {
  low : l.from ≤ l.last;
  high : l.last < length l.bytes;
  few : l.rows < l.most;
  counted : l.rows ≡ row_ends place.Between (between l.bytes l.from (l.last + 1));
  stands : place_of (get_or l.bytes l.last 0) ≡ place_after place.Between (between l.bytes l.from (l.last + 1));
}

abbrev pub decreases-block : goal.decreases-block
decreases-block l = length l.bytes - l.last
