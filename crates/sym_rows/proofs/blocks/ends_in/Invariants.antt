-- So many rows end in the bytes so far, if these have no quote.
use Rattle.std.proofs.Common.{◌≡◌, ◌≤◌, drop, get_or, take}
use Rattle.sym_rows.specs.Places.{place_after, place_of, row_ends}
use Rattle.sym_rows.proofs.blocks.ends_in.Given as goal

abbrev pub invariant-bytes : goal.invariant-bytes
invariant-bytes l = record {
  few : l.rows ≤ l.index;
  quotes : l.quotes ≤ l.index;
  counted : l.quotes ≡ 0 → l.rows ≡ row_ends (place_of (get_or l.window 0 0)) (take l.index (drop 1 l.window));
  stands : l.quotes ≡ 0 → place_of (get_or l.window l.index 0) ≡ place_after (place_of (get_or l.window 0 0)) (take l.index (drop 1 l.window));
}
