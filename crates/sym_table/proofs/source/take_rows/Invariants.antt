-- The rows so far are the first of those that were left.
use Rattle.std.proofs.Common.{◌≡◌, ◌++◌, length, List, Some}
use Rattle.sym_table.specs.Reading.{Row}
use Rattle.sym_table.proofs.source.take_rows.Given as goal

abbrev pub invariant-rows : goal.invariant-rows
invariant-rows l = record {
  left : List Row;
  had : l.fn.reader ≡ Some (l.rows ++ left);
  has : l.reader ≡ Some left;
  count : length l.rows ≡ l._row;
}
