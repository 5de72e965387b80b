-- The rows so far are added.
use Rattle.std.proofs.Common.{◌≡◌, ◌++◌, List, Some, length}
use Rattle.sym_rows.specs.Rows.{rows_of}
use Rattle.sym_table.specs.Reading.{Row}
use Rattle.sym_table.proofs.rows.list_raw.Given as goal

abbrev pub invariant-rows : goal.invariant-rows
invariant-rows l = record {
  added : List Row;
  left : List Row;
  has : l.reader ≡ Some left;
  whole : rows_of l.bytes ≡ added ++ left;
  rows : l.rows.items ≡ l.fn.rows.items ++ added;
  count : length added ≡ l._row;
}
