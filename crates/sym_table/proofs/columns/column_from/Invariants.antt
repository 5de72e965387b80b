-- What is left of the row gives the column.
use Rattle.std.proofs.Common.{◌≡◌, drop}
use Rattle.sym_table.specs.Headers.{column_from}
use Rattle.sym_table.proofs.columns.column_from.Given as goal

abbrev pub invariant-columns : goal.invariant-columns
invariant-columns l = column_from l.at (drop l.at l.row) l.text ≡ column_from l.start (drop l.start l.row) l.text
