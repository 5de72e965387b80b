-- The rows so far are added.
use Rattle.std.proofs.Common.{◌≡◌, ◌++◌, take}
use Rattle.sym_table.proofs.rows.Rows.list.Given as goal

abbrev pub invariant-rows : goal.invariant-rows
invariant-rows l = l.rows.items ≡ l.initial.rows.items ++ take l.row-index l.row-items
