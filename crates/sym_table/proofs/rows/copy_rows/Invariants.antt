-- The rows so far are copied.
use Rattle.std.proofs.Common.{◌≡◌, take}
use Rattle.sym_table.proofs.rows.copy_rows.Given as goal

abbrev pub invariant-rows : goal.invariant-rows
invariant-rows l = l.copied.items ≡ take l.row-index l.rows
