-- As many rows as were counted.
use Rattle.std.proofs.Common.{◌≡◌, replicate}
use Rattle.sym_workers_tests.specs.Showing.{row_b}
use Rattle.sym_workers_tests.proofs.showing.rows_b.Given as goal

abbrev pub invariant-rows : goal.invariant-rows
invariant-rows l = l.rows ≡ replicate l._row row_b
