-- The fields before this one have their columns.
use Rattle.std.proofs.Common.{◌≡◌, ◌<◌, length, drop}
use Rattle.std.specs.List.{All}
use Rattle.sym_table.specs.Headers.{columns_of}
use Rattle.sym_table.proofs.FoundColumns.{with_columns}
use Rattle.sym_table.proofs.columns.columns_of.Given as goal

abbrev pub invariant-fields : goal.invariant-fields
invariant-fields l = record {
  count : length l.places ≡ l.which;
  within : All (λ place. place < length l.row) l.places;
  found : with_columns l.places (columns_of l.row l.which (drop l.which l.fields)) ≡ columns_of l.row 0 l.fields;
}
