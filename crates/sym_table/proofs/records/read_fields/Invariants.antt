-- The fields before this one have the values that stand at their places.
use Rattle.std.proofs.Common.{◌≡◌, length, take, drop}
use Rattle.sym_table.specs.Rows.{read_fields}
use Rattle.sym_table.proofs.ReadFields.{with_values}
use Rattle.sym_table.proofs.records.read_fields.Given as goal

abbrev pub invariant-fields : goal.invariant-fields
invariant-fields l =
    let rest = read_fields l.plan.enums l.row l.which (drop l.which l.plan.fields) (drop l.which l.header.places) in
    record {
      room : length l.values ≡ length l.plan.fields;
      read : with_values (take l.which l.values) rest ≡ read_fields l.plan.enums l.row 0 l.plan.fields l.header.places;
    }
