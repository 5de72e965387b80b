-- The limit of each kind, and the order of the kinds.
use Rattle.std.specs.Prelude.{ℕ}
use Rattle.sym_base.specs.Limits.{max_enums, max_labels, max_fields, max_cells, max_tests, max_parameters, max_parts, max_statements, max_depth, max_operands, max_columns, max_group_fields}
use Rattle.sym_parse.specs.declared.error.LimitKind.{LimitKind}
use Rattle.sym_parse.specs.declared.error.LimitKind.TheVariants as limit

-- The most of each kind.
abbrev pub most : LimitKind → ℕ
most limit.Enums = max_enums
most limit.Labels = max_labels
most limit.Fields = max_fields
most limit.Cells = max_cells
most limit.Tests = max_tests
most limit.Parameters = max_parameters
most limit.Parts = max_parts
most limit.Statements = max_statements
most limit.Depth = max_depth
most limit.Operands = max_operands
most limit.Columns = max_columns
most limit.GroupFields = max_group_fields

-- The kinds in their order.
abbrev pub rank : LimitKind → ℕ
rank limit.Enums = 0
rank limit.Labels = 1
rank limit.Fields = 2
rank limit.Cells = 3
rank limit.Tests = 4
rank limit.Parameters = 5
rank limit.Parts = 6
rank limit.Statements = 7
rank limit.Depth = 8
rank limit.Operands = 9
rank limit.Columns = 10
rank limit.GroupFields = 11
