-- The limits of scripts and of their numbers, as contracts cite them: each is a constant of
-- src/limits.rt. The limits of files and of runs are cited as the constants themselves.
use Rattle.std.specs.Prelude.{ℕ, ℤ, ◌≤◌, nat_le, Bool, unsigned_abs}
use Rattle.sym_base.specs.declared.limits.TheConstants as limit

-- The largest number; the least is its opposite.
abbrev pub num_max : ℕ
num_max = unsigned_abs limit.NUM_MAX

-- A whole number of at most 10^12 in size.
abbrev pub IsNumber : ℤ → Type 0
IsNumber x = unsigned_abs x ≤ num_max

-- Whether it is one.
unfoldable pub is_number : ℤ → Bool
is_number x = nat_le (unsigned_abs x) num_max

abbrev pub max_enums : ℕ
max_enums = limit.ENUMS_MAX

-- Labels of an enum.
abbrev pub max_labels : ℕ
max_labels = limit.LABELS_MAX

abbrev pub max_fields : ℕ
max_fields = limit.FIELDS_MAX

-- Fields of the group line.
abbrev pub max_group_fields : ℕ
max_group_fields = limit.GROUP_FIELDS_MAX

abbrev pub max_cells : ℕ
max_cells = limit.CELLS_MAX

abbrev pub max_tests : ℕ
max_tests = limit.TESTS_MAX

-- Parameters of a test.
abbrev pub max_parameters : ℕ
max_parameters = limit.PARAMETERS_MAX

-- Parts of a hold cell.
abbrev pub max_parts : ℕ
max_parts = limit.PARTS_MAX

-- Statements of the update, nested ones included.
abbrev pub max_statements : ℕ
max_statements = limit.STATEMENTS_MAX

-- `if` statements, parentheses, calls, `not` and unary `-` that are open at once.
abbrev pub max_depth : ℕ
max_depth = limit.DEPTH_MAX

-- Numbers, texts and names of one expression.
abbrev pub max_operands : ℕ
max_operands = limit.OPERANDS_MAX

abbrev pub max_columns : ℕ
max_columns = limit.COLUMNS_MAX

-- Bytes of a name.
abbrev pub max_name_bytes : ℕ
max_name_bytes = limit.NAME_MAX
