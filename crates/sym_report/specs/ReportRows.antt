-- What a report shows: the names above its rows, and a row for each group. That each group has one
-- row is the SYMPLE paper's (SOSP 2015); what a row shows is this project's profile.
use Rattle.std.specs.Prelude.{ℕ, Bool, true, false, List, [], map}
use Rattle.std.specs.Prelude.{Option, Some, None, slice_get}
use Rattle.std.specs.List.{list_any, zip}
use Rattle.sym_base.specs.declared.values.value.Key.{Key}
use Rattle.sym_base.specs.declared.values.value.Value.{Value}
use Rattle.sym_base.specs.declared.values.report.Column.{Column}
use Rattle.sym_base.specs.declared.values.report.Column.TheVariants as column
use Rattle.sym_base.specs.declared.values.state.FaultKind.{FaultKind}
use Rattle.sym_base.specs.declared.values.state.FaultKind.TheVariants as fault
use Rattle.sym_base.specs.declared.values.state.Outcome.{Outcome}
use Rattle.sym_base.specs.declared.values.state.Outcome.TheVariants.{Going, Ended}
use Rattle.sym_base.specs.declared.tree.name.Name.{Name}
use Rattle.sym_base.specs.declared.tree.declaration.StateDecl.{StateDecl}
use Rattle.sym_base.specs.Trees.{ScriptTree}
use Rattle.sym_check.specs.declared.plan.script.FieldPlan.{FieldPlan}
use Rattle.sym_check.specs.declared.plan.script.KindPlan.{KindPlan}
use Rattle.sym_check.specs.Plan.ScriptPlans.{ScriptPlan, ColumnOf}
use Rattle.sym_plain.specs.Shown.{columns, kind_labels, value_column}
use Rattle.sym_report.specs.declared.rows.Heads.{Heads}
use Rattle.sym_report.specs.declared.rows.Row.{Row}
use Rattle.sym_report.specs.declared.rows.RowBody.{RowBody}
use Rattle.sym_report.specs.declared.rows.RowBody.TheVariants.{Columns, Over, Arith}

-- The names in the group line, in its order; none where there is no such line.
abbrev pub key_names : List Name → List (List ℕ)
key_names = map (λ name. name.text)

-- The names above a report's rows, as the script declares them.
abbrev pub heads_of : ScriptTree → ScriptPlan → Heads
heads_of tree p = record {
  keys = key_names tree.group;
  columns = map (λ (c : ColumnOf). c.name) p.columns;
}

abbrev pub field_kind : Option FieldPlan → Option KindPlan
field_kind None = None
field_kind (Some field) = Some field.kind

-- The names of the labels that a field's values may have.
abbrev pub field_labels : ScriptPlan → ℕ → List (List ℕ)
field_labels p field = kind_labels p.enums (field_kind (slice_get p.fields field))

-- The columns of values of these fields, each with its field; a label is shown by its name.
abbrev pub field_columns : ScriptPlan → List ℕ → List Value → List Column
field_columns p fields values =
    map (λ (of : ℕ × Value). value_column (field_labels p of.0) (Some of.1)) (zip fields values)

-- The columns of a key: its values are those of the group line's fields, in the line's order.
abbrev pub key_columns : ScriptPlan → Key → List Column
key_columns p key = field_columns p p.group key.values

abbrev pub state_name : Option StateDecl → List ℕ
state_name None = []
state_name (Some state) = state.name.text

-- The name that the cell with this number has in its declaration.
abbrev pub cell_name : ScriptTree → ℕ → List ℕ
cell_name tree cell = state_name (slice_get tree.states cell)

-- What a row shows of a fault at a record.
abbrev pub fault_body : ScriptTree → FaultKind → ℕ → RowBody
fault_body tree (fault.Over cell) record_no = Over (cell_name tree cell) record_no
fault_body tree fault.Arith record_no = Arith record_no

-- What a row shows after its keys: the columns of the group's last state, or the group's fault.
abbrev pub body_of : ScriptTree → ScriptPlan → Outcome → RowBody
body_of tree p (Going state) = Columns (columns p state)
body_of tree p (Ended fault) = fault_body tree fault.kind fault.no

-- The row of a group.
abbrev pub row_of : ScriptTree → ScriptPlan → (Key × Outcome) → Row
row_of tree p group = record { keys = key_columns p group.0; body = body_of tree p group.1 }

-- A column that couldn't be computed.
abbrev pub is_bad : Column → Bool
is_bad (column.Num n) = false
is_bad (column.Word text) = false
is_bad (column.Nums numbers) = false
is_bad (column.Words words) = false
is_bad column.Nothing = false
is_bad (column.Bad fault) = true

-- A row is faulty where it shows a fault or such a column.
abbrev pub is_faulty : RowBody → Bool
is_faulty (Columns columns) = list_any is_bad columns
is_faulty (Over cell record_no) = true
is_faulty (Arith record_no) = true

abbrev pub some_faulty : List Row → Bool
some_faulty = list_any (λ row. is_faulty row.body)
