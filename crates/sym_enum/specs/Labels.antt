-- Sets of labels, and the label of a form at a state.
use Rattle.std.specs.Prelude.{◌≡◌, ℕ, ◌↔◌, ◌==◌, Bool, IsTrue}
use Rattle.std.specs.Int.{bit_at}
use Rattle.sym_base.specs.States.{label_at}
use Rattle.sym_base.specs.declared.values.state.State.{State}
use Rattle.sym_enum.specs.declared.form.EnumForm.{EnumForm}
use Rattle.sym_enum.specs.declared.form.EnumForm.TheVariants.{Const, Copy}
use Rattle.sym_enum.specs.declared.form.PulledLabels.{PulledLabels}
use Rattle.sym_enum.specs.declared.form.PulledLabels.TheVariants.{All, Never, In}
use Rattle.sym_enum.specs.declared.label_set.LabelSet.{LabelSet}

-- Whether a label is in a set.
unfoldable pub has_label : LabelSet → ℕ → Bool
has_label set label = bit_at set.bits label == 1

-- The set has this label and no other.
abbrev pub IsOnlyLabel : LabelSet → ℕ → Type 0
IsOnlyLabel set label = (other : ℕ) → IsTrue (has_label set other) ↔ (other ≡ label)

-- The label of a form at a state.
abbrev pub label_value : EnumForm → State → ℕ
label_value (Const label) state = label
label_value (Copy cell) state = label_at state cell

-- The form is the same label at every state.
abbrev pub IsConst : EnumForm → Type 0
IsConst (Const label) = Unit {0}
IsConst (Copy cell) = ⊥

-- A state is among those that were pulled.
abbrev pub Pulls : PulledLabels → State → Type 0
Pulls All state = Unit {0}
Pulls Never state = ⊥
Pulls (In cell set) state = IsTrue (has_label set (label_at state cell))

-- What a set and a form pull: a constant all states or none, and a copy the same set of the cell
-- that it copies.
abbrev pub IsPulledBy : LabelSet → EnumForm → PulledLabels → Type 0
IsPulledBy set (Const label) All = Unit {0}
IsPulledBy set (Const label) Never = Unit {0}
IsPulledBy set (Const label) (In cell pulled) = ⊥
IsPulledBy set (Copy own) All = ⊥
IsPulledBy set (Copy own) Never = ⊥
IsPulledBy set (Copy own) (In cell pulled) = (cell ≡ own) × (pulled ≡ set)

-- The cell that the form copies holds, in the second state, the label of `inner` at the first.
abbrev pub Leads : EnumForm → EnumForm → State → State → Type 0
Leads (Const label) inner first second = Unit {0}
Leads (Copy cell) inner first second = label_at second cell ≡ label_value inner first
