-- What names stand for, and the scopes in which they do.
use Rattle.std.specs.Prelude.{◌≡◌, ℕ, Bool, true, false, not, List, [], ◌∷◌, ◌++◌, if◌then◌else◌, Option, Some, None}
use Rattle.std.specs.List.{filter}
use Rattle.sym_base.specs.declared.tree.name.Name.{Name}
use Rattle.sym_check.specs.declared.elaborate.scope.Meaning.{Meaning}
use Rattle.sym_check.specs.declared.elaborate.scope.Meaning.TheVariants.{Unfinished, Enum, Label, Value, IntCell, EnumCell, HoldCell, NumsCell, WordsCell, Test}
use Rattle.sym_check.specs.declared.elaborate.scope.Entry.{Entry}
use Rattle.sym_check.specs.declared.elaborate.scope.View.{View}
use Rattle.sym_check.specs.declared.elaborate.scope.View.TheVariants as view
use Rattle.sym_check.specs.Meaning.Conditions.{same_word}

abbrev pub Scope : Type 0
Scope = List Entry

abbrev pub entry : Name → Meaning → Entry
entry x m = record { name = x.text; meaning = m }

abbrev pub find : Scope → List ℕ → Option Meaning
find [] text = None
find (e ∷ rest) text = if same_word e.name text then Some e.meaning else find rest text

-- The name stands for this.
pub record Stands (s : Scope) (x : Name) (m : Meaning) : Type 0 where
  pub found : find s x.text ≡ Some m

-- The name stands for nothing.
pub record IsFree (s : Scope) (x : Name) : Type 0 where
  pub missing : find s x.text ≡ None

-- Visible in the body of a test, beside its parameters.
abbrev pub is_label : Meaning → Bool
is_label Unfinished = false
is_label (Enum e) = false
is_label (Label e l) = true
is_label (Value k v) = false
is_label (IntCell c) = false
is_label (EnumCell c e) = false
is_label (HoldCell c ks) = false
is_label (NumsCell c) = false
is_label (WordsCell c) = false
is_label (Test t ks) = false

-- Visible in the report.
abbrev pub is_cell : Meaning → Bool
is_cell Unfinished = false
is_cell (Enum e) = false
is_cell (Label e l) = false
is_cell (Value k v) = false
is_cell (IntCell c) = true
is_cell (EnumCell c e) = true
is_cell (HoldCell c ks) = true
is_cell (NumsCell c) = true
is_cell (WordsCell c) = true
is_cell (Test t ks) = false

-- Not visible in the update, where all else is.
abbrev pub is_enum : Meaning → Bool
is_enum Unfinished = false
is_enum (Enum e) = true
is_enum (Label e l) = false
is_enum (Value k v) = false
is_enum (IntCell c) = false
is_enum (EnumCell c e) = false
is_enum (HoldCell c ks) = false
is_enum (NumsCell c) = false
is_enum (WordsCell c) = false
is_enum (Test t ks) = false

-- Whether the names of such things are in the view; hidden are those that the update doesn't see.
abbrev pub shows : View → Meaning → Bool
shows view.Tests m = is_label m
shows view.Update m = not (is_enum m)
shows view.Hidden m = is_enum m
shows view.Report m = is_cell m

abbrev pub visible : View → Scope → Scope
visible v s = filter (λ (e : Entry). shows v e.meaning) s

abbrev pub in_tests : Scope → Scope
in_tests s = visible view.Tests s

abbrev pub in_update : Scope → Scope
in_update s = visible view.Update s

abbrev pub hidden : Scope → Scope
hidden s = visible view.Hidden s

abbrev pub in_report : Scope → Scope
in_report s = visible view.Report s
