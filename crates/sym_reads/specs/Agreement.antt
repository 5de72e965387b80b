-- Records that agree in the fields that an update reads, and how one is made of these values.
use Rattle.std.specs.Prelude.{◌≡◌, ℕ, pos, Bool, true, if◌then◌else◌, List, [], ◌∷◌, map, Some, slice_get}
use Rattle.sym_base.specs.declared.values.value.Value.{Value}
use Rattle.sym_base.specs.declared.values.value.Value.TheVariants as value
use Rattle.sym_base.specs.declared.values.record.Record.{Record}
use Rattle.sym_check.specs.declared.plan.script.FieldPlan.{FieldPlan}
use Rattle.sym_check.specs.declared.plan.script.KindPlan.{KindPlan}
use Rattle.sym_check.specs.declared.plan.script.KindPlan.TheVariants as kind
use Rattle.sym_check.specs.Plan.ScriptPlans.{ScriptPlan}
use Rattle.sym_check.specs.Meaning.Groups.{field_at}
use Rattle.sym_reads.specs.Naming.{NamesField}

-- The records have the same value in each field that the update names.
abbrev pub AgreeOnRead : ScriptPlan → Record → Record → Type 0
AgreeOnRead p rec other = (i : ℕ) → NamesField p i → field_at rec i ≡ field_at other i

-- They have the same number besides, which a fault carries.
pub record AreAlike (p : ScriptPlan) (rec other : Record) : Type 0 where
  pub no : rec.no ≡ other.no
  pub fields : AgreeOnRead p rec other

-- A value of the kind which takes no memory: 0, the empty word, or the first label.
abbrev pub blank_value : KindPlan → Value
blank_value kind.Num = value.Num (pos 0)
blank_value kind.Word = value.Word []
blank_value (kind.Label enum) = value.Label 0

-- The kinds of fields, in order.
abbrev pub kinds_of : List FieldPlan → List KindPlan
kinds_of fields = map (λ (f : FieldPlan). f.kind) fields

-- The record with this number that holds such a value in each field.
abbrev pub blank_record : ScriptPlan → ℕ → Record
blank_record p number = record { no = number; fields = map blank_value (kinds_of p.fields) }

-- Of each pair of values the first one where there is a mark, and elsewhere the second one.
abbrev pub where_marked : List Bool → List Value → List Value → List Value
where_marked [] others values = values
where_marked (mark ∷ marks) [] values = values
where_marked (mark ∷ marks) (x ∷ others) [] = []
where_marked (mark ∷ marks) (x ∷ others) (y ∷ values) =
    (if mark then x else y) ∷ where_marked marks others values

-- The record with the values of another one in the fields that are marked.
abbrev pub with_marked_of : Record → List Bool → Record → Record
with_marked_of from marks rec = record rec { fields = where_marked marks from.fields rec.fields }

-- Each field that the update names has a mark.
abbrev pub HasReadMarked : ScriptPlan → List Bool → Type 0
HasReadMarked p marks = (i : ℕ) → NamesField p i → slice_get marks i ≡ Some true
