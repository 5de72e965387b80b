-- Assignments to cells of a path.
use Rattle.std.specs.Prelude.{◌<◌, ℕ, List, [], ◌∷◌, ◌++◌, Option, Some, None}
use Rattle.sym_check.specs.Plan.CellKinds.{IsEnumCell}
use Rattle.sym_check.specs.Plan.DoPlans.{DoPlan, Let, SetInt, SetEnum, CopyEnum, Keep, KeepFrom, PushNum, PushWord, If}
use Rattle.sym_check.specs.Plan.ScriptPlans.{ScriptPlan}
use Rattle.sym_check.specs.Meaning.Validity.{label_count}
use Rattle.sym_base.specs.declared.values.value.Value.{Value}
use Rattle.sym_int.specs.declared.form.IntForm.{IntForm}
use Rattle.sym_pred.specs.declared.form.HoldForm.{HoldForm}
use Rattle.sym_pred.specs.declared.form.HoldForm.TheVariants as hold
use Rattle.sym_path.specs.declared.form.Form.{Form}
use Rattle.sym_path.specs.declared.form.Form.TheVariants as form
use Rattle.sym_path.specs.declared.path.Path.{Path}
use Rattle.sym_path.specs.Changing.{form_of, with_form}

-- The numbers, or words, that a form adds to the list of a cell; none of any other form.
abbrev pub added_numbers : Option Form → List IntForm
added_numbers None = []
added_numbers (Some (form.Enum f)) = []
added_numbers (Some (form.Int f)) = []
added_numbers (Some (form.Hold f)) = []
added_numbers (Some (form.Nums added)) = added
added_numbers (Some (form.Words added)) = []

-- The words that a form adds to the list of a cell; none of any other form, and of none.
abbrev pub added_words : Option Form → List (List ℕ)
added_words None = []
added_words (Some (form.Enum f)) = []
added_words (Some (form.Int f)) = []
added_words (Some (form.Hold f)) = []
added_words (Some (form.Nums added)) = []
added_words (Some (form.Words added)) = added

-- The form with one more of them; of any other form it is the only one.
abbrev pub one_number_more : Option Form → IntForm → Form
one_number_more old f = form.Nums (added_numbers old ++ f ∷ [])

-- The form of a list of words with one more word; of any other form it is the only one.
abbrev pub one_word_more : Option Form → List ℕ → Form
one_word_more old w = form.Words (added_words old ++ w ∷ [])

-- The form of a hold cell; none of any other form, and of none.
abbrev pub hold_form : Option Form → Option HoldForm
hold_form None = None
hold_form (Some (form.Enum f)) = None
hold_form (Some (form.Int f)) = None
hold_form (Some (form.Hold f)) = Some f
hold_form (Some (form.Nums added)) = None
hold_form (Some (form.Words added)) = None

-- The form that the path has of the hold cell with this number; none of any other cell, and after a
-- fault.
abbrev pub parts_form : Path → ℕ → Option HoldForm
parts_form path c = hold_form (form_of path.end c)

-- The cell is an enum cell whose enum has the label.
pub record HasLabel (p : ScriptPlan) (c l : ℕ) : Type 0 where
  pub of : ℕ
  pub is_enum : IsEnumCell p.cells c of
  pub within : l < label_count p.enums of

-- A statement that ends no path.
abbrev pub EndsNone : DoPlan → Type 0
EndsNone (Let n e) = ⊥
EndsNone (SetInt c t) = ⊥
EndsNone (SetEnum c l) = Unit {0}
EndsNone (CopyEnum c d) = Unit {0}
EndsNone (Keep c es) = ⊥
EndsNone (KeepFrom c d) = Unit {0}
EndsNone (PushNum c t) = ⊥
EndsNone (PushWord c w) = Unit {0}
EndsNone (If c a b) = ⊥

-- The path in which a hold cell has these parts.
abbrev pub with_parts : Path → ℕ → List Value → Path
with_parts path c parts = with_form path c (form.Hold (hold.Const parts))
