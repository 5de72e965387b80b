-- A path split by the label of an enum cell.
use Rattle.std.specs.Prelude.{◌≡◌, ◌==◌, ℕ, Bool, List, ◌++◌, Option, Some, None, slice_get, Result, Ok}
use Rattle.sym_base.specs.States.{label_at}
use Rattle.sym_base.specs.declared.values.state.State.{State}
use Rattle.sym_check.specs.declared.evaluate.arithmetic.Arith.{Arith}
use Rattle.sym_check.specs.Meaning.Conditions.{test_truth}
use Rattle.sym_check.specs.Plan.ScriptPlans.{ScriptPlan}
use Rattle.sym_enum.specs.declared.form.EnumForm.{EnumForm}
use Rattle.sym_enum.specs.declared.label_set.LabelSet.{LabelSet}
use Rattle.sym_path.specs.declared.part.Part.{Part}
use Rattle.sym_path.specs.declared.part.Part.TheVariants as part
use Rattle.sym_path.specs.declared.form.Form.{Form}
use Rattle.sym_path.specs.declared.form.Form.TheVariants as form
use Rattle.sym_path.specs.declared.path.Path.{Path}
use Rattle.sym_path.specs.Changing.{form_of}
use Rattle.sym_path.specs.Giving.{given}
use Rattle.sym_explore.specs.Branches.{judged, with_truth}
use Rattle.sym_explore.specs.declared.branch.Branch.{Branch}

-- The form of an enum cell; none of any other form, and of none.
abbrev pub enum_form : Option Form → Option EnumForm
enum_form None = None
enum_form (Some (form.Enum f)) = Some f
enum_form (Some (form.Int f)) = None
enum_form (Some (form.Hold f)) = None
enum_form (Some (form.Nums added)) = None
enum_form (Some (form.Words added)) = None

-- The form that the path has of the enum cell with this number; none of any other cell, and after a
-- fault.
abbrev pub label_form : Path → ℕ → Option EnumForm
label_form path c = enum_form (form_of path.end c)

-- The labels of an enum cell; none of any other part, and of none.
abbrev pub set_in : Option Part → Option LabelSet
set_in None = None
set_in (Some (part.Set set)) = Some set
set_in (Some (part.Span span)) = None
set_in (Some (part.Facts known)) = None
set_in (Some part.Free) = None

-- The labels that the path's constraint has for the enum cell with this number; none for any other
-- cell.
abbrev pub set_of : Path → ℕ → Option LabelSet
set_of path c = set_in (slice_get path.when c)

-- Whether the cell holds the label.
abbrev pub cell_has : ℕ → ℕ → State → Result Bool Arith
cell_has c l s = Ok (label_at s c == l)

-- The path and the branches before, and those after: the new branches and the path, with its truth,
-- give what the path gave, with the truth that the cell held the label before the path.
abbrev pub WasSplit : ScriptPlan → ℕ → ℕ → Path → List Branch → Path → List Branch → Bool → Type 0
WasSplit p c l old before path after last = (s : State) →
    judged (test_truth p.tests) after s ++ with_truth (Some last) (given (test_truth p.tests) path s)
    ≡ judged (test_truth p.tests) before s
    ++ with_truth (Some (label_at s c == l)) (given (test_truth p.tests) old s)
