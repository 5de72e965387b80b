-- Numbers of terms over the state before a path.
use Rattle.std.specs.Prelude.{◌≡◌, ◌≢◌, ℕ, ℤ, pos, Bool, true, false, [], ◌∷◌, Option, Some, None, slice_get, Result, Ok, IsTrue}
use Rattle.sym_base.specs.Limits.{IsNumber}
use Rattle.sym_base.specs.States.{number_at}
use Rattle.sym_base.specs.declared.values.state.State.{State}
use Rattle.sym_base.specs.declared.values.state.Outcome.TheVariants.{Going}
use Rattle.sym_check.specs.declared.evaluate.arithmetic.Arith.{Arith}
use Rattle.sym_check.specs.declared.evaluate.pairs.Pair.{Pair}
use Rattle.sym_check.specs.Meaning.Arithmetic.{◌>>=◌}
use Rattle.sym_check.specs.Plan.CellKinds.{IsIntCell}
use Rattle.sym_check.specs.Meaning.Conditions.{test_truth}
use Rattle.sym_check.specs.Meaning.FixedValues.{Environment, number}
use Rattle.sym_check.specs.Plan.LinePlans.{TermPlan, OfNum, OfLine}
use Rattle.sym_check.specs.Meaning.LineValues.{pair, pair_at}
use Rattle.sym_check.specs.Plan.ScriptPlans.{ScriptPlan}
use Rattle.sym_int.specs.Lines.{form_on, form_cell, form_value, wide_on, wide_cell, wide_value}
use Rattle.sym_int.specs.declared.form.IntForm.{IntForm}
use Rattle.sym_int.specs.declared.span.Span.{Span}
use Rattle.sym_int.specs.declared.wide.Wide.{Wide}
use Rattle.sym_path.specs.declared.part.Part.{Part}
use Rattle.sym_path.specs.declared.part.Part.TheVariants as part
use Rattle.sym_path.specs.declared.form.Form.{Form}
use Rattle.sym_path.specs.declared.form.Form.TheVariants as form
use Rattle.sym_path.specs.declared.path.Path.{Path}
use Rattle.sym_path.specs.Changing.{GoesOn, form_of}
use Rattle.sym_path.specs.Giving.{given}
use Rattle.sym_explore.specs.declared.terms.Ready.{Ready}
use Rattle.sym_explore.specs.declared.terms.Ready.TheVariants as ready

-- A term with what its expressions come to that name no cell; failed arithmetic in one is that of
-- the term.
abbrev pub ready_of : Environment → TermPlan → Result Ready Arith
ready_of k (OfNum n) = do
  x ← number k n
  Ok (ready.Number x)
ready_of k (OfLine l) = do
  q ← pair k l
  Ok (ready.Line q)

-- The number of a ready term at a state.
abbrev pub ready_number : Ready → State → ℤ
ready_number (ready.Number x) s = x
ready_number (ready.Line q) s = pair_at q (number_at s q.cell)

-- Whether it names no cell.
abbrev pub is_fixed_ready : Ready → Bool
is_fixed_ready (ready.Number x) = true
is_fixed_ready (ready.Line q) = false

-- Its numbers are those of a script, and its cell is an integer cell.
abbrev pub ReadyFits : ScriptPlan → Ready → Type 0
ReadyFits p (ready.Number x) = IsNumber x
ReadyFits p (ready.Line q) = IsIntCell p.cells q.cell × IsNumber q.a × IsNumber q.b

-- The form of an integer cell; none of any other form, and of none.
abbrev pub int_form : Option Form → Option IntForm
int_form None = None
int_form (Some (form.Enum f)) = None
int_form (Some (form.Int f)) = Some f
int_form (Some (form.Hold f)) = None
int_form (Some (form.Nums added)) = None
int_form (Some (form.Words added)) = None

-- The form that the path has of the integer cell with this number; none of any other cell, and
-- after a fault.
abbrev pub number_form : Path → ℕ → Option IntForm
number_form path c = int_form (form_of path.end c)

-- The span of an integer cell; none of any other part, and of none.
abbrev pub span_in : Option Part → Option Span
span_in None = None
span_in (Some (part.Set set)) = None
span_in (Some (part.Span span)) = Some span
span_in (Some (part.Facts known)) = None
span_in (Some part.Free) = None

-- The span that the path's constraint has for the integer cell with this number; none for any other
-- cell.
abbrev pub span_of : Path → ℕ → Option Span
span_of path c = span_in (slice_get path.when c)

-- The number of the pair over a form: constant where the pair or the form is, and else over the
-- cell that the form names.
pub record IsPairOver (f : IntForm) (pair : Pair) (wide : Wide) : Type 0 where
  pub points : (x : ℤ) → wide_on wide x ≡ pair_at pair (form_on f x)
  pub value : (s : State) → wide_value wide s ≡ pair_at pair (form_value f s)
  pub constant : pair.a ≡ pos 0 → wide_cell wide ≡ None
  pub cell : pair.a ≢ pos 0 → wide_cell wide ≡ form_cell f

-- Where a number depends on a cell, the path has a span of this cell.
abbrev pub HasSpan : Path → Option ℕ → Type 0
HasSpan path None = Unit {0}
HasSpan path (Some c) = (span : Span) × (span_of path c ≡ Some span)

-- The number of the ready term after the path, over the state before it, where the path goes on.
pub record IsReadyOver (p : ScriptPlan) (r : Ready) (path : Path) (wide : Wide) : Type 0 where
  pub goes_on : GoesOn path.end
  pub number : (first later : State) → given (test_truth p.tests) path first ≡ Going later ∷ [] →
      ready_number r later ≡ wide_value wide first
  pub span : HasSpan path (wide_cell wide)
  pub fixed : IsTrue (is_fixed_ready r) → wide_cell wide ≡ None

-- Its number on the path, if that goes on.
abbrev pub IsReadyForm : ScriptPlan → Ready → Path → Option Wide → Type 0
IsReadyForm p r path (Some wide) = IsReadyOver p r path wide
IsReadyForm p r path None = ¬ (GoesOn path.end)
