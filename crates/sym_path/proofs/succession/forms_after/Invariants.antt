-- What the forms so far become; those that are still needed are there.
use Rattle.std.proofs.Common.{◌≡◌, ℕ, length, Some}
use Rattle.std.specs.Prelude.{slice_get}
use Rattle.sym_path.specs.FormsAfter.{FormAfter, NeededFrom}
use Rattle.sym_path.specs.declared.form.Form.{Form}
use Rattle.sym_path.proofs.succession.forms_after.Given as goal

abbrev pub invariant-cells : goal.invariant-cells
invariant-cells l =
    (length l.after.items ≡ l.index)
    × ((c : ℕ) (g r : Form) → slice_get l.others c ≡ Some g → slice_get l.after.items c ≡ Some r → FormAfter l.initial.forms l.lefts l.context c g r)
    × ((d : ℕ) (f : Form) → slice_get l.initial.forms d ≡ Some f → NeededFrom l.others l.index d f → slice_get l.forms d ≡ Some f)
