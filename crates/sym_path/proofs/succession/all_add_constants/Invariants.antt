-- The numbers that the first forms add to lists name no integer cell.
use Rattle.std.proofs.Common.{◌≡◌, ◌<◌, ℕ, Some}
use Rattle.std.specs.Prelude.{slice_get}
use Rattle.sym_path.specs.declared.form.Form.{Form}
use Rattle.sym_path.specs.FormsAfter.{AddsConstants}
use Rattle.sym_path.proofs.succession.all_add_constants.Given as goal

abbrev pub invariant-cells : goal.invariant-cells
invariant-cells l = (i : ℕ) (f : Form) → i < l.index → slice_get l.forms i ≡ Some f → AddsConstants f
