-- No form from `index` on copies the cell so far.
use Rattle.std.proofs.Common.{◌≡◌, ◌≤◌, ◌<◌, ℕ, Some}
use Rattle.std.specs.Prelude.{slice_get}
use Rattle.sym_path.specs.declared.form.Form.{Form}
use Rattle.sym_path.specs.FormsAfter.{Copies}
use Rattle.sym_path.proofs.succession.is_copied.Given as goal

abbrev pub invariant-cells : goal.invariant-cells
invariant-cells l = (k : ℕ) (f : Form) → l.index ≤ k → k < l.at → slice_get l.forms k ≡ Some f → Copies l.cell f → ⊥
