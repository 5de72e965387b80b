-- The first added numbers name no integer cell.
use Rattle.std.proofs.Common.{◌≡◌, ◌<◌, ℕ, Some, None}
use Rattle.std.specs.Prelude.{slice_get}
use Rattle.sym_int.specs.Lines.{form_cell}
use Rattle.sym_int.specs.declared.form.IntForm.{IntForm}
use Rattle.sym_path.proofs.succession.are_constants.Given as goal

abbrev pub invariant-added : goal.invariant-added
invariant-added l = (i : ℕ) (f : IntForm) → i < l.index → slice_get l.added i ≡ Some f → form_cell f ≡ None
