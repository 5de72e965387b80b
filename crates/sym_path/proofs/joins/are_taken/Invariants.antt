-- The forms so far are the first ones on the constraint.
use Rattle.std.proofs.Common.{◌≡◌, ◌<◌, ℕ, length, Some}
use Rattle.std.specs.Prelude.{slice_get}
use Rattle.sym_path.specs.declared.form.Form.{Form}
use Rattle.sym_path.specs.Taking.{IsTakenTo}
use Rattle.sym_path.proofs.joins.are_taken.Given as goal

abbrev pub invariant-cells : goal.invariant-cells
invariant-cells l =
    (length l.forms ≡ length l.others)
    × ((d : ℕ) (f g : Form) → d < l.index → slice_get l.forms d ≡ Some f → slice_get l.others d ≡ Some g → IsTakenTo l.when f g)
