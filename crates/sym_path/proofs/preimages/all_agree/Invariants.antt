-- The facts agree with what is needed of the forms so far.
use Rattle.std.proofs.Common.{◌≡◌, ◌<◌, ℕ, length, Some}
use Rattle.std.specs.Prelude.{slice_get}
use Rattle.sym_path.specs.Pulling.{Agrees}
use Rattle.sym_path.specs.declared.form.Form.{Form}
use Rattle.sym_path.specs.declared.part.Part.{Part}
use Rattle.sym_path.proofs.preimages.all_agree.Given as goal

abbrev pub invariant-cells : goal.invariant-cells
invariant-cells l =
    (length l.forms ≡ length l.needs)
    × ((d : ℕ) (f : Form) (need : Part) → d < l.index → slice_get l.forms d ≡ Some f → slice_get l.needs d ≡ Some need → Agrees l.cell l.facts f need)
