-- Something is left of the cells so far.
use Rattle.std.proofs.Common.{◌≡◌, ◌<◌, ℕ, length, Some}
use Rattle.std.specs.Prelude.{slice_get}
use Rattle.sym_path.specs.Possible.{IsLeft}
use Rattle.sym_path.specs.declared.part.Part.{Part}
use Rattle.sym_path.proofs.possible_pairs.all_left.Given as goal

abbrev pub invariant-cells : goal.invariant-cells
invariant-cells l =
    (length l.forms ≡ length l.needs)
    × ((d : ℕ) (p : Part) → d < l.index → slice_get l.when d ≡ Some p → IsLeft l.forms l.needs d p)
