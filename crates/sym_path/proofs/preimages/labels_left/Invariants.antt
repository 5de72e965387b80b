-- The labels that are left are those that pass the forms so far.
use Rattle.std.proofs.Common.{◌≡◌, ◌&&◌, ℕ, length, drop}
use Rattle.sym_enum.specs.Labels.{has_label}
use Rattle.sym_path.specs.Pulling.{zip_all, label_passes}
use Rattle.sym_path.proofs.preimages.labels_left.Given as goal

abbrev pub invariant-cells : goal.invariant-cells
invariant-cells l =
    (length l.forms ≡ length l.needs)
    × ((m : ℕ) → (has_label l.left m && zip_all (label_passes l.cell m) (drop l.index l.forms) (drop l.index l.needs)) ≡ (has_label l.fn.set m && zip_all (label_passes l.cell m) l.forms l.needs))
