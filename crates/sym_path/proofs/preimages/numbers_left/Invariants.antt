-- The numbers that are left are those that pass the forms so far.
use Rattle.std.proofs.Common.{◌≡◌, ◌↔◌, ℤ, length, drop}
use Rattle.std.specs.Prelude.{IsTrue}
use Rattle.sym_int.specs.Points.{HasPoint}
use Rattle.sym_path.specs.Pulling.{zip_all, number_passes}
use Rattle.sym_path.proofs.preimages.numbers_left.Given as goal

abbrev pub invariant-cells : goal.invariant-cells
invariant-cells l =
    (length l.forms ≡ length l.needs)
    × ((x : ℤ) → (HasPoint l.left x × IsTrue (zip_all (number_passes l.cell x) (drop l.index l.forms) (drop l.index l.needs))) ↔ (HasPoint l.span x × IsTrue (zip_all (number_passes l.cell x) l.forms l.needs)))
