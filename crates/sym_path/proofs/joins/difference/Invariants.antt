-- The constraints are equal in the cells so far.
use Rattle.std.proofs.Common.{◌≡◌, ◌≤◌, ◌<◌, ℕ, length}
use Rattle.std.specs.Prelude.{slice_get}
use Rattle.sym_path.proofs.joins.difference.Given as goal

abbrev pub invariant-cells : goal.invariant-cells
invariant-cells l =
    (length l.v ≡ length l.w) × (l.index ≤ length l.v)
    × ((c : ℕ) → l.fn.from ≤ c → c < l.index → slice_get l.v c ≡ slice_get l.w c)
