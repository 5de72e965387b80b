-- None of the paths so far can be joined with this one.
use Rattle.std.proofs.Common.{◌<◌, ℕ}
use Rattle.sym_path.specs.Settling.{CannotJoin}
use Rattle.sym_path.proofs.settled.partner.Given as goal

abbrev pub invariant-paths : goal.invariant-paths
invariant-paths l = (d : ℕ) → d < l.earlier → CannotJoin l.paths d l.index
