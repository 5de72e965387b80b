-- The first cells are finished, and the other drafts are left.
use Rattle.std.proofs.Common.{◌≡◌, ◌≤◌, ℕ, length}
use Rattle.std.specs.Prelude.{slice_get}
use Rattle.sym_path.specs.Writing.{AreFinished}
use Rattle.sym_path.proofs.drafts.finish_all.Given as goal

abbrev pub invariant-cells : goal.invariant-cells
invariant-cells l = record {
  done : AreFinished l.forms l.fn.drafts l.fn.state l.index l.state;
  ahead : (d : ℕ) → l.index ≤ d → slice_get l.left d ≡ slice_get l.fn.drafts d;
}
