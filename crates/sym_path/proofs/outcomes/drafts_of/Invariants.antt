-- Drafts of the first cells are made; the other lists still stand in the state.
use Rattle.std.proofs.Common.{◌≡◌, ◌≤◌, ℕ, length}
use Rattle.std.specs.Prelude.{slice_get}
use Rattle.sym_path.specs.Leading.{SameButLists}
use Rattle.sym_path.specs.Writing.{AreDrafts}
use Rattle.sym_path.proofs.outcomes.drafts_of.Given as goal

abbrev pub invariant-cells : goal.invariant-cells
invariant-cells l = record {
  same : SameButLists l.fn.state l.state;
  ahead : (d : ℕ) → l.index ≤ d → slice_get l.state.cells d ≡ slice_get l.fn.state.cells d;
  count : length l.state.cells ≡ length l.fn.state.cells;
  made : AreDrafts l.forms l.fn.state l.index l.drafts.items;
}
