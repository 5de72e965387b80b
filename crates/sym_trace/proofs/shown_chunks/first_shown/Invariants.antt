-- The chunks so far have no row.
use Rattle.std.proofs.Common.{take}
use Rattle.std.specs.List.{All}
use Rattle.sym_trace.specs.Showing.{ShowsNone}
use Rattle.sym_trace.proofs.shown_chunks.first_shown.Given as goal

abbrev pub invariant-chunks : goal.invariant-chunks
invariant-chunks l = All (ShowsNone l.every) (take l.number l.chunks)
