-- The chunks so far, as they are shown.
use Rattle.std.proofs.Common.{◌≡◌, take}
use Rattle.sym_files.specs.Rounds.{shown_chunks}
use Rattle.sym_workers_tests.specs.Showing.{shows_b}
use Rattle.sym_workers_tests.proofs.showing.chunks_b.Given as goal

abbrev pub invariant-chunks : goal.invariant-chunks
invariant-chunks l = l.shown ≡ shown_chunks shows_b (take l.chunk-index l.fn.chunks)
