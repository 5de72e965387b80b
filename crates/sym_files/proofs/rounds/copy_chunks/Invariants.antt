-- The chunks so far are copied.
use Rattle.std.proofs.Common.{◌≡◌, take}
use Rattle.sym_files.proofs.rounds.copy_chunks.Given as goal

abbrev pub invariant-chunks : goal.invariant-chunks
invariant-chunks l = l.copied.items ≡ take l.chunk-index l.chunks
