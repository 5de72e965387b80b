-- The rows of the chunks so far.
use Rattle.std.proofs.Common.{◌≡◌, length, take}
use Rattle.sym_files.specs.Taking.{rows_of}
use Rattle.sym_watched.proofs.watched.count_rows.Given as goal

abbrev pub invariant-chunks : goal.invariant-chunks
invariant-chunks l = l.count ≡ length (rows_of (take l.chunk-index l.chunks))
