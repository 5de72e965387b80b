-- The rows of the chunks so far are records.
use Rattle.std.proofs.Common.{drop}
use Rattle.std.specs.Option.{unwrap_or}
use Rattle.sym_check.specs.Checking.CheckedScripts.{checked_plan}
use Rattle.sym_files.specs.Rounds.{round_records}
use Rattle.sym_engine_tests.proofs.Noting.{IsRead}
use Rattle.sym_engine_tests.proofs.rounds.read_chunks.Given as goal

abbrev pub invariant-chunks : goal.invariant-chunks
invariant-chunks l =
    IsRead (round_records (checked_plan l.checked) (unwrap_or l.one) l.chunks) (round_records (checked_plan l.checked) (unwrap_or l.one) (drop l.chunk-index l.chunks))
