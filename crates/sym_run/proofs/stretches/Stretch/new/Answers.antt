use Rattle.std.proofs.Common.{subst, sym}
use Rattle.sym_run.specs.OpenRuns.{OpenStandsForChunks}
use Rattle.sym_run.specs.Opened.{open_kind}
use Rattle.sym_run.proofs.FoundRecords.{found_none}
use Rattle.sym_run.proofs.stretches.Stretch.new.Goals as goal

pub returns-clause-stands : goal.returns-clause-stands
returns-clause-stands c = λ p limit chunks within.
    subst (OpenStandsForChunks p limit chunks) (sym c.none.ensures) (found_none open_kind p limit chunks c.args.first within)
