use denote.Param.Send.{sendable}
use Rattle.sym_shuffle.proofs.BatchesShared.{batch_shared, checked_shared}
use Rattle.sym_shuffle.proofs.rounds.lead_round.Goals as goal

pub lead_all-requires-sync-S : goal.lead_all-requires-sync-S
lead_all-requires-sync-S g c κs within = search (checked_shared, batch_shared, sendable) depth 60 fits 20000
