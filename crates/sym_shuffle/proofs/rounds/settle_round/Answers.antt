use denote.Param.Send.{sendable}
use Rattle.sym_shuffle.proofs.BatchesShared.{checked_shared}
use Rattle.sym_shuffle.proofs.GroupsShared.{groups_shared}
use Rattle.sym_shuffle.proofs.rounds.settle_round.Goals as goal

pub deal_all-requires-sync-S : goal.deal_all-requires-sync-S
deal_all-requires-sync-S g c κs within = search (checked_shared, groups_shared, sendable) depth 60 fits 20000
