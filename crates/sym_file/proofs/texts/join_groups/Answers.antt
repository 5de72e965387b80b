use denote.Param.Send.{sendable}
use Rattle.std.proofs.Crossing as heap
use Rattle.sym_run.proofs.ChainsShared.{checked_shared, key_shared}
use Rattle.sym_file.proofs.texts.join_groups.Goals as goal

pub join_each-requires-sync-S : goal.join_each-requires-sync-S
join_each-requires-sync-S g c κs within = search (checked_shared, key_shared, heap.crosses, sendable) depth 60 fits 20000
