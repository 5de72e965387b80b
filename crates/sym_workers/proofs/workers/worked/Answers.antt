use denote.Param.Send.{sendable}
use Rattle.sym_files.proofs.WorkShared.{work_shared}
use Rattle.sym_workers.proofs.workers.worked.Goals as goal

pub by_workers-requires-sync-S : goal.by_workers-requires-sync-S
by_workers-requires-sync-S g c κs within = search (work_shared, sendable) depth 60 fits 20000

pub by_workers-requires-send-S : goal.by_workers-requires-send-S
by_workers-requires-send-S g c κs within = search (work_shared, sendable) depth 60 fits 20000
