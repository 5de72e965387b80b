use denote.Param.Send.{sendable}
use Rattle.sym_files.proofs.WorkShared.{work_shared}
use Rattle.sym_workers.proofs.led_groups.led.Goals as goal

pub led_by-requires-sync-S : goal.led_by-requires-sync-S
led_by-requires-sync-S g c κs within = search (work_shared, sendable) depth 60 fits 20000
