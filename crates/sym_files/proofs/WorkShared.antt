-- The work of a round may be shared between threads, as its checked script may.
use denote.Param.Send.{IsSync, sendable, struct_sync}
use denote.Struct.Struct.{Struct}
use denote.Struct.Declared.{row, shape}
use Rattle.std.proofs.Crossing as heap
use Rattle.sym_check.proofs.CheckedShared.{checked_sync}
use Rattle.sym_files.specs.contracts.rounds.Work.{the_type as work}

pub work_fields : IsSync (Struct (shape work))
work_fields = struct_sync (shape work) (checked_sync, (search (heap.crosses, sendable) depth 60 fits 20000, (search sendable, tt)))

pub work_shared : IsSync (row work)
work_shared = record { shared = λ x. work_fields.shared (work.to x) }
