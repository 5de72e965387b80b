-- A checked script and batches may be shared between threads.
use denote.Param.Send.{IsSync, sendable}
use denote.Struct.Declared.{row}
use Rattle.std.proofs.Crossing as heap
use Rattle.sym_check.specs.contracts.checked.accepted.Checked.{the_type as checked}
use Rattle.sym_check.proofs.CheckedShared.{checked_sync}
use Rattle.sym_shuffle.specs.contracts.batch.Batch as batch
use Rattle.sym_shuffle.specs.contracts.packed.PackedValues as packed

pub checked_shared : IsSync (row checked)
checked_shared = record { shared = λ x. checked_sync.shared (checked.to x) }

values_shared : IsSync (packed.the_row)
values_shared = search (heap.crosses, sendable) depth 60 fits 20000

pub batch_shared : IsSync (batch.the_row)
batch_shared = search (values_shared, heap.crosses, sendable) depth 60 fits 20000
