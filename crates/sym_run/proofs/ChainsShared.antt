-- A checked script and the chains of a run may be shared between threads.
use denote.Enum.Declared.{shape}
use denote.Enum.Enum.{Enum}
use denote.Param.Send.{IsSync, sendable}
use denote.Struct.Declared.{row}
use Rattle.std.proofs.Crossing as heap
use Rattle.sym_base.specs.contracts.values.value.Key as key
use Rattle.sym_base.specs.contracts.values.value.Value as value
use Rattle.sym_check.specs.contracts.checked.accepted.Checked.{the_type as checked}
use Rattle.sym_check.proofs.CheckedShared.{checked_sync}
use Rattle.sym_path.specs.contracts.form.Form as form
use Rattle.sym_path.specs.contracts.part.Part as part
use Rattle.sym_path.specs.contracts.path.Path as path
use Rattle.sym_path.specs.contracts.path.PathEnd.{the_type as end}
use Rattle.sym_path.specs.contracts.segment.Segment as segment
use Rattle.sym_run.specs.contracts.chains.Chain as chain
use Rattle.sym_run.specs.contracts.kept.Kept as kept
use Rattle.sym_run.specs.contracts.segments.Held.{the_type as held}
use Rattle.sym_run.specs.contracts.segments.Segments as segments
use Rattle.sym_run.specs.contracts.run_groups.RunGroups.{the_row}

pub checked_shared : IsSync (row checked)
checked_shared = record { shared = λ x. checked_sync.shared (checked.to x) }

pub key_shared : IsSync (key.the_row)
key_shared = search (heap.crosses, sendable) depth 60 fits 20000

part_shared : IsSync (part.the_row)
part_shared = search (heap.crosses, sendable) depth 150 fits 60000

form_shared : IsSync (form.the_row)
form_shared = search (heap.crosses, sendable) depth 150 fits 60000

end_sync : IsSync (Enum (shape end))
end_sync = search (form_shared, heap.crosses, sendable) depth 60 fits 20000

pub path_shared : IsSync (path.the_row)
path_shared = search (part_shared, end_sync, heap.crosses, sendable) depth 60 fits 20000

segment_shared : IsSync (segment.the_row)
segment_shared = search (path_shared, heap.crosses, sendable) depth 60 fits 20000

held_sync : IsSync (Enum (shape held))
held_sync = search (segment_shared, heap.crosses, sendable) depth 60 fits 20000

segments_shared : IsSync (segments.the_row)
segments_shared = search (held_sync, sendable) depth 60 fits 20000

value_shared : IsSync (value.the_row)
value_shared = search (heap.crosses, sendable) depth 60 fits 20000

kept_shared : IsSync (kept.the_row)
kept_shared = search (value_shared, heap.crosses, sendable) depth 60 fits 20000

pub chain_shared : IsSync (chain.the_row)
chain_shared = search (segments_shared, kept_shared, heap.crosses, sendable) depth 60 fits 20000

pub groups_shared : IsSync the_row
groups_shared = search (key_shared, chain_shared, heap.crosses, sendable) depth 60 fits 20000
