-- Groups may be shared between threads.
use denote.Param.Send.{IsSync, sendable}
use Rattle.std.proofs.Crossing as heap
use Rattle.sym_base.specs.contracts.values.state.Outcome as outcome
use Rattle.sym_base.specs.contracts.values.value.Key as key
use Rattle.sym_base.specs.contracts.values.value.Value as value
use Rattle.sym_plain.specs.contracts.groups.Groups as groups

value_shared : IsSync (value.the_row)
value_shared = search (heap.crosses, sendable) depth 60 fits 20000

key_shared : IsSync (key.the_row)
key_shared = search (value_shared, heap.crosses, sendable) depth 60 fits 20000

outcome_shared : IsSync (outcome.the_row)
outcome_shared = search (value_shared, heap.crosses, sendable) depth 150 fits 60000

pub groups_shared : IsSync (groups.the_row)
groups_shared = search (key_shared, outcome_shared, heap.crosses, sendable) depth 150 fits 60000
