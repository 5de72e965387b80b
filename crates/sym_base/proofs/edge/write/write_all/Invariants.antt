use Rattle.std.proofs.Common.{length, ◌-◌, ◌≡◌, ◌≤◌, take}
use Rattle.sym_base.specs.Transfers.{appended}
use Rattle.sym_base.proofs.edge.write.write_all.Given as goal

-- The first bytes, up to the place reached, are appended.
abbrev pub invariant-pieces : goal.invariant-pieces
invariant-pieces g l = record {
  inside : l.done ≤ length l.bytes;
  put : g.O.Sink.written l.sink ≡ appended (g.O.Sink.written l.initial.sink) (take l.done l.bytes);
  later : g.O.Sink.faults l.initial.sink ≤ g.O.Sink.faults l.sink;
  later_short : g.O.Sink.short l.initial.sink ≤ g.O.Sink.short l.sink;
}

abbrev pub decreases-pieces : goal.decreases-pieces
decreases-pieces g l = length l.bytes - l.done
