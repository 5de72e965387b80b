use Rattle.std.proofs.Common.{◌≡◌, take}
use Rattle.std.specs.List.{flat_map}
use Rattle.sym_base.specs.Transfers.{appended}
use Rattle.sym_message.specs.Telling.{Later, sunk}
use Rattle.sym_message.proofs.message.write_pieces.Given as goal

-- The pieces up to this one are appended.
abbrev pub invariant-pieces : goal.invariant-pieces
invariant-pieces g l = record {
  put : g.E.Sink.written l.err
      ≡ appended (g.E.Sink.written l.initial.err)
      (flat_map (λ piece. piece.now) (take l.piece-index l.pieces));
  later : Later (sunk g.E.Sink.written g.E.Sink.faults g.E.Sink.short l.initial.err l.err);
}
