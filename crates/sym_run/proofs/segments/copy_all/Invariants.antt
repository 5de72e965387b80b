use Rattle.std.proofs.Common.{◌≡◌, take}
use Rattle.sym_run.proofs.segments.copy_all.Given as goal

abbrev pub invariant-segments : goal.invariant-segments
invariant-segments l = l.copied.items ≡ take l.segment-index l.segments
