-- The starts of the keys so far.
use Rattle.std.proofs.Common.{◌≡◌, take}
use Rattle.std.specs.Map.{keys_of}
use Rattle.sym_scan.specs.Replays.{starts_of}
use Rattle.sym_scan.proofs.starts.Starts.of.Given as goal

abbrev pub invariant-keys : goal.invariant-keys
invariant-keys l = l.starts ≡ starts_of l.groups (keys_of (take l.index l.run.groups))
