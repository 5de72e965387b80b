use Rattle.std.proofs.Common.{◌≡◌, ℕ, ◌≤◌, ◌-◌, List, length, IfSome, take}
use Rattle.sym_base.proofs.edge.read.read_all.Given as goal

-- The bytes so far are the first ones of the file.
abbrev pub invariant-pieces : goal.invariant-pieces
invariant-pieces g l = record {
  fits : length l.bytes.items ≤ l.max;
  front : IfSome (g.F.Store.holds l.initial.store l.name) (λ whole. l.bytes.items ≡ take (length l.bytes.items) whole);
  same : g.F.Store.holds l.store ≡ g.F.Store.holds l.initial.store;
  later : (other : List ℕ) → g.F.Store.faults l.initial.store other ≤ g.F.Store.faults l.store other;
}

abbrev pub decreases-pieces : goal.decreases-pieces
decreases-pieces g l = l.max - length l.bytes.items
