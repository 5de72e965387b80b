-- The parts so far are of the first chunks.
use Rattle.std.proofs.Common.{◌≤◌, ◌-◌}
use Rattle.sym_scan.specs.Parts.{AreParts}
use Rattle.sym_scan.proofs.parts.parts.Given as goal

abbrev pub invariant-parts : goal.invariant-parts
invariant-parts l = record { within : l.first ≤ l.chunks; are : AreParts 0 l.first l.parts.items }

abbrev pub decreases-parts : goal.decreases-parts
decreases-parts l = l.chunks - l.first
