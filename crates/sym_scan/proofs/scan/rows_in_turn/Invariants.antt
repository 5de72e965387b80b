-- The rows of the parts so far.
use Rattle.std.proofs.Common.{◌≡◌}
use Rattle.std.specs.List.{flat_map}
use Rattle.sym_scan.proofs.scan.rows_in_turn.Given as goal

abbrev pub invariant-parts : goal.invariant-parts
invariant-parts l = l.rows.items ≡ flat_map (λ of. of) l.yielded
