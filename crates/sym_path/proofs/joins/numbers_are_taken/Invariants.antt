-- The numbers so far, from both ends, are the first form's on the constraint.
use Rattle.std.proofs.Common.{◌≡◌, ◌<◌, ◌-◌, ℕ, length}
use Rattle.sym_path.specs.Joins.{AddedIsTaken}
use Rattle.sym_path.proofs.joins.numbers_are_taken.Given as goal

abbrev pub invariant-added : goal.invariant-added
invariant-added l = record {
  lengths : length l.form ≡ length l.other;
  first : (d : ℕ) → d < l.index → AddedIsTaken l.when l.form l.other d;
  last : (d : ℕ) → d < l.index → AddedIsTaken l.when l.form l.other (length l.form - 1 - d);
}
