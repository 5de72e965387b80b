-- The first values are the first parts.
use Rattle.std.proofs.Common.{◌≡◌, ◌≤◌, length, take}
use Rattle.sym_path.proofs.drafts.set_parts.Given as goal

abbrev pub invariant-parts : goal.invariant-parts
invariant-parts l = record {
  written : take l.index l.values ≡ take l.index l.parts;
  long : l.index ≤ length l.values;
}
