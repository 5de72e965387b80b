-- Only blanks are behind the end.
use Rattle.std.proofs.Common.{◌≡◌, ◌≤◌, take, length}
use Rattle.sym_table.specs.Texts.{cut_blanks}
use Rattle.sym_table.proofs.field_values.blanks.cut_blanks.Given as goal

abbrev pub invariant-bytes : goal.invariant-bytes
invariant-bytes l = record {
  within : l.end ≤ length l.text;
  same : cut_blanks (take l.end l.text) ≡ cut_blanks l.text;
}

abbrev pub decreases-bytes : goal.decreases-bytes
decreases-bytes l = l.end
