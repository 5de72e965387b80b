-- What was appended, and what the bytes that are left add, is the whole.
use Rattle.std.proofs.Common.{◌≡◌, ◌++◌, drop}
use Rattle.std.specs.List.{flat_map}
use Rattle.sym_report.specs.Pairs.{escaped_byte}
use Rattle.sym_report.proofs.shown.push_inside.Given as goal

abbrev pub invariant-bytes : goal.invariant-bytes
invariant-bytes l =
    l.into.items ++ flat_map escaped_byte (drop l.byte-index l.word)
    ≡ l.initial.into.items ++ flat_map escaped_byte l.word
