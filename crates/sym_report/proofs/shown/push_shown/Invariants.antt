-- The bytes so far are those of the word's first bytes.
use Rattle.std.proofs.Common.{◌≡◌, ◌++◌, take, map}
use Rattle.sym_report.specs.Tables.{shown_byte}
use Rattle.sym_report.proofs.shown.push_shown.Given as goal

abbrev pub invariant-bytes : goal.invariant-bytes
invariant-bytes l =
    l.into.items ≡ l.initial.into.items ++ map shown_byte (take l.byte-index l.word)
