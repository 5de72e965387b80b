-- What was appended, and what the names that are left add, is the whole.
use Rattle.std.proofs.Common.{◌≡◌, ◌++◌, drop, codes}
use Rattle.sym_report.specs.Appending.{continued}
use Rattle.sym_report.proofs.table.push_names.Given as goal

abbrev pub invariant-names : goal.invariant-names
invariant-names l =
    l.into.items ++ continued (codes " | ") l.started (drop l.name-index l.names)
    ≡ l.initial.into.items ++ continued (codes " | ") l.initial.started l.names
