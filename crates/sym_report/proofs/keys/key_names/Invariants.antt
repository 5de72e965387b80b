-- The names so far are the first ones.
use Rattle.std.proofs.Common.{◌≡◌, take}
use Rattle.sym_report.specs.ReportRows.{key_names}
use Rattle.sym_report.proofs.keys.key_names.Given as goal

abbrev pub invariant-names : goal.invariant-names
invariant-names l = l.names.items ≡ key_names (take l.name-index l.name-items)
