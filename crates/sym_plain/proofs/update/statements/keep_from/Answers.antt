use Rattle.std.proofs.Common.{rules}
use Rattle.sym_plain.proofs.Places.{set-twice, get-elsewhere}
use Rattle.sym_plain.proofs.update.statements.keep_from.Goals as goal

pub returns : goal.returns
returns c = search (set-twice, get-elsewhere, rules)
