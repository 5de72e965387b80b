-- What was appended, and what the items that are left add, is the whole.
use Rattle.std.proofs.Common.{◌≡◌, ◌++◌, drop, map}
use Rattle.sym_report.specs.Appending.{continued}
use Rattle.sym_report.proofs.shown.push_joined.Given as goal

abbrev pub invariant-items : goal.invariant-items
invariant-items g l =
    let text = g.T.Shown.text l.style in
    l.into.items ++ continued l.separator l.started (map text (drop l.item-index l.items))
    ≡ l.initial.into.items ++ continued l.separator l.initial.started (map text l.items)
