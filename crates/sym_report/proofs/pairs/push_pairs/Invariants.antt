-- What was appended, and what the pairs that are left add, is the whole.
use Rattle.std.proofs.Common.{◌≡◌, ◌++◌, codes}
use Rattle.std.specs.Iterator.Adapters.{zip_first, zip_second}
use Rattle.std.specs.Slice.Iter.{iter_rest}
use Rattle.sym_report.specs.Appending.{continued}
use Rattle.sym_report.specs.Pairs.{pair_texts}
use Rattle.sym_report.proofs.pairs.push_pairs.Given as goal

abbrev pub invariant-pairs : goal.invariant-pairs
invariant-pairs l =
    let rest = l.name-iterator in
    let left = pair_texts (iter_rest (zip_first rest)) (iter_rest (zip_second rest)) in
    l.into.items ++ continued (codes " ") l.started left
    ≡ l.initial.into.items ++ continued (codes " ") l.initial.started (pair_texts l.names l.values)
