-- No name so far is this one.
use Rattle.std.proofs.Common.{◌≡◌, drop}
use Rattle.std.specs.List.{list_any}
use Rattle.sym_check.specs.Meaning.Conditions.{same_word}
use Rattle.sym_check.proofs.elaborate.test.unnamed.Given as goal

abbrev pub invariant-names : goal.invariant-names
invariant-names l = list_any (same_word l.name.text) l.text-items ≡ list_any (same_word l.name.text) (drop l.text-index l.text-items)
