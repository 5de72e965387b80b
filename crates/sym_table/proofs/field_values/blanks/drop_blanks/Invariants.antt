-- What is left of the text gives what is left of the whole.
use Rattle.std.proofs.Common.{◌≡◌, drop}
use Rattle.sym_table.specs.Texts.{drop_blanks}
use Rattle.sym_table.proofs.field_values.blanks.drop_blanks.Given as goal

abbrev pub invariant-bytes : goal.invariant-bytes
invariant-bytes l = drop_blanks (drop l.at l.text) ≡ drop_blanks l.text
