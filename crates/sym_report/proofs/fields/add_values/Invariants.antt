-- The fields that were added are those of the first items.
use Rattle.std.proofs.Common.{◌≡◌, ◌++◌, take, map}
use Rattle.sym_report.specs.Csvs.{plain_word}
use Rattle.sym_report.specs.ValueTexts.{value_text}
use Rattle.sym_report.proofs.fields.add_values.Given as goal

abbrev pub invariant-values : goal.invariant-values
invariant-values l =
    l.fields ≡ l.initial.fields ++ map (value_text plain_word) (take l.value-index l.values)
