-- The elements so far stand after the old words.
use Rattle.std.proofs.Common.{◌≡◌, ◌++◌, take, Some}
use Rattle.sym_base.specs.States.{cell_words}
use Rattle.sym_path.proofs.outcomes.words_of.Given as goal

abbrev pub invariant-added : goal.invariant-added
invariant-added l = l.words ≡ cell_words (Some l.fn.old) ++ take l.index l.added
