-- The words so far are added.
use Rattle.std.proofs.Common.{◌≡◌, ◌++◌, take}
use Rattle.sym_known.proofs.plain_paths.add_words.Given as goal

abbrev pub invariant-words : goal.invariant-words
invariant-words l = l.longer ≡ l.fn.added ++ take l.index l.words
