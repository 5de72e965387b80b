-- What was read, and what is still read, come to the whole.
use Rattle.std.proofs.Common.{◌≡◌, ◌-◌}
use Rattle.sym_file.specs.Reading.{apart, many, word_at}
use Rattle.sym_file.proofs.Loops.{with_front}
use Rattle.sym_file.proofs.forms.words.Given as goal

abbrev pub invariant-words : goal.invariant-words
invariant-words l = with_front l.added (many (apart word_at) (l.count - l.counter) l.rest) ≡ many (apart word_at) l.count l.bytes
