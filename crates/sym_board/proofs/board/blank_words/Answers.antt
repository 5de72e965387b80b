use Rattle.sym_board.proofs.State.Opening.{zero_words}
use Rattle.sym_board.proofs.board.blank_words.Goals as goal

pub returns-clause-blank : goal.returns-clause-blank
returns-clause-blank c = λ i. zero_words 65 c.args.count i
