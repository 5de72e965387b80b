use Rattle.sym_lex.proofs.Agreement.{reads-once}
use Rattle.sym_lex.proofs.laws.every_text_reads_once.Goals as goal

pub returns : goal.returns
returns c = reads-once
