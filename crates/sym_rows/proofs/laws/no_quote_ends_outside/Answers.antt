use Rattle.sym_rows.proofs.Parts.{no_quote_ends}
use Rattle.sym_rows.proofs.laws.no_quote_ends_outside.Goals as goal

pub returns : goal.returns
returns c = no_quote_ends
