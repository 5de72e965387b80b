use Rattle.sym_rows.proofs.Parts.{closed_outside, rows_closed}
use Rattle.sym_rows.proofs.laws.a_quote_closes_quotes.Goals as goal

pub returns : goal.returns
returns c = record { rows = rows_closed; ends = closed_outside }
