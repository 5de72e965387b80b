use Rattle.sym_scan.proofs.LastRows.{last_rows}
use Rattle.sym_scan.proofs.laws.last_rows_are_outcomes.Goals as goal

pub returns : goal.returns
returns c p records key = last_rows p records key
