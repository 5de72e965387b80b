use Rattle.sym_watched.proofs.LastPartial.{last_partial, last_report}
use Rattle.sym_watched.proofs.laws.last_partials_are_reports.Goals as goal

pub returns-clause-last : goal.returns-clause-last
returns-clause-last c tree p rounds some = last_partial tree p rounds some

pub returns-clause-report : goal.returns-clause-report
returns-clause-report c tree w files rounds groups first see done some passed =
    last_report tree w files rounds groups first see done some passed
