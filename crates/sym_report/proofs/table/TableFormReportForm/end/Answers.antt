use Rattle.std.proofs.Common.{rules}
use Rattle.sym_report.proofs.table.TableFormReportForm.end.Goals as goal

pub returns-clause-ok : goal.returns-clause-ok
returns-clause-ok c = search rules
