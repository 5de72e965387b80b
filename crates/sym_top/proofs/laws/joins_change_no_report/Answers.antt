use Rattle.sym_top.proofs.JoinsReported.{joined_alone, reported_in_one, reported_joined}
use Rattle.sym_top.proofs.laws.joins_change_no_report.Goals as goal

pub returns-clause-joined : goal.returns-clause-joined
returns-clause-joined c parts texts joined runs end is found done = reported_joined parts texts joined runs is end found done

pub returns-clause-whole : goal.returns-clause-whole
returns-clause-whole c whole held joined runs end is found done = reported_in_one whole held joined runs is end found done

pub returns-clause-alone : goal.returns-clause-alone
returns-clause-alone c program bytes text is = joined_alone program bytes text is
