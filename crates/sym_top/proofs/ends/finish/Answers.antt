use Rattle.std.proofs.Common.{inl, refl, subst, sym}
use Rattle.sym_top.specs.Loading.{MayEnd, Ready}
use Rattle.sym_top.specs.Promises.{IsReported}
use Rattle.sym_top.proofs.Consequences.{refusal-refused, reported-written, stop-says, ready-says, cut-says}
use Rattle.sym_top.proofs.Observed.{cut_ends}
use Rattle.sym_top.proofs.ends.finish.Goals as goal

pub returns-in-Err-clause-says : goal.returns-in-Err-clause-says
returns-in-Err-clause-says g c call stops =
    stop-says call _ _ c.args.command.now c.in-Err.stop c.refuse.result (rw c.in-Err.is at stops) c.refuse.ensures.status
    (record { written = refl; faults = refl; short = refl }) c.refuse.ensures.told

pub returns-in-Ok-write_report-clause-says : goal.returns-in-Ok-write_report-clause-says
returns-in-Ok-write_report-clause-says g c call ready =
    ready-says call _ _ c.in-Ok.output.status c.bytes_of.result.now (subst (Ready call c.in-Ok.output.status) (sym c.bytes_of.ensures) (rw c.in-Ok.is at ready))
    c.in-Ok-write_report.ensures.whole (record { written = refl; faults = refl; short = refl })

pub returns-clause-says : goal.returns-clause-says
returns-clause-says g c call ready =
    cut-says call _ _ _ c.in-Ok.output.status c.bytes_of.result.now c.in-Err-write_report.why c.status.result
    (subst (Ready call c.in-Ok.output.status) (sym c.bytes_of.ensures) (rw c.in-Ok.is at ready)) c.status.ensures
    c.in-Err-write_report.ensures.part c.tell.ensures.told

-- What holds at an exit with little said, and is answered so that a mutant there fails at once.

pub returns-in-Err-clause-unwritten : goal.returns-in-Err-clause-unwritten
returns-in-Err-clause-unwritten g c stopped = refl

pub returns-in-Err-clause-memory : goal.returns-in-Err-clause-memory
returns-in-Err-clause-memory g c short = inl refl

pub returns-in-Err-clause-quiet : goal.returns-in-Err-clause-quiet
returns-in-Err-clause-quiet g c done =
    absurd (refusal-refused c.in-Err.stop.why (subst IsReported c.refuse.ensures.status done))

pub returns-in-Ok-write_report-clause-quiet : goal.returns-in-Ok-write_report-clause-quiet
returns-in-Ok-write_report-clause-quiet g c reported = refl

pub returns-in-Ok-write_report-clause-unwritten : goal.returns-in-Ok-write_report-clause-unwritten
returns-in-Ok-write_report-clause-unwritten g c stopped =
    absurd (reported-written _ (rw c.in-Ok.is at c.requires) stopped)

pub returns-in-Ok-write_report-clause-memory : goal.returns-in-Ok-write_report-clause-memory
returns-in-Ok-write_report-clause-memory g c short =
    absurd (subst IsReported short (rw c.in-Ok.is at c.requires))

pub returns-clause-quiet : goal.returns-clause-quiet
returns-clause-quiet g c done =
    absurd (refusal-refused c.in-Err-write_report.why (subst IsReported c.status.ensures done))

-- How it may end.

pub returns-in-Err-clause-status : goal.returns-in-Err-clause-status
returns-in-Err-clause-status g c =
    subst (λ made. MayEnd made c.refuse.result) (sym c.in-Err.is) c.refuse.ensures.status

pub returns-in-Ok-write_report-clause-status : goal.returns-in-Ok-write_report-clause-status
returns-in-Ok-write_report-clause-status g c =
    subst (λ made. MayEnd made c.in-Ok.output.status) (sym c.in-Ok.is) (inl refl)

pub returns-clause-status : goal.returns-clause-status
returns-clause-status g c =
    subst (λ made. MayEnd made c.status.result) (sym c.in-Ok.is)
    (cut_ends _ _ c.in-Ok.output.status c.in-Err-write_report.why c.status.result c.in-Err-write_report.ensures.part c.status.ensures)
