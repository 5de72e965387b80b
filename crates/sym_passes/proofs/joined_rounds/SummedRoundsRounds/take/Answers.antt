use Rattle.std.proofs.Common.{subst, sym}
use Rattle.sym_check.specs.Checking.CheckedScripts.{checked_plan}
use Rattle.sym_run.specs.Runs.{AreClosed, AreTight, GroupsFit, GroupsStandFor}
use Rattle.sym_run.proofs.FoundRecords.{run_tight}
use Rattle.sym_files.specs.Rounds.{shown_chunks}
use Rattle.sym_workers.proofs.RoundRuns.{round_bad}
use Rattle.sym_passes.proofs.Summed.{Chains, none_unless, round_summed}
use Rattle.sym_passes.proofs.joined_rounds.SummedRoundsRounds.take.Goals as goal

pub join_and_close-requires-clause-left : goal.join_and_close-requires-clause-left
join_and_close-requires-clause-left g c κs within =
    subst (GroupsFit (checked_plan c.args.work.now.checked)) (sym c.replace-earlier.ensures.value) c.requires.stands.1.fits

pub join_and_close-requires-clause-right : goal.join_and_close-requires-clause-right
join_and_close-requires-clause-right g c κs within =
    subst (GroupsFit (checked_plan c.args.work.now.checked)) (sym c.replace-next.ensures.value) c.in_ok-run.ensures.stands.fits

pub join_and_close-requires-clause-tight_left : goal.join_and_close-requires-clause-tight_left
join_and_close-requires-clause-tight_left g c κs within =
    subst (AreTight (checked_plan c.args.work.now.checked) c.args.work.now.limit) (sym c.replace-earlier.ensures.value) c.requires.stands.1.tight

pub join_and_close-requires-clause-tight_right : goal.join_and_close-requires-clause-tight_right
join_and_close-requires-clause-tight_right g c κs within =
    let p = checked_plan c.args.work.now.checked in
    let cuts = shown_chunks (g.G.Gate.shown c.args.self.now.gate.now) c.args.work.now.chunks in
    subst (AreTight p c.args.work.now.limit) (sym c.replace-next.ensures.value)
    (run_tight p c.args.work.now.limit cuts c.in_ok-run.run' c.in_ok-run.ensures.stands (none_unless _ (λ b e. c.in_default.not-Some b e)))

pub join_and_close-requires-clause-closed_left : goal.join_and_close-requires-clause-closed_left
join_and_close-requires-clause-closed_left g c κs within = subst AreClosed (sym c.replace-earlier.ensures.value) c.requires.stands.1.closed

pub returns-in-Some-clause-takes : goal.returns-in-Some-clause-takes
returns-in-Some-clause-takes g c =
    let cuts = shown_chunks (g.G.Gate.shown c.args.self.now.gate.now) c.args.work.now.chunks in
    round_bad (checked_plan c.args.work.now.checked) c.args.work.now.limit cuts c.in_ok-run.run' c.in-Some.bad c.in_ok-run.ensures c.in-Some.is

pub returns-clause-takes : goal.returns-clause-takes
returns-clause-takes g c =
    let p = checked_plan c.args.work.now.checked in
    let cuts = shown_chunks (g.G.Gate.shown c.args.self.now.gate.now) c.args.work.now.chunks in
    let joined = c.in_ok-self.ensures in
    round_summed p c.args.work.now.limit c.args.self.now.workers cuts c.in_ok-run.run' c.args.self.now.groups c.replace-earlier.result c.in_ok-run.run'.groups c.in_ok-self.field-0 c.in_ok-run.ensures (none_unless _ (λ b e. c.in_default.not-Some b e))
    c.replace-earlier.ensures.value
    (λ records s. s)
    joined.fits joined.tight (λ closed. joined.closed)
    (λ first rest a b. joined.stands first rest a (subst (λ (groups : Chains). GroupsStandFor p rest groups) (sym c.replace-next.ensures.value) b))
