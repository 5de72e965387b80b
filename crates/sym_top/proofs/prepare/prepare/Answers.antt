use Rattle.std.proofs.Common.{◌∙◌, Some, ap, refl, option_map}
use Rattle.sym_command.specs.Words.{command_seen}
use Rattle.sym_command.proofs.Handed.{read-asked}
use Rattle.sym_top.proofs.Observed.{unwatched_observed}
use Rattle.sym_top.proofs.Preparing.{same-prepared, some-prepared, usage-prepared}
use Rattle.sym_top.proofs.prepare.prepare.Goals as goal

-- The command that the arguments ask for, in each arm.

pub returns-in-Run-clause-prepared : goal.returns-in-Run-clause-prepared
returns-in-Run-clause-prepared g c words is =
    same-prepared _ _ _ _ _ _ _ (c.in-Some.is ∙ ap Some c.in-Run.is)
    (c.prepare_run.ensures.prepared words (is ∙ (ap (option_map command_seen) c.in-Some.is ∙ ap (λ own. Some (command_seen own)) c.in-Run.is)))

pub returns-in-Trace-clause-prepared : goal.returns-in-Trace-clause-prepared
returns-in-Trace-clause-prepared g c words is =
    same-prepared _ _ _ _ _ _ _ (c.in-Some.is ∙ ap Some c.in-Trace.is)
    (c.prepare_trace.ensures.prepared words (g.G.Gate.shown c.args.gate.now) (is ∙ (ap (option_map command_seen) c.in-Some.is ∙ ap (λ own. Some (command_seen own)) c.in-Trace.is)))

pub returns-in-Reduce-clause-prepared : goal.returns-in-Reduce-clause-prepared
returns-in-Reduce-clause-prepared g c words is =
    same-prepared _ _ _ _ _ _ _ (c.in-Some.is ∙ ap Some c.in-Reduce.is)
    (c.prepare_reduce.ensures.prepared words (g.G.Gate.shown c.args.gate.now) (is ∙ (ap (option_map command_seen) c.in-Some.is ∙ ap (λ own. Some (command_seen own)) c.in-Reduce.is)))

pub returns-in-Check-clause-prepared : goal.returns-in-Check-clause-prepared
returns-in-Check-clause-prepared g c words is =
    let asks = read-asked words _ (g.G.Gate.shown c.args.gate.now) _ (is ∙ (ap (option_map command_seen) c.in-Some.is ∙ ap (λ own. Some (command_seen own)) c.in-Check.is)) in
    same-prepared _ _ _ _ _ _ _ (c.in-Some.is ∙ ap Some c.in-Check.is)
    (some-prepared _ _ _ _ _ _ _ asks (c.prepare_check.ensures.comes_to _ asks))

pub returns-in-Make-clause-prepared : goal.returns-in-Make-clause-prepared
returns-in-Make-clause-prepared g c words is =
    let asks = read-asked words _ (g.G.Gate.shown c.args.gate.now) _ (is ∙ (ap (option_map command_seen) c.in-Some.is ∙ ap (λ own. Some (command_seen own)) c.in-Make.is)) in
    same-prepared _ _ _ _ _ _ _ (c.in-Some.is ∙ ap Some c.in-Make.is)
    (some-prepared _ _ _ _ _ _ _ asks (c.prepare_make.ensures.comes_to _ asks refl))

pub returns-in-Map-clause-prepared : goal.returns-in-Map-clause-prepared
returns-in-Map-clause-prepared g c words is =
    let asks = read-asked words _ (g.G.Gate.shown c.args.gate.now) _ (is ∙ (ap (option_map command_seen) c.in-Some.is ∙ ap (λ own. Some (command_seen own)) c.in-Map.is)) in
    same-prepared _ _ _ _ _ _ _ (c.in-Some.is ∙ ap Some c.in-Map.is)
    (some-prepared _ _ _ _ _ _ _ asks (c.prepare_map.ensures.comes_to _ asks refl))

pub returns-in-Join-clause-prepared : goal.returns-in-Join-clause-prepared
returns-in-Join-clause-prepared g c words is =
    let asks = read-asked words _ (g.G.Gate.shown c.args.gate.now) _ (is ∙ (ap (option_map command_seen) c.in-Some.is ∙ ap (λ own. Some (command_seen own)) c.in-Join.is)) in
    same-prepared _ _ _ _ _ _ _ (c.in-Some.is ∙ ap Some c.in-Join.is)
    (some-prepared _ _ _ _ _ _ _ asks (c.prepare_join.ensures.comes_to _ asks))

pub returns-in-None-clause-prepared : goal.returns-in-None-clause-prepared
returns-in-None-clause-prepared g c words is =
    usage-prepared _ _ _ _ _ c.no_command.ensures (read-asked words _ (g.G.Gate.shown c.args.gate.now) _ (is ∙ ap (option_map command_seen) c.in-None.is))

pub returns-in-Run-clause-observed : goal.returns-in-Run-clause-observed
returns-in-Run-clause-observed g c words is =
    c.prepare_run.ensures.observed words (is ∙ (ap (option_map command_seen) c.in-Some.is ∙ ap (λ own. Some (command_seen own)) c.in-Run.is))

pub returns-in-Trace-clause-observed : goal.returns-in-Trace-clause-observed
returns-in-Trace-clause-observed g c words is =
    unwatched_observed _ _ _ _ _ (is ∙ (ap (option_map command_seen) c.in-Some.is ∙ ap (λ own. Some (command_seen own)) c.in-Trace.is)) refl refl

pub returns-in-Check-clause-observed : goal.returns-in-Check-clause-observed
returns-in-Check-clause-observed g c words is =
    unwatched_observed _ _ _ _ _ (is ∙ (ap (option_map command_seen) c.in-Some.is ∙ ap (λ own. Some (command_seen own)) c.in-Check.is)) refl refl

pub returns-in-Make-clause-observed : goal.returns-in-Make-clause-observed
returns-in-Make-clause-observed g c words is =
    unwatched_observed _ _ _ _ _ (is ∙ (ap (option_map command_seen) c.in-Some.is ∙ ap (λ own. Some (command_seen own)) c.in-Make.is)) refl refl

pub returns-in-Map-clause-observed : goal.returns-in-Map-clause-observed
returns-in-Map-clause-observed g c words is =
    unwatched_observed _ _ _ _ _ (is ∙ (ap (option_map command_seen) c.in-Some.is ∙ ap (λ own. Some (command_seen own)) c.in-Map.is)) refl refl

pub returns-in-Reduce-clause-observed : goal.returns-in-Reduce-clause-observed
returns-in-Reduce-clause-observed g c words is =
    unwatched_observed _ _ _ _ _ (is ∙ (ap (option_map command_seen) c.in-Some.is ∙ ap (λ own. Some (command_seen own)) c.in-Reduce.is)) refl refl

pub returns-in-Join-clause-observed : goal.returns-in-Join-clause-observed
returns-in-Join-clause-observed g c words is =
    unwatched_observed _ _ _ _ _ (is ∙ (ap (option_map command_seen) c.in-Some.is ∙ ap (λ own. Some (command_seen own)) c.in-Join.is)) refl refl

pub returns-in-None-clause-observed : goal.returns-in-None-clause-observed
returns-in-None-clause-observed g c words is =
    unwatched_observed _ _ _ _ _ (is ∙ ap (option_map command_seen) c.in-None.is) refl refl
