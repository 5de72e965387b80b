use Rattle.std.proofs.Common.{◌∙◌, List, ap, subst, sym}
use Rattle.sym_check.specs.Plan.ScriptPlans.{ScriptPlan}
use Rattle.sym_table.specs.declared.chunk.Chunk.{Chunk}
use Rattle.sym_files.specs.Rounds.{IsRound, shown_chunks}
use Rattle.sym_workers_tests.specs.Showing.{shows_b}
use Rattle.sym_workers_tests.proofs.Shown.{round_shown}
use Rattle.sym_workers_tests.proofs.showing.ShowsBGate.work_round.Goals as goal

pub round-requires-clause-round : goal.round-requires-clause-round
round-requires-clause-round g c κs within =
    let cuts = c.args.work.now.chunks in
    let F : ScriptPlan → Type 0 = λ p. IsRound p.fields (shown_chunks shows_b cuts) in
    let C : List Chunk → Type 0 = λ shown. IsRound c.in_ok-copy.field-0.plan.fields shown in
    subst C (sym (c.in_ok-chunks_b.ensures ∙ ap (shown_chunks shows_b) c.as_slice.ensures))
    (subst F (sym c.in_ok-copy.ensures.plan) (round_shown shows_b _ cuts c.requires.round))
