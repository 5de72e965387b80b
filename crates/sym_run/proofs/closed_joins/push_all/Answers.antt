use Rattle.std.proofs.Common.{◌≡◌, ◌∙◌, ◌++◌, [], List, ap, sym, subst}
use Rattle.std.specs.List.{All}
use Rattle.sym_base.specs.declared.values.record.Record.{Record}
use Rattle.sym_check.specs.Checking.CheckedScripts.{checked_plan}
use Rattle.sym_path.specs.Fitting.{SegmentFits}
use Rattle.sym_path.specs.Standing.{StandsFor}
use Rattle.sym_run.specs.Chains.{HasFewPaths, SegmentsFit, SegmentsStandFor}
use Rattle.sym_run.proofs.ChainCuts.{cut_last}
use Rattle.sym_run.proofs.TightChains.{all_last}
use Rattle.sym_run.proofs.closed_joins.push_all.Goals as goal

pub push_next-requires-clause-segment : goal.push_next-requires-clause-segment
push_next-requires-clause-segment c =
    let p = checked_plan c.args.checked.now in
    all_last (SegmentFits p) [] c.in-One.segment (subst (SegmentsFit p) (sym c.in-One.ensures) c.requires.right)

pub returns-in-One-clause-tight : goal.returns-in-One-clause-tight
returns-in-One-clause-tight c = λ first rest h k t u.
    let p = checked_plan c.args.checked.now in
    let cut = cut_last p rest [] c.in-One.segment (subst (SegmentsStandFor p rest) (sym c.in-One.ensures) k) in
    let start : rest ≡ cut.rest = cut.all ∙ ap (λ (rs : List Record). rs ++ cut.rest) cut.whole in
    let few = all_last (HasFewPaths p c.args.limit) [] c.in-One.segment (subst (All (HasFewPaths p c.args.limit)) (sym c.in-One.ensures) u.few) in
    c.push_next.ensures.tight first rest h (subst (λ (rs : List Record). StandsFor p rs c.in-One.segment) (sym start) cut.last) t few
