use Rattle.std.proofs.Common.{◌≡◌, ◌∙◌, ◌++◌, [], List, ap, sym, subst}
use Rattle.std.proofs.lemmas.Result.{IfOk-weaker}
use Rattle.std.specs.List.{All}
use Rattle.sym_base.specs.declared.values.record.Record.{Record}
use Rattle.sym_check.specs.Checking.CheckedScripts.{checked_plan}
use Rattle.sym_path.specs.Fitting.{SegmentFits}
use Rattle.sym_run.specs.Chains.{HasFewPaths, SegmentsAreTight, SegmentsFit, SegmentsStandFor}
use Rattle.sym_run.proofs.ChainCuts.{cut_last}
use Rattle.sym_run.proofs.TightChains.{all_last}
use Rattle.sym_run.proofs.closed_joins.push_next.Goals as goal

pub returns-in-One-clause-stands : goal.returns-in-One-clause-stands
returns-in-One-clause-stands c = λ first rest h k.
    let p = checked_plan c.args.checked.now in
    let cut = cut_last p first [] c.in-One.left (subst (SegmentsStandFor p first) (sym c.in-One.ensures) h) in
    let start : first ≡ cut.rest = cut.all ∙ ap (λ (rs : List Record). rs ++ cut.rest) cut.whole in
    IfOk-weaker c.push_after_one.result (SegmentsStandFor p (cut.rest ++ rest)) (SegmentsStandFor p (first ++ rest))
    (λ chain s. subst (λ (rs : List Record). SegmentsStandFor p (rs ++ rest) chain) (sym start) s)
    (c.push_after_one.ensures.stands cut.rest rest cut.last k)

pub returns-in-One-clause-tight : goal.returns-in-One-clause-tight
returns-in-One-clause-tight c = λ first rest h k t f.
    let p = checked_plan c.args.checked.now in
    let cut = cut_last p first [] c.in-One.left (subst (SegmentsStandFor p first) (sym c.in-One.ensures) h) in
    let few = all_last (HasFewPaths p c.args.limit) [] c.in-One.left (subst (All (HasFewPaths p c.args.limit)) (sym c.in-One.ensures) t.few) in
    c.push_after_one.ensures.tight cut.rest rest cut.last k few f

pub push_after_one-requires-clause-left : goal.push_after_one-requires-clause-left
push_after_one-requires-clause-left c =
    let p = checked_plan c.args.checked.now in
    all_last (SegmentFits p) [] c.in-One.left (subst (SegmentsFit p) (sym c.in-One.ensures) c.requires.segments)

pub returns-in-More-clause-tight : goal.returns-in-More-clause-tight
returns-in-More-clause-tight c = λ first rest h k t f.
    let p = checked_plan c.args.checked.now in
    c.push_after.ensures.tight first rest (subst (SegmentsStandFor p first) (sym c.in-More.ensures) h) k (subst (SegmentsAreTight p c.args.limit) (sym c.in-More.ensures) t) f
