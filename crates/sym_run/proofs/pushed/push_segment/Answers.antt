use Rattle.std.proofs.Common.{◌≡◌, ◌∙◌, ◌++◌, [], List, ap, sym, subst}
use Rattle.std.proofs.lemmas.Result.{IfOk-weaker}
use Rattle.sym_base.specs.declared.values.record.Record.{Record}
use Rattle.sym_check.specs.Checking.CheckedScripts.{checked_plan}
use Rattle.sym_run.specs.Chains.{SegmentsStandFor}
use Rattle.sym_run.proofs.ChainCuts.{cut_last}
use Rattle.sym_run.proofs.pushed.push_segment.Goals as goal

pub returns-in-One-clause-stands : goal.returns-in-One-clause-stands
returns-in-One-clause-stands c = λ first rest h k.
    let p = checked_plan c.args.checked.now in
    let cut = cut_last p first [] c.in-One.left (subst (SegmentsStandFor p first) (sym c.in-One.ensures) h) in
    let start : first ≡ cut.rest = cut.all ∙ ap (λ (rs : List Record). rs ++ cut.rest) cut.whole in
    IfOk-weaker c.push_onto_one.result (SegmentsStandFor p (cut.rest ++ rest)) (SegmentsStandFor p (first ++ rest))
    (λ chain s. subst (λ (rs : List Record). SegmentsStandFor p (rs ++ rest) chain) (sym start) s)
    (c.push_onto_one.ensures.stands cut.rest rest cut.last k)
