use Rattle.std.proofs.Common.{◌∙◌, ◌++◌, List, ap, sym, subst, append_assoc}
use Rattle.sym_base.specs.declared.values.record.Record.{Record}
use Rattle.sym_check.specs.Checking.CheckedScripts.{checked_plan}
use Rattle.sym_run.specs.Chains.{SegmentsStandFor}
use Rattle.sym_run.proofs.ChainCuts.{cut_last}
use Rattle.sym_run.proofs.joined_groups.push_others.Goals as goal

pub segments-preserved : goal.segments-preserved
segments-preserved c =
    let p = checked_plan c.args.checked.now in
    record {
      some = λ one. c.in_ok-joined.ensures.some;
      fits = c.in_ok-joined.ensures.fits;
      tight = c.in_ok-joined.ensures.tight;
      stands = λ first rest h k.
          let cut = cut_last p rest c.segments.yielded c.in-Some.segment k in
          subst (λ (rs : List Record). SegmentsStandFor p rs c.in_ok-joined.joined)
          (append_assoc first cut.first cut.rest ∙ ap (λ (rs : List Record). first ++ rs) (sym cut.all))
          (c.in_ok-joined.ensures.stands (first ++ cut.first) cut.rest (c.segments.invariant.stands first cut.first h cut.whole) cut.last);
    }
