use Rattle.std.proofs.Common.{List, refl, sym, subst}
use Rattle.sym_base.specs.declared.values.record.Record.{Record}
use Rattle.sym_check.specs.Checking.CheckedScripts.{checked_plan}
use Rattle.sym_run.specs.Chains.{ChainStandsFor, SegmentsStandFor}
use Rattle.sym_run.specs.Extended.{AreExtended, ChainIsExtended}
use Rattle.sym_run.specs.Opened.{KnownChainIsExtended, KnownChainStandsFor, OpenIsExtended, OpenStandsFor}
use Rattle.sym_run.proofs.Extensions.{pushed_extended}
use Rattle.sym_run.proofs.KeptRecords.{closed_stands}
use Rattle.sym_run.proofs.opened.Open.close.Goals as goal

pub returns-in_ok-segments-in-Known-clause-stands : goal.returns-in_ok-segments-in-Known-clause-stands
returns-in_ok-segments-in-Known-clause-stands c = λ records stand.
    let p = checked_plan c.args.checked.now in
    let all = c.in_ok-segments-in-Known.segments in
    let held : KnownChainStandsFor p records c.in-Known.before c.in-Known.known = subst (OpenStandsFor p records) c.in-Known.is stand in
    let last = c.in_ok-last-in-Known.ensures.stands held.rest held.after in
    subst (ChainStandsFor p records) (sym c.of_segments.ensures)
    (closed_stands p records all (subst (λ (rs : List Record). SegmentsStandFor p rs all) (sym held.cut)
    (c.in_ok-segments-in-Known.ensures.stands held.first held.rest held.before last)))

pub returns-in_ok-segments-in-Known-clause-extends : goal.returns-in_ok-segments-in-Known-clause-extends
returns-in_ok-segments-in-Known-clause-extends c = λ records extended.
    let p = checked_plan c.args.checked.now in
    let limit = c.args.limit in
    let all = c.in_ok-segments-in-Known.segments in
    let held : KnownChainIsExtended p limit records c.in-Known.before c.in-Known.known = subst (OpenIsExtended p limit records) c.in-Known.is extended in
    let last = c.in_ok-last-in-Known.ensures.stands held.rest held.after in
    subst (ChainIsExtended p limit records) (sym c.of_segments.ensures)
    (record {
      closed = refl;
      segments = subst (λ (rs : List Record). AreExtended p limit rs all) (sym held.cut)
          (pushed_extended p limit held.first held.rest c.in-Known.before c.in_ok-last-in-Known.last all c.in_ok-segments-in-Known.ensures.pushed held.before held.some last);
    })
