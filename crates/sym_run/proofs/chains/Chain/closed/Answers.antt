use Rattle.std.proofs.Common.{List, ◌++◌, subst, sym}
use Rattle.sym_base.specs.declared.values.record.Record.{Record}
use Rattle.sym_check.specs.Checking.CheckedScripts.{checked_plan}
use Rattle.sym_run.specs.Chains.{ChainStandsFor, SegmentsStandFor}
use Rattle.sym_run.proofs.KeptRecords.{closed_stands, covered_stands}
use Rattle.sym_run.proofs.chains.Chain.closed.Goals as goal

pub returns-clause-stands : goal.returns-clause-stands
returns-clause-stands c = λ records h.
    let p = checked_plan c.args.checked.now in
    let all = c.in_ok-segments.segments in
    let parts = c.into_parts-segments.ensures in
    let covers : (first : List Record) → SegmentsStandFor p first c.args.self.segments → SegmentsStandFor p (first ++ c.args.self.kept) all =
    λ first stand. subst (λ (kept : List Record). SegmentsStandFor p (first ++ kept) all) parts.kept
    (c.in_ok-segments.ensures.stands first (subst (SegmentsStandFor p first) (sym parts.segments) stand)) in
    subst (ChainStandsFor p records) (sym c.of_segments.ensures) (closed_stands p records all (covered_stands p c.args.self all covers records h))
