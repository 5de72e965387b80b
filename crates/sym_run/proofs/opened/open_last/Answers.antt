use Rattle.std.proofs.Common.{◌∙◌, [], refl, sym, subst}
use Rattle.sym_check.specs.Checking.CheckedScripts.{checked_plan}
use Rattle.sym_run.specs.Chains.{ChainStandsFor, SegmentsStandFor}
use Rattle.sym_run.specs.Extended.{AreExtendedBefore, ChainIsExtended}
use Rattle.sym_run.proofs.KeptRecords.{closed_stands}
use Rattle.sym_run.proofs.OpenedChains.{opened_extended, opened_stands}
use Rattle.sym_run.proofs.opened.open_last.Goals as goal

pub returns-then-not-ends_known-clause-stands : goal.returns-then-not-ends_known-clause-stands
returns-then-not-ends_known-clause-stands c = λ records stand.
    let p = checked_plan c.args.checked.now in
    subst (ChainStandsFor p records) (sym c.of_segments.ensures) (closed_stands p records c.args.segments stand)

pub returns-in-One-clause-stands : goal.returns-in-One-clause-stands
returns-in-One-clause-stands c = λ records stand.
    let p = checked_plan c.args.checked.now in
    opened_stands p records c.args.segments [] c.in-One.last c.known_after.result (sym c.in-One.ensures) stand
    (λ first rest before last. c.known_after.ensures.stands first rest (subst (SegmentsStandFor p first) (sym c.none.ensures) before) last)

pub returns-in-Some-clause-stands : goal.returns-in-Some-clause-stands
returns-in-Some-clause-stands c = λ records stand.
    let p = checked_plan c.args.checked.now in
    opened_stands p records c.args.segments c.pop.new.self.items c.in-Some.last c.known_after-in-Some.result (sym c.in-More.ensures ∙ c.in-Some.ensures.items) stand
    (λ first rest before last. c.known_after-in-Some.ensures.stands first rest (subst (SegmentsStandFor p first) (sym c.of.ensures) before) last)

pub returns-then-not-ends_known-clause-extends : goal.returns-then-not-ends_known-clause-extends
returns-then-not-ends_known-clause-extends c = λ records extended.
    let p = checked_plan c.args.checked.now in
    subst (ChainIsExtended p c.args.limit records) (sym c.of_segments.ensures) (record { closed = refl; segments = extended })

pub returns-in-One-clause-extends : goal.returns-in-One-clause-extends
returns-in-One-clause-extends c = λ records extended.
    let p = checked_plan c.args.checked.now in
    opened_extended p c.args.limit records c.args.segments [] c.in-One.last c.known_after.result (sym c.in-One.ensures) extended
    (λ first rest some before last. c.known_after.ensures.extends first rest some (subst (AreExtendedBefore p c.args.limit first rest) (sym c.none.ensures) before) last)

pub returns-in-Some-clause-extends : goal.returns-in-Some-clause-extends
returns-in-Some-clause-extends c = λ records extended.
    let p = checked_plan c.args.checked.now in
    opened_extended p c.args.limit records c.args.segments c.pop.new.self.items c.in-Some.last c.known_after-in-Some.result (sym c.in-More.ensures ∙ c.in-Some.ensures.items) extended
    (λ first rest some before last. c.known_after-in-Some.ensures.extends first rest some (subst (AreExtendedBefore p c.args.limit first rest) (sym c.of.ensures) before) last)
