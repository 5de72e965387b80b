use Rattle.std.proofs.Common.{◌≡◌, ◌∙◌, ◌<◌, List, Some, length, inr, refl, sym, ap, subst}
use Rattle.std.proofs.lemmas.Option.{slice_get_read, slice_get_within}
use Rattle.std.proofs.lemmas.Result.{on_ok_weaker}
use Rattle.std.specs.Prelude.{slice_get}
use Rattle.sym_base.specs.Tests.{Truth}
use Rattle.sym_base.specs.declared.values.state.Outcome.{Outcome}
use Rattle.sym_check.specs.Checking.CheckedScripts.{checked_plan}
use Rattle.sym_check.specs.Meaning.Conditions.{test_truth}
use Rattle.sym_path.specs.Leading.{LeadsTo}
use Rattle.sym_path.specs.declared.path.Path.{Path}
use Rattle.sym_path.proofs.Led.{led_by, led_first}
use Rattle.sym_path.proofs.segment.Segment.lead.Goals as goal

pub returns-in-Some-clause-leads : goal.returns-in-Some-clause-leads
returns-in-Some-clause-leads c =
    let p = checked_plan c.args.checked.now in
    let truth : Truth = test_truth p.tests in
    let items : List Path = c.paths.result.now in
    let path : Path = c.index-paths-index.result in
    let self : List Path = c.args.self.now in
    let seen : items ≡ self = c.paths.ensures in
    let first = c.in-Some.ensures in
    let within : c.in-Some.index < length items = rw seen (slice_get_within self c.in-Some.index first.path first.is) in
    let at : slice_get self c.in-Some.index ≡ Some path = ap (λ (ps : List Path). slice_get ps c.in-Some.index) (sym seen) ∙ slice_get_read items (length items) c.in-Some.index path refl within c.index-paths-index.is in
    on_ok_weaker c.lead.result
    (λ gives. led_first truth self c.in-Going.state c.args.outcome.now c.lead.new.outcome c.in-Some.index path c.in-Going.is first at gives)
    c.lead.ensures.value

pub returns-in-Some-clause-value : goal.returns-in-Some-clause-value
returns-in-Some-clause-value c = λ records stands.
    let p = checked_plan c.args.checked.now in
    let truth : Truth = test_truth p.tests in
    let items : List Path = c.paths.result.now in
    let path : Path = c.index-paths-index.result in
    let self : List Path = c.args.self.now in
    let seen : items ≡ self = c.paths.ensures in
    let first = c.in-Some.ensures in
    let within : c.in-Some.index < length items = rw seen (slice_get_within self c.in-Some.index first.path first.is) in
    let at : slice_get self c.in-Some.index ≡ Some path = ap (λ (ps : List Path). slice_get ps c.in-Some.index) (sym seen) ∙ slice_get_read items (length items) c.in-Some.index path refl within c.index-paths-index.is in
    on_ok_weaker c.lead.result
    (λ gives. led_by p records self c.args.outcome.now c.lead.new.outcome stands c.requires.valid
    (led_first truth self c.in-Going.state c.args.outcome.now c.lead.new.outcome c.in-Some.index path c.in-Going.is first at gives))
    c.lead.ensures.value

pub returns-in-None-clause-value : goal.returns-in-None-clause-value
returns-in-None-clause-value c = λ records stands.
    let p = checked_plan c.args.checked.now in
    led_by p records c.args.self.now c.args.outcome.now c.args.outcome.now stands c.requires.valid
    (subst (λ (o : Outcome). LeadsTo (test_truth p.tests) c.args.self.now o o) (sym c.in-Going.is) (inr (c.in-None.ensures, refl)))

pub returns-in-Ended-clause-value : goal.returns-in-Ended-clause-value
returns-in-Ended-clause-value c = λ records stands.
    let p = checked_plan c.args.checked.now in
    led_by p records c.args.self.now c.args.outcome.now c.args.outcome.now stands c.requires.valid
    (subst (λ (o : Outcome). LeadsTo (test_truth p.tests) c.args.self.now o o) (sym c.in-Ended.is) refl)
