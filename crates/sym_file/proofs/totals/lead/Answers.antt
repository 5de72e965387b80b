use Rattle.std.proofs.Common.{◌≡◌, ◌∙◌, ◌<◌, List, Some, length, refl, sym, ap}
use Rattle.std.proofs.lemmas.Option.{slice_get_read, slice_get_within}
use Rattle.std.specs.Prelude.{slice_get}
use Rattle.sym_base.specs.Tests.{Truth}
use Rattle.sym_check.specs.Checking.CheckedScripts.{checked_plan}
use Rattle.sym_check.specs.Meaning.Conditions.{test_truth}
use Rattle.sym_path.specs.declared.path.Path.{Path}
use Rattle.sym_file.specs.Totals.{led_by}
use Rattle.sym_file.proofs.Taking.{led_none, led_path}
use Rattle.sym_file.proofs.totals.lead.Goals as goal

pub returns-in_ok-lead-in-Some-clause-led : goal.returns-in_ok-lead-in-Some-clause-led
returns-in_ok-lead-in-Some-clause-led c =
    let truth : Truth = test_truth (checked_plan c.args.checked.now).tests in
    let items : List Path = c.paths.result.now in
    let path : Path = c.index-paths-index.result in
    let self : List Path = c.args.segment.now in
    let seen : items ≡ self = c.paths.ensures in
    let first = c.in-Some.ensures in
    let within : c.in-Some.index < length items = rw seen (slice_get_within self c.in-Some.index first.path first.is) in
    let at : slice_get self c.in-Some.index ≡ Some path = ap (λ (ps : List Path). slice_get ps c.in-Some.index) (sym seen) ∙ slice_get_read items (length items) c.in-Some.index path refl within c.index-paths-index.is in
    led_path truth self c.in-Going.state c.args.outcome.now c.lead.new.outcome c.in-Some.index path c.in-Going.is first at c.in_ok-lead-in-Some.ensures.value

pub returns-in-None-clause-led : goal.returns-in-None-clause-led
returns-in-None-clause-led c =
    let truth : Truth = test_truth (checked_plan c.args.checked.now).tests in
    ap (led_by truth c.args.segment.now) c.in-Going.is ∙ led_none truth c.args.segment.now c.in-Going.state c.in-None.ensures
