use Rattle.std.proofs.Common.{◌≡◌, ◌∙◌, ◌<◌, List, Some, ap, arith, length, refl, slice_get, sym}
use Rattle.std.proofs.lemmas.Bool.Decides.{nat_tests}
use Rattle.std.proofs.lemmas.Option.{slice_get_read}
use Rattle.sym_check.specs.Checking.CheckedScripts.{checked_plan}
use Rattle.sym_check.specs.Plan.ScriptPlans.{ScriptPlan}
use Rattle.sym_file.specs.Places.{ChainPlace}
use Rattle.sym_file.proofs.JoinedPlaces.{fits_there, joining_done, joining_first, joining_on}
use Rattle.sym_file.proofs.joins.join_places.Goals as goal

pub places-init : goal.places-init
places-init c =
    let p : ScriptPlan = checked_plan c.args.checked.now in
    let items = c.places-2.inside.items.items in
    let place : ChainPlace = c.index.result.now in
    let empty = c.is_empty.ensures in
    let some = c.if-is_empty.false in
    let near : 0 < length items = grind (arith, nat_tests) in
    let at : slice_get c.args.places.now 0 ≡ Some place =
    ap (λ (ps : List ChainPlace). slice_get ps 0) (sym c.places-2.view_is) ∙ slice_get_read items (length items) 0 place refl near c.index.ensures in
    joining_first p c.args.limit c.args.spans.now c.args.key.now c.args.places.now place c.in_ok-joined.joined c.in_ok-joined.ensures at

pub join_chain-requires-clause-right : goal.join_chain-requires-clause-right
join_chain-requires-clause-right c =
    let p : ScriptPlan = checked_plan c.args.checked.now in
    fits_there p c.args.limit c.args.spans.now c.args.key.now c.args.places.now c.index-in-places.result.now c.in_ok-chain.chain c.in_ok-chain.ensures

pub places-preserved : goal.places-preserved
places-preserved c =
    let p : ScriptPlan = checked_plan c.args.checked.now in
    let items = c.places-2.inside.items.items in
    let i = c.places.at in
    let place : ChainPlace = c.index-in-places.result.now in
    let test = c.places-test.true in
    let end = c.len-at-end.ensures in
    let near : i < length items = omega (arith, test, end) in
    let at : slice_get c.args.places.now i ≡ Some place =
    ap (λ (ps : List ChainPlace). slice_get ps i) (sym c.places-2.view_is) ∙ slice_get_read items (length items) i place refl near c.index-in-places.ensures in
    joining_on p c.args.limit c.args.spans.now c.args.key.now c.args.places.now place c.in_ok-chain.chain c.in_ok-chain.ensures i c.places.joined c.join_chain.new.left c.places.invariant at c.in_ok-join_chain.ensures
