use Rattle.std.proofs.Common.{◌≡◌, ◌∙◌, ◌<◌, ◌≤◌, ◌^◌, ℕ, List, Some, ap, arith, length, refl, slice_get, subst, sym}
use Rattle.std.proofs.lemmas.Option.{slice_get_read}
use Rattle.sym_check.specs.Checking.CheckedScripts.{checked_plan}
use Rattle.sym_check.specs.Plan.ScriptPlans.{ScriptPlan}
use Rattle.sym_run.specs.SavedRuns.{IsLawfulGroup}
use Rattle.sym_file.specs.Places.{ChainPlace, IsChainThere, Span}
use Rattle.sym_file.specs.Reading.{chain_at}
use Rattle.sym_file.proofs.JoinedPlaces.{chain_found}
use Rattle.sym_file.proofs.joins.chain_there.Goals as goal

pub returns : goal.returns
returns c =
    let p : ScriptPlan = checked_plan c.args.checked.now in
    let spans = c.args.spans.now in
    let place : ChainPlace = record { text = c.place.inside.text; at = c.place.inside.at.now; rest = c.place.inside.rest } in
    let chain = c.in_ok-chain.chain in
    let after = c.in_ok-chain.after.now in
    let read : chain_at p place.at ≡ Some (chain, after) = subst (λ (q : ScriptPlan). chain_at q place.at ≡ Some (chain, after)) c.plan.ensures.same c.in_ok-chain.ensures in
    let span : Span = c.index-spans-place.result in
    let near = c.if-place-spans.false in
    let of : slice_get spans place.text ≡ Some span = slice_get_read spans (length spans) place.text span refl (omega (arith, near)) c.index-spans-place.is in
    let lawful : IsLawfulGroup p span.first span.next (c.args.key.now, chain) =
    subst (λ (s : Span). IsLawfulGroup p s.first s.next (c.args.key.now, chain)) c.span.view_is (c.is_lawful_group.ensures.0 c.if-not-is_lawful_group.false) in
    let told = c.place.told.0 in
    subst (λ (q : ChainPlace). IsChainThere p spans c.args.key.now q chain) c.place.view_is
    (chain_found p spans c.args.key.now place chain after span (omega (arith, told)) read c.if-after-place.false of lawful)
