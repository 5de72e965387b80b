use Rattle.std.proofs.Common.{◌≡◌, ◌∙◌, ◌-◌, ◌<◌, ℕ, List, [], Some, ap, arith, length, map, refl, slice_get, subst, sym}
use Rattle.std.proofs.lemmas.Bool.Decides.{nat_tests}
use Rattle.std.proofs.lemmas.Option.{slice_get_read}
use Rattle.std.specs.List.{AllZip}
use Rattle.sym_check.specs.Checking.CheckedScripts.{checked_plan}
use Rattle.sym_check.specs.Plan.ScriptPlans.{ScriptPlan}
use Rattle.sym_file.specs.PlacedTexts.{AreTextsPlaced, Placed}
use Rattle.sym_file.specs.Places.{AreInOrder, IsJoinOfPlaces, Span, placed_all}
use Rattle.sym_file.proofs.texts.join_own.Goals as goal

pub returns : goal.returns
returns g c =
    let p : ScriptPlan = checked_plan c.args.checked.now in
    let limit = c.args.limit in
    let own = c.args.own.now in
    let texts : List (List ℕ) = map (λ text. text.items) c.args.texts.now in
    let spans : List Span = c.in_ok-spans.spans.items in
    let places : Placed = c.place_texts.new.groups in
    let placed : AreTextsPlaced own p texts c.new-places.result places spans =
    subst (λ (q : ScriptPlan). AreTextsPlaced own q texts c.new-places.result places spans) c.plan.ensures.same c.in_ok-spans.ensures in
    let are : places ≡ placed_all [] placed.entries = placed.places ∙ ap (λ (groups : Placed). placed_all groups placed.entries) c.new-places.ensures in
    let order : AreInOrder spans = subst AreInOrder c.as_slice.ensures.value (c.are_in_order-in_order.ensures c.if-not-in_order.false) in
    let joined : AllZip (IsJoinOfPlaces p limit spans) (placed_all [] placed.entries) c.in_ok-groups.groups =
    subst (λ (groups : Placed). AllZip (IsJoinOfPlaces p limit spans) groups c.in_ok-groups.groups) are
    (subst (λ (ss : List Span). AllZip (IsJoinOfPlaces p limit ss) places c.in_ok-groups.groups) c.as_slice-2.ensures.value c.in_ok-groups.ensures) in
    let empty = c.is_empty.ensures in
    let some = c.if-is_empty.false in
    let near : 0 < length spans = grind (arith, nat_tests) in
    let many : c.len.result ≡ length spans = c.len.ensures ∙ c.in_ok-spans.spans.ok.0 in
    let begins : Span = c.index.result.now in
    let ends : Span = c.index-2.result.now in
    let last : c.len.result - 1 < length spans = omega (arith, near, many) in
    record {
      spans = spans;
      joined = record { entries = placed.entries; scanned = placed.scanned; order = order; joined = joined };
      begins = begins;
      begins_with = slice_get_read spans (length spans) 0 begins refl near c.index.ensures;
      first_is = ap (λ (s : Span). s.first) c.begins.view_is;
      ends = ends;
      ends_with =
          ap (λ (n : ℕ). slice_get spans (n - 1)) (sym many)
          ∙ slice_get_read spans (length spans) (c.len.result - 1) ends refl last c.index-2.ensures;
      next_is = ap (λ (s : Span). s.next) c.ends.view_is;
    }
