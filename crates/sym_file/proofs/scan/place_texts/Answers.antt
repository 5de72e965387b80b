use Rattle.std.proofs.Common.{◌≡◌, ◌∙◌, ◌+◌, ℕ, List, Some, ap, length, map, refl, subst, sym}
use Rattle.std.proofs.lemmas.Option.{slice_get-map, slice_get_read}
use Rattle.std.specs.Prelude.{slice_get}
use Rattle.std.specs.Option.{option_map}
use Rattle.sym_check.specs.Plan.ScriptPlans.{ScriptPlan, script_plan}
use Rattle.sym_file.specs.PlacedTexts.{IsTextPlaced}
use Rattle.sym_file.specs.Places.{Span}
use Rattle.sym_file.proofs.Scanned.{ArePlacing, texts_none, texts_on}
use Rattle.sym_file.proofs.scan.place_texts.Goals as goal

pub texts-init : goal.texts-init
texts-init c =
    let p : ScriptPlan = script_plan c.args.plan.now in
    let texts : List (List ℕ) = map (λ text. text.items) c.args.texts.now in
    subst (ArePlacing c.args.own.now p texts c.args.groups.now 0 c.args.groups.now) (sym c.in_ok-spans.ensures.items) (texts_none c.args.own.now p texts c.args.groups.now)

pub texts-preserved : goal.texts-preserved
texts-preserved c =
    let p : ScriptPlan = script_plan c.args.plan.now in
    let texts : List (List ℕ) = map (λ text. text.items) c.args.texts.now in
    let i = c.texts.text in
    let text = c.index-texts-text.result in
    let found = slice_get_read c.args.texts.now (length c.args.texts.now) i text refl c.texts-test.true c.index-texts-text.is in
    let at : slice_get texts i ≡ Some text.items = slice_get-map (λ text. text.items) c.args.texts.now i ∙ ap (option_map (λ text. text.items)) found in
    let new = c.place_text.new.groups in
    let span : Span = c.in_ok-place_text.field-0 in
    let one : IsTextPlaced c.args.own.now p i text.items c.texts.groups new span =
    subst (λ (bytes : List ℕ). IsTextPlaced c.args.own.now p i bytes c.texts.groups new span) c.as_slice.ensures.value c.in_ok-place_text.ensures in
    subst (ArePlacing c.args.own.now p texts c.args.groups.now (i + 1) new) (sym c.in_ok-push.ensures.items)
    (texts_on c.args.own.now p texts c.args.groups.now i c.texts.groups c.texts.spans.items c.texts.invariant text.items at new span one)
