use Rattle.std.proofs.Common.{◌≡◌, ◌<◌, ℕ, List, [], ◌∷◌, ◌++◌, Some, length, take, refl, sym, ap, ◌∙◌, subst, arith, append-nil}
use Rattle.std.proofs.lemmas.Grind.{flat_map-append}
use Rattle.std.proofs.lemmas.List.Elements.{All-cons, All-nil}
use Rattle.std.proofs.lemmas.Option.{slice_get_read}
use Rattle.std.specs.List.{AllZip, flat_map}
use Rattle.std.specs.Prelude.{slice_get}
use Rattle.sym_base.specs.declared.values.record.Record.{Record}
use Rattle.sym_check.specs.Checking.CheckedScripts.{checked_plan}
use Rattle.sym_check.specs.Plan.ScriptPlans.{ScriptPlan}
use Rattle.sym_path.specs.declared.path.Path.{Path}
use Rattle.sym_path.specs.Composing.{IsComposition}
use Rattle.sym_path.specs.Fitting.{PathFits, SegmentFits}
use Rattle.sym_path.specs.Standing.{StandsFor}
use Rattle.sym_path.proofs.Lists.{take_get, take_past}
use Rattle.sym_uses.specs.Segments.{StandsInOrder}
use Rattle.sym_uses.proofs.segments.all_in_one.Goals as goal

zip_none : {A B : Type 0} (R : A → B → Type 0) (xs : List A) → AllZip R xs [] → xs ≡ []
zip_none R [] h = refl
zip_none R (x ∷ xs) h = absurd h

zip_last : {A B : Type 0} (R : A → B → Type 0) (xs : List A) (ys : List B) (y : B) → AllZip R xs (ys ++ y ∷ []) → (first : List A) × (last : A) × (xs ≡ first ++ last ∷ []) × AllZip R first ys × R last y
zip_last R [] [] y h = absurd h
zip_last R [] (z ∷ ys) y h = absurd h
zip_last R (x ∷ xs) [] y h = ([], x, ap (λ zs. x ∷ zs) (zip_none R xs h.1), tt, h.0)
zip_last R (x ∷ xs) (z ∷ ys) y h =
    let (first, last, is, before, here) = zip_last R xs ys y h.1 in
    (x ∷ first, last, ap (λ zs. x ∷ zs) is, (h.0, before), here)

abbrev all_of : List (List Record) → List Record
all_of parts = flat_map (λ (part : List Record). part) parts

module _ (p : ScriptPlan) where
  no_parts : (whole : List Path) → StandsFor p [] whole → StandsInOrder p [] whole
  no_parts whole h records zip = subst (λ (parts : List (List Record)). StandsFor p (all_of parts) whole) (sym (zip_none (StandsFor p) records zip)) h

  one_part_more : (segments : List (List Path)) (whole next new : List Path) → StandsInOrder p segments whole → IsComposition p whole next new → StandsInOrder p (segments ++ next ∷ []) new
  one_part_more segments whole next new h made records zip =
      let (first, last, is, before, here) = zip_last (StandsFor p) records segments next zip in
      let all : all_of records ≡ all_of first ++ last =
      ap all_of is ∙ flat_map-append (λ (part : List Record). part) first (last ∷ []) ∙ ap (λ (rest : List Record). all_of first ++ rest) (append-nil last) in
      subst (λ (rs : List Record). StandsFor p rs new) (sym all) (made.stands (all_of first) last (h first before) here)

  alone_fits : (path : Path) → PathFits p path → SegmentFits p (path ∷ [])
  alone_fits path h = All-cons (PathFits p) path [] h (All-nil (PathFits p))

pub segments-init : goal.segments-init
segments-init c =
    let p : ScriptPlan = checked_plan c.args.checked.now in
    let path : Path = c.in_ok-all.field-0 in
    let made : List Path = c.of-whole.result in
    let pushed : made ≡ c.in_ok-paths.paths.items ++ path ∷ [] = rw c.of-whole.ensures c.in_ok-push.ensures.items in
    let alone : path ∷ [] ≡ made = sym (subst (λ (ps : List Path). made ≡ ps ++ path ∷ []) c.in_ok-paths.ensures.items pushed) in
    let all = c.in_ok-all.ensures in
    record {
      fits = subst (λ (ps : List Path). SegmentFits p ps) alone (alone_fits p path all.fits);
      stands = subst (λ (ps : List Path). StandsInOrder p [] ps) alone (no_parts p (path ∷ []) (c.path_of_all_is_neutral.ensures.stands p path all.fits all.admits all.leaves all.whole));
    }

pub segments-preserved : goal.segments-preserved
segments-preserved c =
    let p : ScriptPlan = checked_plan c.args.checked.now in
    let segments : List (List Path) = c.args.segments.now in
    let i : ℕ = c.segments.next-index in
    let next : List Path = c.next-item.result in
    let within : i < length segments = omega arith in
    let at : slice_get segments i ≡ Some next = slice_get_read segments (length segments) i next refl within c.next-item.is in
    record {
      fits = c.in_ok-whole.ensures.fits;
      stands = subst (λ (parts : List (List Path)). StandsInOrder p parts c.in_ok-whole.whole) (sym (take_get segments i next at))
          (one_part_more p (take i segments) c.segments.whole next c.in_ok-whole.whole c.segments.invariant.stands c.in_ok-whole.ensures);
    }

pub returns-clause-stands : goal.returns-clause-stands
returns-clause-stands c =
    let p : ScriptPlan = checked_plan c.args.checked.now in
    subst (λ (parts : List (List Path)). StandsInOrder p parts c.segments.whole) (take_past c.args.segments.now c.segments.next-index (omega arith)) c.segments.invariant.stands
