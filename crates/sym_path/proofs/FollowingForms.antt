-- The forms that a path's forms become after those of another one: they fit, are taken, and give
-- what they gave at the state that the others give.
use Rattle.std.proofs.Common.{◌≡◌, ◌<◌, ℕ, suc, ℤ, ◌+ℤ◌, ◌*ℤ◌, ◌<ℤ◌, ◌≤ℤ◌, Bool, List, [], ◌∷◌, ◌++◌, Option, Some, None, length, map, drop, refl, sym, ap, ◌∙◌, subst, append_assoc, arith}
use Rattle.std.proofs.lemmas.Int.{ints, by_lt_z}
use Rattle.std.proofs.lemmas.List.Elements.{All-append}
use Rattle.std.proofs.lemmas.Option.{slice_get_within}
use Rattle.std.specs.Prelude.{slice_get}
use Rattle.std.specs.List.{All, AllZip}
use Rattle.sym_base.specs.Limits.{IsNumber}
use Rattle.sym_base.specs.States.{number_at, cell_number, label_at, cell_label, parts_at, cell_parts, cell_nums, cell_words}
use Rattle.sym_base.specs.Tests.{Truth}
use Rattle.sym_base.specs.declared.values.value.Value.{Value}
use Rattle.sym_base.specs.declared.values.state.Cell.{Cell}
use Rattle.sym_base.specs.declared.values.state.Cell.TheVariants as cell
use Rattle.sym_base.specs.declared.values.state.State.{State}
use Rattle.sym_check.specs.declared.plan.script.CellPlan.{CellPlan}
use Rattle.sym_check.specs.declared.plan.script.CellPlan.TheVariants as plan
use Rattle.sym_check.specs.declared.plan.script.KindPlan.{KindPlan}
use Rattle.sym_check.specs.Plan.CellKinds.{IsEnumCell, IsHoldCell}
use Rattle.sym_check.specs.Plan.ScriptPlans.{ScriptPlan}
use Rattle.sym_check.specs.Plan.Ranges.{InRange}
use Rattle.sym_check.specs.Plan.WellFormed.{IsCell, IsWellFormed}
use Rattle.sym_enum.specs.declared.form.EnumForm.TheVariants as label
use Rattle.sym_int.specs.Elements.{IsConstant, CanGoThrough, StaysOn, GoesThroughTo, IsComposed, IsOnSpans, IsOnSpan}
use Rattle.sym_int.specs.Lines.{form_on, form_cell, form_value, offset}
use Rattle.sym_int.specs.Points.{HasPoint}
use Rattle.sym_int.specs.Taken.{IsTaken}
use Rattle.sym_int.specs.declared.element.IntForms.{IntForms}
use Rattle.sym_int.specs.declared.form.IntForm.{IntForm}
use Rattle.sym_int.specs.declared.form.IntForm.TheVariants as number
use Rattle.sym_int.specs.declared.form.Line.{Line}
use Rattle.sym_int.specs.declared.span.Span.{Span}
use Rattle.sym_pred.specs.declared.form.HoldForm.TheVariants as hold
use Rattle.sym_path.specs.declared.part.Part.{Part}
use Rattle.sym_path.specs.declared.part.Part.TheVariants as part
use Rattle.sym_path.specs.declared.form.Form.{Form}
use Rattle.sym_path.specs.declared.form.Form.TheVariants as form
use Rattle.sym_path.specs.Admitting.{Admits, PartAdmits}
use Rattle.sym_path.specs.Fitting.{PartFits, NumberFits, FormFits, FormsFit}
use Rattle.sym_path.specs.Fitting as fitting
use Rattle.sym_path.specs.FormsAfter.{IsNumberOf, IsSpanOf, IsContext, part_spans, CanLead, LedTo, IsCopied, IsNums, IsWords, CanComeAfter, NumsAfter, WordsAfter, FormAfter, AllCanComeAfter, AreAfter}
use Rattle.sym_path.specs.Giving.{cell_at, cells_at, state_at}
use Rattle.sym_path.specs.Kinds.{number_form_in, span_in}
use Rattle.sym_path.specs.Taking.{NumberIsTakenTo, IsTakenOn}
use Rattle.sym_path.proofs.Fitted.{number_between, number_held}
use Rattle.sym_path.proofs.FollowedStates.{cells_at_get, cells_at-length}
use Rattle.sym_path.proofs.FollowingFits.{line_span, one_point, constant_in}
use Rattle.sym_path.proofs.Lists.{zip_at, zip_from, zip_get, zip_get_right, zip_length, get_within, all_from, all_at, take_and_drop, map_both}
use Rattle.sym_path.proofs.Narrowed.{constant_value}
use Rattle.sym_path.proofs.NarrowedFits.{label_taken, number_taken}

number_says : (y : ℤ) (r : IntForm) (x : ℤ) → IsConstant y r → form_on r x ≡ y
number_says y (number.Const n) x h = h
number_says y (number.Line line) x h = absurd h

no_cell : (y : ℤ) (r : IntForm) → IsConstant y r → form_cell r ≡ None
no_cell y (number.Const n) h = refl
no_cell y (number.Line line) h = absurd h

-- Three facts of a form after others.
record NumberGoes (p : ScriptPlan) (lefts : List Part) (truth : Truth) (mids : List Form) (lo hi : ℤ) (f r : IntForm) : Type 0 where
  fits : NumberFits lo hi lefts r
  taken : NumberIsTakenTo lefts r r
  value : (s : State) → Admits truth lefts s → form_value r s ≡ form_value f (state_at mids s)

pub record FormGoes (p : ScriptPlan) (lefts : List Part) (truth : Truth) (mids : List Form) (c : ℕ) (cp : CellPlan) (f r : Form) : Type 0 where
  pub fits : FormFits p lefts cp r
  pub taken : IsTakenOn lefts r
  pub value : (s : State) (x y : Cell) → Admits truth lefts s → slice_get s.cells c ≡ Some x → slice_get (cells_at mids s s.cells) c ≡ Some y → cell_at r s x ≡ cell_at f (state_at mids s) y

module _ (truth : Truth) (p : ScriptPlan) (lefts : List Part) (mids : List Form) (needs : List Part) (context : IntForms)
    (parts : AllZip (PartFits p) p.cells lefts) (mids_fit : FormsFit p lefts mids) (others : AllZip (PartFits p) p.cells needs) (ctx : IsContext mids lefts context)
    (meets : (c : ℕ) (g : IntForm) (need : Span) → slice_get mids c ≡ Some (form.Int g) → slice_get needs c ≡ Some (part.Span need) → NumberFits need.lo need.hi lefts g) where
  -- ---- what the others give

  -- The cell of a form at a state that is admitted.
  given_there : (s : State) (d : ℕ) (m : Form) → Admits truth lefts s → slice_get mids d ≡ Some m → (x : Cell) × (slice_get s.cells d ≡ Some x) × (slice_get (cells_at mids s s.cells) d ≡ Some (cell_at m s x))
  given_there s d m a e =
      let within : d < length mids = slice_get_within mids d m e in
      let as_many : length p.cells ≡ length mids = zip_length (FormFits p lefts) p.cells mids mids_fit.each in
      let as_parts : length p.cells ≡ length lefts = zip_length (PartFits p) p.cells lefts parts in
      let as_cells : length lefts ≡ length s.cells = zip_length (PartAdmits truth) lefts s.cells a in
      let (x, at) = get_within s.cells d (omega arith) in
      (x, at, cells_at_get mids s s.cells d m x e at)

  inner_at : (c : ℕ) (need : Span) → slice_get needs c ≡ Some (part.Span need) → (inner : IntForm) × (slice_get mids c ≡ Some (form.Int inner)) × (slice_get context.forms c ≡ Some inner) × NumberFits need.lo need.hi lefts inner
  inner_at c need e =
      let (cp, at, fits) = zip_get_right (PartFits p) p.cells needs c (part.Span need) others e in
      let (m, is, own) = zip_get (FormFits p lefts) p.cells mids c cp mids_fit.each at in
      go cp m fits own is
    where
      go : (cp : CellPlan) (m : Form) → PartFits p cp (part.Span need) → FormFits p lefts cp m → slice_get mids c ≡ Some m → (inner : IntForm) × (slice_get mids c ≡ Some (form.Int inner)) × (slice_get context.forms c ≡ Some inner) × NumberFits need.lo need.hi lefts inner
      go _ _ (fitting.numbers lo hi first _ r) (fitting.of_number _ _ _ f h) is =
          let (g, at, same) = zip_get IsNumberOf mids context.forms c (form.Int f) ctx.numbers is in
          (f, is, at ∙ ap Some same, meets c f need is e)

  span_at : (c : ℕ) (span : Span) → slice_get lefts c ≡ Some (part.Span span) → slice_get context.spans c ≡ Some span
  span_at c span e = let (s, at, same) = zip_get IsSpanOf lefts context.spans c (part.Span span) ctx.ranges e in at ∙ ap Some same

  number_given : (s : State) (c : ℕ) (inner : IntForm) → Admits truth lefts s → slice_get mids c ≡ Some (form.Int inner) → number_at (state_at mids s) c ≡ form_value inner s
  number_given s c inner a e = let (x, at, there) = given_there s c (form.Int inner) a e in ap cell_number there

  -- ---- number forms

  module _ (lo hi : ℤ) (line : Line) (need : Span) (range : (x : ℤ) → HasPoint need x → InRange lo hi (form_on (number.Line line) x)) where
    -- A line over a constant.
    over_constant : (n : ℤ) (inner r : IntForm) → slice_get mids line.cell ≡ Some (form.Int inner) → IsConstant n inner → HasPoint need n → IsConstant (form_on (number.Line line) n) r → NumberGoes p lefts truth mids lo hi (number.Line line) r
    over_constant n inner r at constant point h = record {
      fits = constant_in lo hi (form_on (number.Line line) n) lefts r h (range n point);
      taken = number_taken lefts r (λ d x q o. let none : form_cell r ≡ None = no_cell (form_on (number.Line line) n) r h in let w : None ≡ Some d = sym none ∙ q in cc);
      value = λ s a. constant_value (form_on (number.Line line) n) r s h ∙ ap (λ (z : ℤ). line.a *ℤ z +ℤ offset line) (sym (number_given s line.cell inner a at ∙ constant_value n inner s constant));
    }

    -- A line over a line.
    module _ (l : Line) (r : IntForm) (sp : Span) (at : slice_get mids line.cell ≡ Some (form.Int (number.Line l))) (at_l : slice_get lefts l.cell ≡ Some (part.Span sp)) (inside : (x : ℤ) → HasPoint sp x → InRange need.lo need.hi (form_on (number.Line l) x))
        (h : IsTaken (λ x. form_on (number.Line line) (form_on (number.Line l) x)) (Some l.cell) sp r) where
      in_range : (x : ℤ) → HasPoint sp x → InRange lo hi (form_on r x)
      in_range x q = subst (λ (z : ℤ). InRange lo hi z) (sym (h.same x q)) (range (form_on (number.Line l) x) (inside x q))

      one_or_more : (k : IntForm) → k ≡ r → ((d : ℕ) → form_cell k ≡ Some d → (d ≡ l.cell) × (sp.lo <ℤ sp.hi))
      one_or_more k e d q = by_lt_z sp.lo sp.hi
          (λ less. (let named : Some d ≡ Some l.cell = sym q ∙ ap form_cell e ∙ h.more less in cc, less))
          (λ more.
          let ordered : sp.lo ≤ℤ sp.hi = sp.ordered in
          let one : sp.lo ≡ sp.hi = omega (arith, ints) in
          let none : Some d ≡ None = sym q ∙ ap form_cell e ∙ h.one one in
          absurd (cc))

      over_fits : (k : IntForm) → k ≡ r → NumberFits lo hi lefts k
      over_fits (number.Const n) e = subst (λ (z : ℤ). InRange lo hi z) (ap (λ (i : IntForm). form_on i sp.lo) (sym e)) (in_range sp.lo (one_point sp))
      over_fits (number.Line m) e =
          let named : m.cell ≡ l.cell = (one_or_more (number.Line m) e m.cell refl).0 in
          let there : slice_get lefts m.cell ≡ Some (part.Span sp) = ap (λ i. slice_get lefts i) named ∙ at_l in
          let all : (x : ℤ) → HasPoint sp x → InRange lo hi (form_on (number.Line m) x) = λ x q. subst (λ (z : ℤ). InRange lo hi z) (ap (λ (i : IntForm). form_on i x) (sym e)) (in_range x q) in
          rw there all

      over_value : (s : State) → Admits truth lefts s → (k : IntForm) → k ≡ r → form_value k s ≡ form_on (number.Line line) (form_value (number.Line l) s)
      over_value s a (number.Const n) e =
          let point : HasPoint sp (number_at s l.cell) = (number_held truth lefts s l.cell sp a at_l).1 in
          ap (λ (i : IntForm). form_on i (number_at s l.cell)) e ∙ h.same (number_at s l.cell) point
      over_value s a (number.Line m) e =
          let named : m.cell ≡ l.cell = (one_or_more (number.Line m) e m.cell refl).0 in
          let point : HasPoint sp (number_at s l.cell) = (number_held truth lefts s l.cell sp a at_l).1 in
          ap (λ i. m.a *ℤ number_at s i +ℤ offset m) named ∙ ap (λ (i : IntForm). form_on i (number_at s l.cell)) e ∙ h.same (number_at s l.cell) point

      over_line : NumberGoes p lefts truth mids lo hi (number.Line line) r
      over_line = record {
        fits = over_fits r refl;
        taken = number_taken lefts r (λ d x q o.
            let (named, less) = one_or_more r refl d q in
            let same : o.span ≡ sp = one_span (sym o.is ∙ ap (λ i. slice_get lefts i) named ∙ at_l) in
            let low : sp.lo ≡ x = ap (λ (t : Span). t.lo) (sym same) ∙ o.lo in
            let high : sp.hi ≡ x = ap (λ (t : Span). t.hi) (sym same) ∙ o.hi in
            omega (arith, ints));
        value = λ s a. over_value s a r refl ∙ ap (λ (z : ℤ). line.a *ℤ z +ℤ offset line) (sym (number_given s line.cell (number.Line l) a at));
      }
        where
          one_span : {t u : Span} → Some (part.Span t) ≡ Some (part.Span u) → t ≡ u
          one_span q = cc

    over_any : (inner r : IntForm) → slice_get mids line.cell ≡ Some (form.Int inner) → NumberFits need.lo need.hi lefts inner → IsOnSpans (λ x. form_on (number.Line line) (form_on inner x)) (form_cell inner) (slice_get context.spans) r → NumberGoes p lefts truth mids lo hi (number.Line line) r
    over_any (number.Const n) r at fits h = over_constant n.value (number.Const n) r at refl fits h
    over_any (number.Line l) r at fits h =
        let (sp, at_l, inside) = line_span need.lo need.hi (form_on (number.Line l)) lefts l.cell fits in
        let there : slice_get context.spans l.cell ≡ Some sp = span_at l.cell sp at_l in
        let taken : IsTaken (λ x. form_on (number.Line line) (form_on (number.Line l) x)) (Some l.cell) sp r = rw there at h in
        over_line l r sp at at_l inside taken

    can_any : (spans : ℕ → Option Span) → ((c : ℕ) (sp : Span) → slice_get lefts c ≡ Some (part.Span sp) → spans c ≡ Some sp) → IsNumber lo → IsNumber hi → (inner : IntForm) → NumberFits need.lo need.hi lefts inner → StaysOn (λ x. form_on (number.Line line) (form_on inner x)) (form_cell inner) spans
    can_any spans known a b (number.Const n) fits = number_between lo hi (form_on (number.Line line) n.value) a b (range n.value fits)
    can_any spans known a b (number.Line l) fits =
        let (sp, at_l, inside) = line_span need.lo need.hi (form_on (number.Line l)) lefts l.cell fits in
        let there : spans l.cell ≡ Some sp = known l.cell sp at_l in
        let all : (x : ℤ) → HasPoint sp x → IsNumber (form_on (number.Line line) (form_on (number.Line l) x)) = λ x q. number_between lo hi (form_on (number.Line line) (form_on (number.Line l) x)) a b (range (form_on (number.Line l) x) (inside x q)) in
        rw there all

  number_goes : (lo hi : ℤ) (f r : IntForm) → NumberFits lo hi needs f → GoesThroughTo f context r → NumberGoes p lefts truth mids lo hi f r
  number_goes lo hi (number.Const n) r fits h = subst (λ (k : IntForm). NumberGoes p lefts truth mids lo hi (number.Const n) k) (sym h) (record {
    fits = fits;
    taken = number_taken lefts (number.Const n) (λ d x q o. cc);
    value = λ s a. refl;
  })
  number_goes lo hi (number.Line line) r fits h =
      let (need, at, range) = line_span lo hi (form_on (number.Line line)) needs line.cell fits in
      let (inner, is, there, own) = inner_at line.cell need at in
      let on : IsOnSpans (λ x. form_on (number.Line line) (form_on inner x)) (form_cell inner) (slice_get context.spans) r = rw there at h in
      over_any lo hi line need range inner r is own on

  can_go : (lo hi : ℤ) (f : IntForm) → IsNumber lo → IsNumber hi → NumberFits lo hi needs f → CanGoThrough f context
  can_go lo hi (number.Const n) a b fits = tt
  can_go lo hi (number.Line line) a b fits =
      let (need, at, range) = line_span lo hi (form_on (number.Line line)) needs line.cell fits in
      let (inner, is, there, own) = inner_at line.cell need at in
      let stays : StaysOn (λ x. form_on (number.Line line) (form_on inner x)) (form_cell inner) (slice_get context.spans) = can_any lo hi line need range (slice_get context.spans) span_at a b inner own in
      rw there stays

  -- ---- without a context

  on_part : (number : ℤ → ℤ) (c : ℕ) (o : Option Part) (r : IntForm) → slice_get lefts c ≡ o → IsOnSpan number c (span_in o) r → IsOnSpan number c (slice_get context.spans c) r
  on_part number c (Some (part.Set set)) r e h = absurd h
  on_part number c (Some (part.Span span)) r e h = let there : slice_get context.spans c ≡ Some span = span_at c span e in rw there h
  on_part number c (Some (part.Facts known)) r e h = absurd h
  on_part number c (Some part.Free) r e h = absurd h
  on_part number c None r e h = absurd h

  on_parts : (number : ℤ → ℤ) (o : Option ℕ) (r : IntForm) → IsOnSpans number o (part_spans lefts) r → IsOnSpans number o (slice_get context.spans) r
  on_parts number None r h = h
  on_parts number (Some c) r h = on_part number c (slice_get lefts c) r refl h

  led_over : (line : Line) (o : Option Form) (r : IntForm) → slice_get mids line.cell ≡ o → IsComposed (number.Line line) (number_form_in o) (part_spans lefts) r → IsComposed (number.Line line) (slice_get context.forms line.cell) (slice_get context.spans) r
  led_over line (Some (form.Enum f)) r e h = absurd h
  led_over line (Some (form.Int inner)) r e h =
      let (g, at, same) = zip_get IsNumberOf mids context.forms line.cell (form.Int inner) ctx.numbers e in
      let there : slice_get context.forms line.cell ≡ Some inner = at ∙ ap Some same in
      rw there (on_parts (λ x. form_on (number.Line line) (form_on inner x)) (form_cell inner) r h)
  led_over line (Some (form.Hold f)) r e h = absurd h
  led_over line (Some (form.Nums f)) r e h = absurd h
  led_over line (Some (form.Words f)) r e h = absurd h
  led_over line None r e h = absurd h

  led_goes : (f r : IntForm) → LedTo mids lefts f r → GoesThroughTo f context r
  led_goes (number.Const n) r h = h
  led_goes (number.Line line) r h = led_over line (slice_get mids line.cell) r refl h

  can_lead : (lo hi : ℤ) (f : IntForm) → IsNumber lo → IsNumber hi → NumberFits lo hi needs f → CanLead mids lefts f
  can_lead lo hi (number.Const n) a b fits = tt
  can_lead lo hi (number.Line line) a b fits =
      let (need, at, range) = line_span lo hi (form_on (number.Line line)) needs line.cell fits in
      let (inner, is, there, own) = inner_at line.cell need at in
      let stays : StaysOn (λ x. form_on (number.Line line) (form_on inner x)) (form_cell inner) (part_spans lefts) = can_any lo hi line need range (part_spans lefts) (λ c sp e. ap span_in e) a b inner own in
      rw is stays

  -- ---- copies

  label_form : (of first other : ℕ) (r : Form) → FormFits p lefts (plan.Enum of other) r → FormFits p lefts (plan.Enum of first) r
  label_form of first other _ (fitting.of_label _ _ l h) = fitting.of_label of first l h
  label_form of first other _ (fitting.copied_label _ _ c h) = fitting.copied_label of first c h

  parts_form : (kinds : List KindPlan) (first other : List Value) (r : Form) → FormFits p lefts (plan.Hold kinds other) r → FormFits p lefts (plan.Hold kinds first) r
  parts_form kinds first other _ (fitting.of_parts _ _ ps h) = fitting.of_parts kinds first ps h
  parts_form kinds first other _ (fitting.copied_parts _ _ c h) = fitting.copied_parts kinds first c h

  label_value_given : (of other d : ℕ) (r : Form) (s : State) (x : Cell) → FormFits p lefts (plan.Enum of other) r → Admits truth lefts s → slice_get mids d ≡ Some r → cell_at r s x ≡ cell.Enum (label_at (state_at mids s) d)
  label_value_given of other d _ s x (fitting.of_label _ _ l h) a e = let (old, at, there) = given_there s d (form.Enum (label.Const l)) a e in ap cell.Enum (sym (ap cell_label there))
  label_value_given of other d _ s x (fitting.copied_label _ _ c h) a e = let (old, at, there) = given_there s d (form.Enum (label.Copy c)) a e in ap cell.Enum (sym (ap cell_label there))

  parts_value_given : (kinds : List KindPlan) (other : List Value) (d : ℕ) (r : Form) (s : State) (x : Cell) → FormFits p lefts (plan.Hold kinds other) r → Admits truth lefts s → slice_get mids d ≡ Some r → cell_at r s x ≡ cell.Hold (parts_at (state_at mids s) d)
  parts_value_given kinds other d _ s x (fitting.of_parts _ _ ps h) a e = let (old, at, there) = given_there s d (form.Hold (hold.Const ps)) a e in ap cell.Hold (sym (ap cell_parts there))
  parts_value_given kinds other d _ s x (fitting.copied_parts _ _ c h) a e = let (old, at, there) = given_there s d (form.Hold (hold.Copy c)) a e in ap cell.Hold (sym (ap cell_parts there))

  -- ---- lists of numbers

  each_goes : (lo hi : ℤ) (added rest : List IntForm) → All (NumberFits lo hi needs) added → AllZip (λ f g. GoesThroughTo f context g) added rest → AllZip (NumberGoes p lefts truth mids lo hi) added rest
  each_goes lo hi added rest fits h = zip_from (NumberGoes p lefts truth mids lo hi) added rest (zip_length (λ f g. GoesThroughTo f context g) added rest h) (λ i f r e g. number_goes lo hi f r (all_at (NumberFits lo hi needs) added i f fits e) (zip_at (λ f g. GoesThroughTo f context g) added rest i f r h e g))

  numbers_given : (lo hi : ℤ) (s : State) (added rest : List IntForm) → Admits truth lefts s → AllZip (NumberGoes p lefts truth mids lo hi) added rest → map (λ r. form_value r s) rest ≡ map (λ f. form_value f (state_at mids s)) added
  numbers_given lo hi s [] [] a h = refl
  numbers_given lo hi s [] (r ∷ rest) a h = absurd h
  numbers_given lo hi s (f ∷ added) [] a h = absurd h
  numbers_given lo hi s (f ∷ added) (r ∷ rest) a h =
      let first = h.0.value s a in
      let others = numbers_given lo hi s added rest a h.1 in
      λ i. first i ∷ others i

  own_pairs : (fs : List IntForm) → All (λ f. NumberIsTakenTo lefts f f) fs → AllZip (NumberIsTakenTo lefts) fs fs
  own_pairs fs all = zip_from (NumberIsTakenTo lefts) fs fs refl (λ i f g e q. let same : Some f ≡ Some g = sym e ∙ q in let is : f ≡ g = cc in subst (λ (k : IntForm). NumberIsTakenTo lefts f k) is (all_at (λ f. NumberIsTakenTo lefts f f) fs i f all e))

  own_all : (fs : List IntForm) → AllZip (NumberIsTakenTo lefts) fs fs → All (λ f. NumberIsTakenTo lefts f f) fs
  own_all fs h = all_from (λ f. NumberIsTakenTo lefts f f) fs (λ i f e. zip_at (NumberIsTakenTo lefts) fs fs i f f h e e)

  nums_go : (c : ℕ) (lo hi : ℤ) {clamp : Bool} (first added new : List IntForm) → slice_get mids c ≡ Some (form.Nums first) → All (NumberFits lo hi lefts) first → All (NumberFits lo hi needs) added → NumsAfter context added (Some (form.Nums first)) (form.Nums new) → FormGoes p lefts truth mids c (plan.Nums lo hi clamp) (form.Nums added) (form.Nums new)
  nums_go c lo hi first added new at own fits h = record {
    fits = fitting.of_numbers lo hi new (subst (λ (fs : List IntForm). All (NumberFits lo hi lefts) fs) whole (All-append (NumberFits lo hi lefts) first rest own (all_from (NumberFits lo hi lefts) rest (λ i r e. (beside i r e).2.fits))));
    taken = own_pairs new (subst (λ (fs : List IntForm). All (λ f. NumberIsTakenTo lefts f f) fs) whole (All-append (λ f. NumberIsTakenTo lefts f f) first rest (own_all first (all_at (IsTakenOn lefts) mids c (form.Nums first) mids_fit.taken at)) (all_from (λ f. NumberIsTakenTo lefts f f) rest (λ i r e. (beside i r e).2.taken))));
    value = λ s x y a ex ey.
        let z : Some y ≡ Some (cell_at (form.Nums first) s x) = sym ey ∙ cells_at_get mids s s.cells c (form.Nums first) x at ex in
        let same : y ≡ cell_at (form.Nums first) s x = cc in
        let split : map (λ r. form_value r s) new ≡ map (λ r. form_value r s) first ++ map (λ r. form_value r s) rest = ap (λ (fs : List IntForm). map (λ r. form_value r s) fs) (sym whole) ∙ map_both (λ r. form_value r s) first rest in
        let given : map (λ r. form_value r s) rest ≡ map (λ f. form_value f (state_at mids s)) added = numbers_given lo hi s added rest a goes in
        let all : cell_nums (Some x) ++ map (λ r. form_value r s) new ≡ (cell_nums (Some x) ++ map (λ r. form_value r s) first) ++ map (λ f. form_value f (state_at mids s)) added =
        ap (λ (zs : List ℤ). cell_nums (Some x) ++ zs) (split ∙ ap (λ (zs : List ℤ). map (λ r. form_value r s) first ++ zs) given) ∙ sym (append_assoc (cell_nums (Some x)) (map (λ r. form_value r s) first) (map (λ f. form_value f (state_at mids s)) added)) in
        ap cell.Nums all ∙ ap (λ (k : Cell). cell_at (form.Nums added) (state_at mids s) k) (sym same);
  }
    where
      rest : List IntForm
      rest = drop (length first) new

      whole : first ++ drop (length first) new ≡ new
      whole = ap (λ (fs : List IntForm). fs ++ drop (length first) new) (sym h.0) ∙ take_and_drop (length first) new

      goes : AllZip (NumberGoes p lefts truth mids lo hi) added (drop (length first) new)
      goes = each_goes lo hi added (drop (length first) new) fits h.1

      beside : (i : ℕ) (r : IntForm) → slice_get (drop (length first) new) i ≡ Some r → (f : IntForm) × (slice_get added i ≡ Some f) × NumberGoes p lefts truth mids lo hi f r
      beside i r e = zip_get_right (NumberGoes p lefts truth mids lo hi) added (drop (length first) new) i r goes e

  -- ---- words

  same_words : (xs ys : List (List ℕ)) → AllZip (λ (old t : List ℕ). t ≡ old) xs ys → ys ≡ xs
  same_words [] [] h = refl
  same_words [] (y ∷ ys) h = absurd h
  same_words (x ∷ xs) [] h = absurd h
  same_words (x ∷ xs) (y ∷ ys) h = let rest = same_words xs ys h.1 in let first = h.0 in λ i. first i ∷ rest i

  words_go : (c : ℕ) (first added new : List (List ℕ)) → slice_get mids c ≡ Some (form.Words first) → WordsAfter added (Some (form.Words first)) (form.Words new) → FormGoes p lefts truth mids c plan.Words (form.Words added) (form.Words new)
  words_go c first added new at h = record {
    fits = fitting.of_words new;
    taken = refl;
    value = λ s x y a ex ey.
        let z : Some y ≡ Some (cell_at (form.Words first) s x) = sym ey ∙ cells_at_get mids s s.cells c (form.Words first) x at ex in
        let same : y ≡ cell_at (form.Words first) s x = cc in
        let all : cell_words (Some x) ++ new ≡ (cell_words (Some x) ++ first) ++ added = ap (λ (ts : List (List ℕ)). cell_words (Some x) ++ ts) whole ∙ sym (append_assoc (cell_words (Some x)) first added) in
        ap cell.Words all ∙ ap (λ (k : Cell). cell_at (form.Words added) (state_at mids s) k) (sym same);
  }
    where
      whole : new ≡ first ++ added
      whole = sym (take_and_drop (length first) new) ∙ ap (λ (ts : List (List ℕ)). ts ++ drop (length first) new) h.0 ∙ ap (λ (ts : List (List ℕ)). first ++ ts) (same_words added (drop (length first) new) h.1)

  -- ---- all kinds

  constant_goes : (c : ℕ) (cp : CellPlan) (f r : Form) → r ≡ f → FormFits p lefts cp f → IsTakenOn lefts f → ((s t : State) (x y : Cell) → cell_at f s x ≡ cell_at f t y) → FormGoes p lefts truth mids c cp f r
  constant_goes c cp f r e fits taken same = subst (λ (k : Form). FormGoes p lefts truth mids c cp f k) (sym e) (record { fits = fits; taken = taken; value = λ s x y a ex ey. same s (state_at mids s) x y })

  form_goes : (c : ℕ) (cp : CellPlan) (f r : Form) → slice_get p.cells c ≡ Some cp → FormFits p needs cp f → FormAfter mids lefts context c f r → FormGoes p lefts truth mids c cp f r
  form_goes c _ _ r at (fitting.of_label of first l h) t = constant_goes c (plan.Enum of first) (form.Enum (label.Const l)) r t (fitting.of_label of first l h) (label_taken lefts (label.Const l) (λ d m q o. cc)) (λ s u x y. refl)
  form_goes c _ _ r at (fitting.copied_label of first d h) t =
      let own : FormFits p lefts (plan.Enum of h.first) r = zip_at (FormFits p lefts) p.cells mids d (plan.Enum of h.first) r mids_fit.each h.is t in
      record { fits = label_form of first h.first r own; taken = all_at (IsTakenOn lefts) mids d r mids_fit.taken t; value = λ s x y a ex ey. label_value_given of h.first d r s x own a t }
  form_goes c _ _ (form.Enum r) at (fitting.of_number lo hi first f h) t = absurd t
  form_goes c _ _ (form.Int r) at (fitting.of_number lo hi first f h) t =
      let g = number_goes lo hi f r h (led_goes f r t) in
      record { fits = fitting.of_number lo hi first r g.fits; taken = g.taken; value = λ s x y a ex ey. ap cell.Int (g.value s a) }
  form_goes c _ _ (form.Hold r) at (fitting.of_number lo hi first f h) t = absurd t
  form_goes c _ _ (form.Nums r) at (fitting.of_number lo hi first f h) t = absurd t
  form_goes c _ _ (form.Words r) at (fitting.of_number lo hi first f h) t = absurd t
  form_goes c _ _ r at (fitting.of_parts kinds first ps h) t = constant_goes c (plan.Hold kinds first) (form.Hold (hold.Const ps)) r t (fitting.of_parts kinds first ps h) refl (λ s u x y. refl)
  form_goes c _ _ r at (fitting.copied_parts kinds first d h) t =
      let own : FormFits p lefts (plan.Hold kinds h.first) r = zip_at (FormFits p lefts) p.cells mids d (plan.Hold kinds h.first) r mids_fit.each h.is t in
      record { fits = parts_form kinds first h.first r own; taken = all_at (IsTakenOn lefts) mids d r mids_fit.taken t; value = λ s x y a ex ey. parts_value_given kinds h.first d r s x own a t }
  form_goes c _ _ r at (fitting.of_numbers lo hi {clamp = clamp} added h) t =
      let (m, is, own) = zip_get (FormFits p lefts) p.cells mids c (plan.Nums lo hi clamp) mids_fit.each at in
      go m r own is (rw is at t)
    where
      go : (m r : Form) → FormFits p lefts (plan.Nums lo hi clamp) m → slice_get mids c ≡ Some m → NumsAfter context added (Some m) r → FormGoes p lefts truth mids c (plan.Nums lo hi clamp) (form.Nums added) r
      go _ (form.Enum r) (fitting.of_numbers _ _ first own) is u = absurd u
      go _ (form.Int r) (fitting.of_numbers _ _ first own) is u = absurd u
      go _ (form.Hold r) (fitting.of_numbers _ _ first own) is u = absurd u
      go _ (form.Nums r) (fitting.of_numbers _ _ first own) is u = nums_go c lo hi first added r is own h u
      go _ (form.Words r) (fitting.of_numbers _ _ first own) is u = absurd u
  form_goes c _ _ r at (fitting.of_words added) t =
      let (m, is, own) = zip_get (FormFits p lefts) p.cells mids c plan.Words mids_fit.each at in
      go m r own is (rw is at t)
    where
      go : (m r : Form) → FormFits p lefts plan.Words m → slice_get mids c ≡ Some m → WordsAfter added (Some m) r → FormGoes p lefts truth mids c plan.Words (form.Words added) r
      go _ (form.Enum r) (fitting.of_words first) is u = absurd u
      go _ (form.Int r) (fitting.of_words first) is u = absurd u
      go _ (form.Hold r) (fitting.of_words first) is u = absurd u
      go _ (form.Nums r) (fitting.of_words first) is u = absurd u
      go _ (form.Words r) (fitting.of_words first) is u = words_go c first added r is u

  -- ---- the forms together

  label_there : (of : ℕ) (d : ℕ) → IsEnumCell p.cells d of → IsCopied (slice_get mids d)
  label_there of d h =
      let (m, is, own) = zip_get (FormFits p lefts) p.cells mids d (plan.Enum of h.first) mids_fit.each h.is in
      go m own is
    where
      go : (m : Form) → FormFits p lefts (plan.Enum of h.first) m → slice_get mids d ≡ Some m → IsCopied (slice_get mids d)
      go _ (fitting.of_label _ _ l k) is = rw is tt
      go _ (fitting.copied_label _ _ e k) is = rw is tt

  parts_there : (kinds : List KindPlan) (d : ℕ) → IsHoldCell p.cells d kinds → IsCopied (slice_get mids d)
  parts_there kinds d h =
      let (m, is, own) = zip_get (FormFits p lefts) p.cells mids d (plan.Hold kinds h.first) mids_fit.each h.is in
      go m own is
    where
      go : (m : Form) → FormFits p lefts (plan.Hold kinds h.first) m → slice_get mids d ≡ Some m → IsCopied (slice_get mids d)
      go _ (fitting.of_parts _ _ ps k) is = rw is tt
      go _ (fitting.copied_parts _ _ e k) is = rw is tt

  nums_there : (lo hi : ℤ) {clamp : Bool} (c : ℕ) → slice_get p.cells c ≡ Some (plan.Nums lo hi clamp) → IsNums (slice_get mids c)
  nums_there lo hi {clamp = clamp} c at =
      let (m, is, own) = zip_get (FormFits p lefts) p.cells mids c (plan.Nums lo hi clamp) mids_fit.each at in
      go m own is
    where
      go : (m : Form) → FormFits p lefts (plan.Nums lo hi clamp) m → slice_get mids c ≡ Some m → IsNums (slice_get mids c)
      go _ (fitting.of_numbers _ _ first k) is = rw is tt

  words_there : (c : ℕ) → slice_get p.cells c ≡ Some plan.Words → IsWords (slice_get mids c)
  words_there c at =
      let (m, is, own) = zip_get (FormFits p lefts) p.cells mids c plan.Words mids_fit.each at in
      go m own is
    where
      go : (m : Form) → FormFits p lefts plan.Words m → slice_get mids c ≡ Some m → IsWords (slice_get mids c)
      go _ (fitting.of_words first) is = rw is tt

  can_come : (c : ℕ) (cp : CellPlan) (f : Form) → slice_get p.cells c ≡ Some cp → IsCell p.enums cp → FormFits p needs cp f → CanComeAfter mids lefts context c f
  can_come c _ _ at w (fitting.of_label of first l h) = tt
  can_come c _ _ at w (fitting.copied_label of first d h) = label_there of d h
  can_come c _ _ at w (fitting.of_number lo hi first f h) = can_lead lo hi f w.0 w.1 h
  can_come c _ _ at w (fitting.of_parts kinds first ps h) = tt
  can_come c _ _ at w (fitting.copied_parts kinds first d h) = parts_there kinds d h
  can_come c _ _ at w (fitting.of_numbers lo hi added h) = (nums_there lo hi c at, all_from (λ f. CanGoThrough f context) added (λ i f e. can_go lo hi f w.0 w.1 (all_at (NumberFits lo hi needs) added i f h e)))
  can_come c _ _ at w (fitting.of_words added) = words_there c at

  pub all_can_come : IsWellFormed p → (gs : List Form) → FormsFit p needs gs → AllCanComeAfter mids lefts context gs
  all_can_come w gs fits c g e =
      let (cp, at, own) = zip_get_right (FormFits p needs) p.cells gs c g fits.each e in
      can_come c cp g at (all_at (IsCell p.enums) p.cells c cp w.cells at) own

  module _ (gs rs : List Form) (fits : FormsFit p needs gs) (h : AreAfter mids lefts context gs rs) where
    goes_at : (c : ℕ) (cp : CellPlan) (r : Form) → slice_get p.cells c ≡ Some cp → slice_get rs c ≡ Some r → (g : Form) × (slice_get gs c ≡ Some g) × FormGoes p lefts truth mids c cp g r
    goes_at c cp r at e =
        let (g, is, own) = zip_get (FormFits p needs) p.cells gs c cp fits.each at in
        (g, is, form_goes c cp g r at own (h.each c g r is e))

    as_many : length p.cells ≡ length rs
    as_many = zip_length (FormFits p needs) p.cells gs fits.each ∙ sym h.lengths

    plan_at : (c : ℕ) (r : Form) → slice_get rs c ≡ Some r → (cp : CellPlan) × (slice_get p.cells c ≡ Some cp)
    plan_at c r e = let l : c < length rs = slice_get_within rs c r e in let n = as_many in get_within p.cells c (omega arith)

    pub forms_go : FormsFit p lefts rs
    forms_go = record {
      each = zip_from (FormFits p lefts) p.cells rs as_many (λ c cp r at e. (goes_at c cp r at e).2.fits);
      taken = all_from (IsTakenOn lefts) rs (λ c r e. let (cp, at) = plan_at c r e in (goes_at c cp r at e).2.taken);
    }

    cells_same : (s : State) → Admits truth lefts s → cells_at rs s s.cells ≡ cells_at gs (state_at mids s) (cells_at mids s s.cells)
    cells_same s a = same_lists (cells_at rs s s.cells) (cells_at gs (state_at mids s) (cells_at mids s s.cells)) lengths each
      where
        m_count : length mids ≡ length s.cells
        m_count = sym (zip_length (FormFits p lefts) p.cells mids mids_fit.each) ∙ zip_length (PartFits p) p.cells lefts parts ∙ zip_length (PartAdmits truth) lefts s.cells a

        r_count : length rs ≡ length s.cells
        r_count = sym as_many ∙ zip_length (FormFits p lefts) p.cells mids mids_fit.each ∙ m_count

        g_count : length gs ≡ length (cells_at mids s s.cells)
        g_count = sym h.lengths ∙ r_count ∙ sym (cells_at-length mids s s.cells m_count)

        lengths : length (cells_at rs s s.cells) ≡ length (cells_at gs (state_at mids s) (cells_at mids s s.cells))
        lengths = cells_at-length rs s s.cells r_count ∙ sym (cells_at-length gs (state_at mids s) (cells_at mids s s.cells) g_count ∙ cells_at-length mids s s.cells m_count)

        each : (c : ℕ) → c < length (cells_at rs s s.cells) → slice_get (cells_at rs s s.cells) c ≡ slice_get (cells_at gs (state_at mids s) (cells_at mids s s.cells)) c
        each c below =
            let rc = cells_at-length rs s s.cells r_count in
            let nr = r_count in
            let (r, at_r) = get_within rs c (omega arith) in
            let (x, at_x) = get_within s.cells c (omega arith) in
            let (m, at_m) = get_within mids c (omega (arith, m_count)) in
            let (cp, at) = plan_at c r at_r in
            let (g, at_g, goes) = goes_at c cp r at at_r in
            let there : slice_get (cells_at mids s s.cells) c ≡ Some (cell_at m s x) = cells_at_get mids s s.cells c m x at_m at_x in
            cells_at_get rs s s.cells c r x at_r at_x ∙ ap Some (goes.value s x (cell_at m s x) a at_x there) ∙ sym (cells_at_get gs (state_at mids s) (cells_at mids s s.cells) c g (cell_at m s x) at_g there)

        same_lists : (xs ys : List Cell) → length xs ≡ length ys → ((i : ℕ) → i < length xs → slice_get xs i ≡ slice_get ys i) → xs ≡ ys
        same_lists [] [] l k = refl
        same_lists [] (y ∷ ys) l k = absurd (omega arith)
        same_lists (x ∷ xs) [] l k = absurd (omega arith)
        same_lists (x ∷ xs) (y ∷ ys) l k =
            let z : Some x ≡ Some y = k 0 (omega arith) in
            let first : x ≡ y = cc in
            let rest = same_lists xs ys (omega arith) (λ i b. k (suc i) (omega arith)) in
            λ i. first i ∷ rest i

    -- At each state that is admitted they give what they gave at the state that the others give.
    pub states_same : (s : State) → Admits truth lefts s → state_at rs s ≡ state_at gs (state_at mids s)
    states_same s a = ap (λ (cs : List Cell). one cs) (cells_same s a)
      where
        one : List Cell → State
        one cs = record { cells = cs }
