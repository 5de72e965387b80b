-- The number of a term over the state before a path.
use Rattle.std.proofs.Common.{◌≡◌, ◌≢◌, ℕ, ℤ, pos, Bool, true, false, List, [], ◌∷◌, Option, Some, None, ◌⊎◌, inl, inr, refl, sym, ap, ◌∙◌, subst}
use Rattle.std.proofs.lemmas.Bool.Decides.{Decides-int_eq}
use Rattle.std.specs.Prelude.{slice_get, if◌then◌else◌, IsTrue, Result, Ok, Err}
use Rattle.std.specs.List.{AllZip}
use Rattle.std.specs.Ordering.{int_eq}
use Rattle.sym_base.specs.States.{number_at, cell_number}
use Rattle.sym_base.specs.Tests.{Truth}
use Rattle.sym_base.specs.declared.values.state.State.{State}
use Rattle.sym_base.specs.declared.values.state.Outcome.TheVariants.{Going}
use Rattle.sym_check.proofs.ValidSteps.{number_is, pair_is}
use Rattle.sym_check.specs.Meaning.Arithmetic.{and_then}
use Rattle.sym_check.specs.Plan.CellKinds.{IsIntCell}
use Rattle.sym_check.specs.Meaning.Conditions.{is_fixed_term, test_truth}
use Rattle.sym_check.specs.Meaning.FixedValues.{Environment, number}
use Rattle.sym_check.specs.Plan.LinePlans.{OfLine, OfNum, TermPlan}
use Rattle.sym_check.specs.Meaning.LineValues.{pair, pair_at, term_number}
use Rattle.sym_check.specs.Plan.ScriptPlans.{ScriptPlan}
use Rattle.sym_check.specs.declared.evaluate.arithmetic.Arith.{Arith}
use Rattle.sym_check.specs.declared.evaluate.pairs.Pair.{Pair}
use Rattle.sym_check.specs.declared.plan.script.CellPlan.TheVariants as plan
use Rattle.sym_int.specs.Lines.{form_cell, form_on, form_value, wide_cell, wide_value}
use Rattle.sym_int.specs.declared.form.IntForm.{IntForm}
use Rattle.sym_int.specs.declared.form.IntForm.TheVariants as int
use Rattle.sym_int.specs.declared.span.Span.{Span}
use Rattle.sym_int.specs.declared.wide.Wide.{Wide}
use Rattle.sym_path.proofs.Decided.{admits_decided}
use Rattle.sym_path.proofs.FollowedStates.{cells_at_get}
use Rattle.sym_path.proofs.Lists.{zip_get}
use Rattle.sym_path.specs.Admitting.{Admits, PartAdmits, admits}
use Rattle.sym_path.specs.Changing.{GoesOn, form_of}
use Rattle.sym_path.specs.Fitting.{EndFits, FormFits, FormsFit, NumberFits, PartFits, PathFits, StaysWithin}
use Rattle.sym_path.specs.Fitting as fitting
use Rattle.sym_path.specs.Giving.{cell_at, cells_at, given, state_at}
use Rattle.sym_path.specs.declared.form.Form.{Form}
use Rattle.sym_path.specs.declared.form.Form.TheVariants as form
use Rattle.sym_path.specs.declared.part.Part.{Part}
use Rattle.sym_path.specs.declared.part.Part.TheVariants as part
use Rattle.sym_path.specs.declared.path.Path.{Path}
use Rattle.sym_path.specs.declared.path.PathEnd.{PathEnd}
use Rattle.sym_path.specs.declared.path.PathEnd.TheVariants.{Next, Ended}
use Rattle.sym_explore.proofs.AssignedKnown.{int_plan}
use Rattle.sym_explore.specs.Knowing.{TermIsKnown}
use Rattle.sym_explore.specs.Terms.{HasSpan, IsPairOver, IsReadyOver, ReadyFits, int_form, is_fixed_ready, number_form, ready_number, ready_of, span_in}
use Rattle.sym_explore.specs.declared.terms.Ready.{Ready}
use Rattle.sym_explore.specs.declared.terms.Ready.TheVariants as ready

-- ---- terms and ready terms

-- The number of a term is that of the ready term, which fails where the term does.
pub term_ready : (k : Environment) (t : TermPlan) (s : State) → term_number k t s ≡ and_then (λ (r : Ready). Ok (ready_number r s)) (ready_of k t)
term_ready k (OfNum n) s = go (number k n)
  where
    go : (x : Result ℤ Arith) → x ≡ and_then (λ (r : Ready). Ok (ready_number r s)) (and_then (λ (y : ℤ). Ok (ready.Number y)) x)
    go (Ok y) = refl
    go (Err e) = refl
term_ready k (OfLine l) s = go (pair k l)
  where
    go : (x : Result Pair Arith) → and_then (λ (q : Pair). Ok (pair_at q (number_at s q.cell))) x ≡ and_then (λ (r : Ready). Ok (ready_number r s)) (and_then (λ (q : Pair). Ok (ready.Line q)) x)
    go (Ok q) = refl
    go (Err e) = refl

pub ready_gives : (k : Environment) (t : TermPlan) (r : Ready) → ready_of k t ≡ Ok r → (s : State) → term_number k t s ≡ Ok (ready_number r s)
ready_gives k t r e s = term_ready k t s ∙ ap (and_then (λ (q : Ready). Ok (ready_number q s))) e

pub ready_fails : (k : Environment) (t : TermPlan) (x : Arith) → ready_of k t ≡ Err x → (s : State) → term_number k t s ≡ Err x
ready_fails k t x e s = term_ready k t s ∙ ap (and_then (λ (q : Ready). Ok (ready_number q s))) e

pub ready_is_fixed : (k : Environment) (t : TermPlan) (r : Ready) → ready_of k t ≡ Ok r → IsTrue (is_fixed_term t) → IsTrue (is_fixed_ready r)
ready_is_fixed k (OfNum n) r e fixed = go (number k n) e
  where
    go : (x : Result ℤ Arith) → and_then (λ (y : ℤ). Ok (ready.Number y)) x ≡ Ok r → IsTrue (is_fixed_ready r)
    go (Ok y) e = let same : ready.Number y ≡ r = cc in subst (λ (q : Ready). IsTrue (is_fixed_ready q)) same refl
    go (Err x) e = absurd (cc)
ready_is_fixed k (OfLine l) r e fixed = absurd (cc)

pub ready_fits : (p : ScriptPlan) (k : Environment) (t : TermPlan) (r : Ready) → TermIsKnown p k t → ready_of k t ≡ Ok r → ReadyFits p r
ready_fits p k (OfNum n) r known e = go (number k n) refl e
  where
    go : (x : Result ℤ Arith) → number k n ≡ x → and_then (λ (y : ℤ). Ok (ready.Number y)) x ≡ Ok r → ReadyFits p r
    go (Ok y) is e = let same : ready.Number y ≡ r = cc in subst (ReadyFits p) same (number_is p.enums known.kinds k known.known n y known.well is)
    go (Err x) is e = absurd (cc)
ready_fits p k (OfLine l) r known e = go (pair k l) refl e
  where
    go : (x : Result Pair Arith) → pair k l ≡ x → and_then (λ (q : Pair). Ok (ready.Line q)) x ≡ Ok r → ReadyFits p r
    go (Ok q) is e = let same : ready.Line q ≡ r = cc in subst (ReadyFits p) same (pair_is p.enums p.cells known.kinds k l q known.known known.well is)
    go (Err x) is e = absurd (cc)

-- ---- the form of an integer cell

int_fits : (p : ScriptPlan) (when : List Part) (lo hi first : ℤ) {clamp : Bool} (f : Form) → FormFits p when (plan.Int lo hi first clamp) f → (g : IntForm) × (f ≡ form.Int g) × NumberFits lo hi when g
int_fits p when lo hi first _ (fitting.of_number _ _ _ g h) = (g, refl, h)

-- Where the path goes on, an integer cell has a number form, which lies in the cell's range.
pub number_form_fits : (p : ScriptPlan) (when : List Part) (forms : List Form) (c : ℕ) → IsIntCell p.cells c → FormsFit p when forms → (f : IntForm) × (lo : ℤ) × (hi : ℤ) × (slice_get forms c ≡ Some (form.Int f)) × NumberFits lo hi when f
number_form_fits p when forms c cell fits =
    let found = zip_get (FormFits p when) p.cells forms c (int_plan cell) fits.each cell.is in
    let of = int_fits p when cell.lo cell.hi cell.first found.0 found.2 in
    (of.0, cell.lo, cell.hi, found.1 ∙ ap (λ (g : Form). Some g) of.1, of.2)

-- A line over a cell stays in a range, so the cell has a span.
spanned : (lo hi : ℤ) (number : ℤ → ℤ) (o : Option Part) → StaysWithin lo hi number o → (span : Span) × (span_in o ≡ Some span)
spanned lo hi number None h = absurd h
spanned lo hi number (Some (part.Set set)) h = absurd h
spanned lo hi number (Some (part.Span span)) h = (span, refl)
spanned lo hi number (Some (part.Facts known)) h = absurd h
spanned lo hi number (Some part.Free) h = absurd h

form_spanned : (path : Path) (lo hi : ℤ) (f : IntForm) → NumberFits lo hi path.when f → HasSpan path (form_cell f)
form_spanned path lo hi (int.Const n) h = tt
form_spanned path lo hi (int.Line line) h = spanned lo hi (form_on (int.Line line)) (slice_get path.when line.cell) h

-- ---- what the cell holds after the path

going_state : (truth : Truth) (when : List Part) (forms : List Form) (first later : State) → given truth (record { when = when; end = Next forms }) first ≡ Going later ∷ [] → Admits truth when first × (later ≡ state_at forms first)
going_state truth when forms first later = go (admits truth when first.cells) refl
  where
    go : (b : Bool) → admits truth when first.cells ≡ b → (if b then Going (state_at forms first) ∷ [] else []) ≡ Going later ∷ [] → Admits truth when first × (later ≡ state_at forms first)
    go true a e =
        let same : Going (state_at forms first) ∷ [] ≡ Going later ∷ [] = e in
        ((admits_decided truth when first).0 a, cc)
    go false a e = absurd (cc)

number_after : (truth : Truth) (p : ScriptPlan) (when : List Part) (forms : List Form) (c : ℕ) (f : IntForm) (first later : State) → AllZip (PartFits p) p.cells when → IsIntCell p.cells c → slice_get forms c ≡ Some (form.Int f) → Admits truth when first → later ≡ state_at forms first → number_at later c ≡ form_value f first
number_after truth p when forms c f first later parts cell at a is =
    let need = zip_get (PartFits p) p.cells when c (int_plan cell) parts cell.is in
    let held = zip_get (PartAdmits truth) when first.cells c need.0 a need.1 in
    let there : slice_get (cells_at forms first first.cells) c ≡ Some (cell_at (form.Int f) first held.0) = cells_at_get forms first first.cells c (form.Int f) held.0 at held.1 in
    ap (λ (s : State). number_at s c) is ∙ ap cell_number there

-- ---- the ready term

module _ (p : ScriptPlan) (q : Pair) (cell : IsIntCell p.cells q.cell) where
  spans : (path : Path) (f : IntForm) (wide : Wide) → IsPairOver f q wide → HasSpan path (form_cell f) → HasSpan path (wide_cell wide)
  spans path f wide over h = elim (int_cases q.a) [
    | inl e ↦ subst (λ (o : Option ℕ). HasSpan path o) (sym (over.constant e)) tt
    | inr e ↦ subst (λ (o : Option ℕ). HasSpan path o) (sym (over.cell e)) h
  ]
    where
      int_cases : (x : ℤ) → (x ≡ pos 0) ⊎ (x ≢ pos 0)
      int_cases x = go (int_eq x (pos 0)) refl
        where
          go : (b : Bool) → int_eq x (pos 0) ≡ b → (x ≡ pos 0) ⊎ (x ≢ pos 0)
          go true e = inl ((Decides-int_eq x (pos 0)).0 e)
          go false e = inr (λ h. let t = (Decides-int_eq x (pos 0)).1 h in cc)

  pub line_over : (path : Path) (f : IntForm) (wide : Wide) → PathFits p path → Some f ≡ number_form path q.cell → IsPairOver f q wide → IsReadyOver p (ready.Line q) path wide
  line_over path f wide fits is over = go path.end refl
    where
      go : (end : PathEnd) → path.end ≡ end → IsReadyOver p (ready.Line q) path wide
      go (Ended fault) e = let none : Some f ≡ None = is ∙ ap (λ (x : PathEnd). int_form (form_of x q.cell)) e in absurd (cc)
      go (Next forms) e =
          let forms_fit : FormsFit p path.when forms = subst (λ (x : PathEnd). EndFits p path.when x) e fits.end in
          let found = number_form_fits p path.when forms q.cell cell forms_fit in
          let same : Some f ≡ Some found.0 = is ∙ ap (λ (x : PathEnd). int_form (form_of x q.cell)) e ∙ ap int_form found.3 in
          let equal : found.0 ≡ f = cc in
          let there : slice_get forms q.cell ≡ Some (form.Int f) = found.3 ∙ ap (λ (g : IntForm). Some (form.Int g)) equal in
          let fit : NumberFits found.1 found.2 path.when f = subst (λ (g : IntForm). NumberFits found.1 found.2 path.when g) equal found.4 in
          let truth = test_truth p.tests in
          let number : (first later : State) → given truth path first ≡ Going later ∷ [] → pair_at q (number_at later q.cell) ≡ wide_value wide first =
          λ first later g.
          let g' : given truth (record { when = path.when; end = Next forms }) first ≡ Going later ∷ [] = ap (λ (x : PathEnd). given truth (record { when = path.when; end = x }) first) (sym e) ∙ g in
          let came = going_state truth path.when forms first later g' in
          let held : number_at later q.cell ≡ form_value f first = number_after truth p path.when forms q.cell f first later fits.parts cell there came.0 came.1 in
          ap (λ (x : ℤ). pair_at q x) held ∙ sym (over.value first) in
          record {
            goes_on = subst GoesOn (sym e) tt;
            number = number;
            span = spans path f wide over (form_spanned path found.1 found.2 f fit);
            fixed = λ t. absurd (cc);
          }

  pub line_ended : (path : Path) → PathFits p path → None ≡ number_form path q.cell → ¬ (GoesOn path.end)
  line_ended path fits is = go path.end refl
    where
      go : (end : PathEnd) → path.end ≡ end → ¬ (GoesOn path.end)
      go (Ended fault) e = λ h. subst GoesOn e h
      go (Next forms) e = λ h.
          let forms_fit : FormsFit p path.when forms = subst (λ (x : PathEnd). EndFits p path.when x) e fits.end in
          let found = number_form_fits p path.when forms q.cell cell forms_fit in
          let same : None ≡ Some found.0 = is ∙ ap (λ (x : PathEnd). int_form (form_of x q.cell)) e ∙ ap int_form found.3 in
          cc
