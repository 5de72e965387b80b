-- A path on the union of two constraints fits where both paths fit.
use Rattle.std.proofs.Common.{get_or, ◌≡◌, ℕ, ℤ, ◌≤ℤ◌, ◌<ℤ◌, ◌||◌, Bool, List, [], ◌∷◌, Some, ◌⊎◌, inl, inr, refl, sym, ap, ◌∙◌, subst, arith}
use Rattle.std.proofs.lemmas.Bool.{cases_eq}
use Rattle.std.proofs.lemmas.Int.{ints, by_lt_z}
use Rattle.std.specs.Prelude.{slice_get, slice_set, IsTrue}
use Rattle.std.specs.List.{All, AllZip}
use Rattle.sym_check.specs.declared.plan.script.CellPlan.{CellPlan}
use Rattle.sym_check.specs.declared.plan.script.CellPlan.TheVariants as plan
use Rattle.sym_check.specs.declared.plan.script.KindPlan.{KindPlan}
use Rattle.sym_check.specs.Plan.ScriptPlans.{ScriptPlan}
use Rattle.sym_check.specs.Plan.Ranges.{InRange}
use Rattle.sym_check.specs.Meaning.Validity.{label_count}
use Rattle.sym_enum.specs.Labels.{has_label, IsOnlyLabel}
use Rattle.sym_enum.specs.declared.label_set.LabelSet.{LabelSet}
use Rattle.sym_int.specs.Elements.{IsConstant}
use Rattle.sym_int.specs.Lines.{form_on, form_cell}
use Rattle.sym_int.specs.Points.{HasPoint, IsUnion}
use Rattle.sym_int.specs.declared.form.IntForm.{IntForm}
use Rattle.sym_int.specs.declared.form.IntForm.TheVariants as number
use Rattle.sym_int.specs.declared.form.Line.{Line}
use Rattle.sym_int.specs.declared.span.Span.{Span}
use Rattle.sym_pred.specs.Facts.{FactMap}
use Rattle.sym_pred.specs.Literals.{literals, literal_of, atom_of}
use Rattle.sym_pred.specs.Meaning.{Stands}
use Rattle.sym_pred.specs.declared.literal.Literal.{Literal}
use Rattle.sym_pred.proofs.CallersLemmas.{literal_stands, stands_at}
use Rattle.sym_path.specs.declared.part.Part.{Part}
use Rattle.sym_path.specs.declared.part.Part.TheVariants as part
use Rattle.sym_path.specs.declared.form.Form.{Form}
use Rattle.sym_path.specs.declared.form.Form.TheVariants as form
use Rattle.sym_path.specs.declared.path.PathEnd.{PathEnd}
use Rattle.sym_path.specs.declared.path.PathEnd.TheVariants.{Next, Ended}
use Rattle.sym_path.specs.Fitting.{FitsEnum, FitsRange, Suits, PartFits, StaysWithin, NumberFits, FormFits, FormsFit, EndFits}
use Rattle.sym_path.specs.Fitting as fitting
use Rattle.sym_path.specs.Joins.{AreUnitedFacts, IsUnitedPart, IsUnitedInOne, AreUnited, EndIsTakenTo}
use Rattle.sym_path.specs.Joins as joins
use Rattle.sym_path.specs.Taking.{HasOneLabel, HasOneNumber, NumberIsTakenTo, IsTakenTo, IsTakenOn}
use Rattle.sym_path.proofs.JoiningUnited.{or_is}
use Rattle.sym_path.proofs.Lists.{set_cases, set_same, set_other, zip_at, zip_get, zip_get_right, zip_set, all_from, all_at}
use Rattle.sym_path.proofs.NarrowedFits.{label_free, label_taken, number_free, number_taken}

-- ---- the parts

-- What fits says of a part of each kind.
labels_within : (p : ScriptPlan) (of first : ℕ) (set : LabelSet) → PartFits p (plan.Enum of first) (part.Set set) → FitsEnum (label_count p.enums of) set
labels_within p of first set (fitting.labels _ _ _ h) = h

in_range : (p : ScriptPlan) (lo hi first : ℤ) {clamp : Bool} (span : Span) → PartFits p (plan.Int lo hi first clamp) (part.Span span) → FitsRange lo hi span
in_range p lo hi first span (fitting.numbers _ _ _ _ h) = h

united_set : (count : ℕ) (a b u : LabelSet) → ((l : ℕ) → has_label u l ≡ (has_label a l || has_label b l)) → FitsEnum count a → FitsEnum count b → FitsEnum count u
united_set count a b u h x y = record {
  some = let (l, has) = x.some in (l, (or_is (has_label a l) (has_label b l) (has_label u l) (h l)).1 (inl has));
  within = λ l e. elim ((or_is (has_label a l) (has_label b l) (has_label u l) (h l)).0 e) [ inl t ↦ x.within l t | inr t ↦ y.within l t ];
}

united_span : (lo hi : ℤ) (a b u : Span) → IsUnion u a b → FitsRange lo hi a → FitsRange lo hi b → FitsRange lo hi u
united_span lo hi a b u h x y = (low ((h u.lo).0 (omega (arith, ints), ordered)), high ((h u.hi).0 (ordered, omega (arith, ints))))
  where
    ordered : u.lo ≤ℤ u.hi
    ordered = u.ordered

    low : HasPoint a u.lo ⊎ HasPoint b u.lo → lo ≤ℤ u.lo
    low (inl t) = let p = t.0 in let q = x.0 in omega (arith, ints)
    low (inr t) = let p = t.0 in let q = y.0 in omega (arith, ints)

    high : HasPoint a u.hi ⊎ HasPoint b u.hi → u.hi ≤ℤ hi
    high (inl t) = let p = t.1 in let q = x.1 in omega (arith, ints)
    high (inr t) = let p = t.1 in let q = y.1 in omega (arith, ints)

pub same_literal : (x y : Literal) → atom_of x ≡ atom_of y → x.outcome ≡ y.outcome → x ≡ y
same_literal x y e f = λ i. literal_of (e i, f i)

united_literals : (p : ScriptPlan) (kinds : List KindPlan) (a b u : FactMap) → AreUnitedFacts a b u → All (Suits p kinds) (literals a) → All (Suits p kinds) (literals u)
united_literals p kinds a b u h all = λ k d l.
    let x : Literal = get_or (literals u) k d in
    let stands : Stands a (atom_of x) x.outcome = ((h.literals (atom_of x) x.outcome).0 (literal_stands u k d l)).0 in
    let (i, within, at) = stands_at a (atom_of x) x.outcome stands in
    subst (λ (y : Literal). Suits p kinds y) (same_literal (get_or (literals a) i d) x (at d).0 (at d).1) (all i d within)

union_fits : (p : ScriptPlan) (cp : CellPlan) (a b u : Part) → IsUnitedPart a b u → PartFits p cp a → PartFits p cp b → PartFits p cp u
union_fits p _ _ _ _ (joins.sets a b u h) (fitting.labels of first _ x) y = fitting.labels of first u (united_set (label_count p.enums of) a b u h x (labels_within p of first b y))
union_fits p _ _ _ _ (joins.spans a b u h) (fitting.numbers lo hi first _ x) y = fitting.numbers lo hi first u (united_span lo hi a b u h x (in_range p lo hi first b y))
union_fits p _ _ _ _ (joins.facts_of a b u h) (fitting.parts kinds first _ x) y = fitting.parts kinds first u (united_literals p kinds a b u h x)
union_fits p _ _ _ _ joins.free (fitting.free_nums lo hi) y = fitting.free_nums lo hi
union_fits p _ _ _ _ joins.free fitting.free_words y = fitting.free_words

module _ (p : ScriptPlan) (v w u : List Part) (united : AreUnited v w u) (fits_v : AllZip (PartFits p) p.cells v) (fits_w : AllZip (PartFits p) p.cells w) where
  pub union_parts : AllZip (PartFits p) p.cells u
  union_parts = elim united [
    | inl h ↦ subst (λ (x : List Part). AllZip (PartFits p) p.cells x) (sym h.1) fits_v
    | inr j ↦
        let found = zip_get_right (PartFits p) p.cells v j.cell j.first fits_v j.in_first in
        let second = zip_at (PartFits p) p.cells w j.cell found.0 j.second fits_w found.1 j.in_second in
        subst (λ (x : List Part). AllZip (PartFits p) p.cells x) (sym j.is)
        (zip_set (PartFits p) p.cells v j.cell found.0 j.union fits_v found.1 (union_fits p found.0 j.first j.second j.union j.unites found.2 second))
  ]

  -- ---- cells with one value

  -- A set with one label is the union of sets of which the first one has this label alone.
  one_of : (cp : CellPlan) (a b u : Part) (set : LabelSet) (l : ℕ) → IsUnitedPart a b u → u ≡ part.Set set → IsOnlyLabel set l → PartFits p cp a → (old : LabelSet) × (a ≡ part.Set old) × IsOnlyLabel old l
  one_of _ _ _ _ set l (joins.sets a b t h) e only (fitting.labels of first _ x) = (a, refl, own)
    where
      same : t ≡ set
      same = cc

      up : (m : ℕ) → IsTrue (has_label a m) → m ≡ l
      up m q = (only m).0 (subst (λ (k : LabelSet). IsTrue (has_label k m)) same ((or_is (has_label a m) (has_label b m) (has_label t m) (h m)).1 (inl q)))

      own : IsOnlyLabel a l
      own m = (up m, λ q. let (k, has) = x.some in subst (λ (n : ℕ). IsTrue (has_label a n)) (up k has ∙ sym q) has)
  one_of _ _ _ _ set l (joins.spans a b t h) e only x = absurd (cc)
  one_of _ _ _ _ set l (joins.facts_of a b t h) e only x = absurd (cc)
  one_of _ _ _ _ set l joins.free e only x = absurd (cc)

  one_at : (a b u : Part) (span : Span) (x : ℤ) → IsUnitedPart a b u → u ≡ part.Span span → span.lo ≡ x → span.hi ≡ x → (old : Span) × (a ≡ part.Span old) × (old.lo ≡ x) × (old.hi ≡ x)
  one_at _ _ _ span x (joins.sets a b t h) e lo hi = absurd (cc)
  one_at _ _ _ span x (joins.spans a b t h) e lo hi =
      let same : t ≡ span = cc in
      let o : a.lo ≤ℤ a.hi = a.ordered in
      let lo' : t.lo ≡ x = ap (λ (k : Span). k.lo) same ∙ lo in
      let hi' : t.hi ≡ x = ap (λ (k : Span). k.hi) same ∙ hi in
      let first : HasPoint t a.lo = (h a.lo).1 (inl (omega (arith, ints), o)) in
      let last : HasPoint t a.hi = (h a.hi).1 (inl (o, omega (arith, ints))) in
      let f0 = first.0 in let f1 = first.1 in let l0 = last.0 in let l1 = last.1 in
      (a, refl, omega (arith, ints), omega (arith, ints))
  one_at _ _ _ span x (joins.facts_of a b t h) e lo hi = absurd (cc)
  one_at _ _ _ span x joins.free e lo hi = absurd (cc)

  label_before : (c l : ℕ) → HasOneLabel u c l → HasOneLabel v c l
  label_before c l o = elim united [
    | inl h ↦ record { set = o.set; is = ap (λ (x : List Part). slice_get x c) (sym h.1) ∙ o.is; only = o.only }
    | inr j ↦ elim (set_cases v j.cell c j.union (part.Set o.set) (ap (λ (x : List Part). slice_get x c) (sym j.is) ∙ o.is)) [
      | inl h ↦
          let found = zip_get_right (PartFits p) p.cells v j.cell j.first fits_v j.in_first in
          let (old, is, only) = one_of found.0 j.first j.second j.union o.set l j.unites (sym h.1) o.only found.2 in
          record { set = old; is = ap (λ k. slice_get v k) h.0 ∙ j.in_first ∙ ap Some is; only = only }
      | inr h ↦ record { set = o.set; is = h.1; only = o.only }
    ]
  ]

  number_before : (c : ℕ) (x : ℤ) → HasOneNumber u c x → HasOneNumber v c x
  number_before c x o = elim united [
    | inl h ↦ record { span = o.span; is = ap (λ (t : List Part). slice_get t c) (sym h.1) ∙ o.is; lo = o.lo; hi = o.hi }
    | inr j ↦ elim (set_cases v j.cell c j.union (part.Span o.span) (ap (λ (t : List Part). slice_get t c) (sym j.is) ∙ o.is)) [
      | inl h ↦
          let (old, is, lo, hi) = one_at j.first j.second j.union o.span x j.unites (sym h.1) o.lo o.hi in
          record { span = old; is = ap (λ k. slice_get v k) h.0 ∙ j.in_first ∙ ap Some is; lo = lo; hi = hi }
      | inr h ↦ record { span = o.span; is = h.1; lo = o.lo; hi = o.hi }
    ]
  ]

  -- ---- forms that are taken

  number_still : (f : IntForm) → NumberIsTakenTo v f f → NumberIsTakenTo u f f
  number_still f h = number_taken u f (λ d x e o. number_free v f h d x e (number_before d x o))

  numbers_still : (fs : List IntForm) → AllZip (NumberIsTakenTo v) fs fs → AllZip (NumberIsTakenTo u) fs fs
  numbers_still [] h = tt
  numbers_still (f ∷ fs) h = (number_still f h.0, numbers_still fs h.1)

  taken_still : (f : Form) → IsTakenOn v f → IsTakenOn u f
  taken_still (form.Enum f) h = label_taken u f (λ d m e o. label_free v f h d m e (label_before d m o))
  taken_still (form.Int f) h = number_still f h
  taken_still (form.Hold f) h = refl
  taken_still (form.Nums added) h = numbers_still added h
  taken_still (form.Words added) h = refl

  -- ---- numbers in range

  constant_range : (lo hi y : ℤ) (g : IntForm) → IsConstant y g → NumberFits lo hi w g → InRange lo hi y
  constant_range lo hi y (number.Const n) h r = subst (λ (z : ℤ). InRange lo hi z) h r
  constant_range lo hi y (number.Line line) h r = absurd h

  -- At a point of the second constraint's span.
  at_second : (lo hi : ℤ) (line : Line) (g : IntForm) (b : Span) (x : ℤ) → slice_get w line.cell ≡ Some (part.Span b) → HasPoint b x → NumberIsTakenTo w (number.Line line) g → NumberFits lo hi w g → InRange lo hi (form_on (number.Line line) x)
  at_second lo hi line g b x is point taken fits =
      by_lt_z b.lo b.hi
      (λ less.
      let same : g ≡ number.Line line = taken.more (λ c y e o. more_points c y e o less) in
      let own : StaysWithin lo hi (form_on (number.Line line)) (slice_get w line.cell) = subst (λ (k : IntForm). NumberFits lo hi w k) same fits in
      let there : StaysWithin lo hi (form_on (number.Line line)) (Some (part.Span b)) = rw is at own in
      there x point)
      (λ more.
      let ordered : b.lo ≤ℤ b.hi = b.ordered in
      let one : b.hi ≡ b.lo = omega (arith, ints) in
      let p0 = point.0 in let p1 = point.1 in
      let at : b.lo ≡ x = omega (arith, ints) in
      let only : HasOneNumber w line.cell b.lo = record { span = b; is = is; lo = refl; hi = one } in
      subst (λ (y : ℤ). InRange lo hi (form_on (number.Line line) y)) at (constant_range lo hi (form_on (number.Line line) b.lo) g (taken.one line.cell b.lo refl only) fits))
    where
      more_points : (c : ℕ) (y : ℤ) → form_cell (number.Line line) ≡ Some c → HasOneNumber w c y → b.lo <ℤ b.hi → ⊥
      more_points c y e o less =
          let named : line.cell ≡ c = cc in
          let both : Some (part.Span b) ≡ Some (part.Span o.span) = sym is ∙ ap (λ k. slice_get w k) named ∙ o.is in
          let same : b ≡ o.span = cc in
          let lo' : b.lo ≡ y = ap (λ (k : Span). k.lo) same ∙ o.lo in
          let hi' : b.hi ≡ y = ap (λ (k : Span). k.hi) same ∙ o.hi in
          omega (arith, ints)

  -- The line at the points of the union.
  at_union : (lo hi : ℤ) (line : Line) (g : IntForm) (a b t : Part) → IsUnitedPart a b t → slice_get w line.cell ≡ Some b → StaysWithin lo hi (form_on (number.Line line)) (Some a) → NumberIsTakenTo w (number.Line line) g → NumberFits lo hi w g → StaysWithin lo hi (form_on (number.Line line)) (Some t)
  at_union lo hi line g _ _ _ (joins.sets a b t h) is stays taken fits = stays
  at_union lo hi line g _ _ _ (joins.spans a b t h) is stays taken fits = λ x point.
      elim ((h x).0 point) [
        | inl y ↦ stays x y
        | inr y ↦ at_second lo hi line g b x is y taken fits
      ]
  at_union lo hi line g _ _ _ (joins.facts_of a b t h) is stays taken fits = stays
  at_union lo hi line g _ _ _ joins.free is stays taken fits = stays

  number_fits : (lo hi : ℤ) (f g : IntForm) → NumberIsTakenTo w f g → NumberFits lo hi v f → NumberFits lo hi w g → NumberFits lo hi u f
  number_fits lo hi (number.Const n) g taken own other = own
  number_fits lo hi (number.Line line) g taken own other = elim united [
    | inl h ↦ subst (λ (x : List Part). StaysWithin lo hi (form_on (number.Line line)) (slice_get x line.cell)) (sym h.1) own
    | inr j ↦ subst (λ (x : List Part). StaysWithin lo hi (form_on (number.Line line)) (slice_get x line.cell)) (sym j.is) (elim (cases_eq line.cell j.cell) [
      | inl e ↦
          let in_v : slice_get v line.cell ≡ Some j.first = ap (λ k. slice_get v k) e ∙ j.in_first in
          let in_w : slice_get w line.cell ≡ Some j.second = ap (λ k. slice_get w k) e ∙ j.in_second in
          let in_u : slice_get (slice_set v j.cell j.union) line.cell ≡ Some j.union = ap (λ k. slice_get (slice_set v j.cell j.union) k) e ∙ set_same v j.cell j.union j.first j.in_first in
          let stays : StaysWithin lo hi (form_on (number.Line line)) (Some j.first) = rw in_v at own in
          rw in_u (at_union lo hi line g j.first j.second j.union j.unites in_w stays taken other)
      | inr e ↦ rw (set_other v j.cell line.cell j.union e) own
    ])
  ]

  all_fit : (lo hi : ℤ) (fs gs : List IntForm) → AllZip (NumberIsTakenTo w) fs gs → All (NumberFits lo hi v) fs → All (NumberFits lo hi w) gs → All (NumberFits lo hi u) fs
  all_fit lo hi fs gs taken own other = all_from (NumberFits lo hi u) fs each
    where
      each : (i : ℕ) (f : IntForm) → slice_get fs i ≡ Some f → NumberFits lo hi u f
      each i f e =
          let (g, at, t) = beside fs gs i f taken e in
          number_fits lo hi f g t (all_at (NumberFits lo hi v) fs i f own e) (all_at (NumberFits lo hi w) gs i g other at)
        where
          beside : (fs gs : List IntForm) (i : ℕ) (f : IntForm) → AllZip (NumberIsTakenTo w) fs gs → slice_get fs i ≡ Some f → (g : IntForm) × (slice_get gs i ≡ Some g) × NumberIsTakenTo w f g
          beside fs gs i f h e = zip_get (NumberIsTakenTo w) fs gs i f h e

  -- What fits says of number forms.
  number_of : (when : List Part) (lo hi first : ℤ) {clamp : Bool} (g : IntForm) → FormFits p when (plan.Int lo hi first clamp) (form.Int g) → NumberFits lo hi when g
  number_of when lo hi first g (fitting.of_number _ _ _ _ h) = h

  numbers_of : (when : List Part) (lo hi : ℤ) {clamp : Bool} (gs : List IntForm) → FormFits p when (plan.Nums lo hi clamp) (form.Nums gs) → All (NumberFits lo hi when) gs
  numbers_of when lo hi gs (fitting.of_numbers _ _ _ h) = h

  form_fits : (cp : CellPlan) (f g : Form) → IsTakenTo w f g → FormFits p v cp f → FormFits p w cp g → FormFits p u cp f
  form_fits _ _ g t (fitting.of_label of first l h) k = fitting.of_label of first l h
  form_fits _ _ g t (fitting.copied_label of first c h) k = fitting.copied_label of first c h
  form_fits _ _ (form.Enum g) t (fitting.of_number lo hi first f h) k = absurd t
  form_fits _ _ (form.Int g) t (fitting.of_number lo hi first f h) k = fitting.of_number lo hi first f (number_fits lo hi f g t h (number_of w lo hi first g k))
  form_fits _ _ (form.Hold g) t (fitting.of_number lo hi first f h) k = absurd t
  form_fits _ _ (form.Nums g) t (fitting.of_number lo hi first f h) k = absurd t
  form_fits _ _ (form.Words g) t (fitting.of_number lo hi first f h) k = absurd t
  form_fits _ _ g t (fitting.of_parts kinds first parts h) k = fitting.of_parts kinds first parts h
  form_fits _ _ g t (fitting.copied_parts kinds first c h) k = fitting.copied_parts kinds first c h
  form_fits _ _ (form.Enum g) t (fitting.of_numbers lo hi added h) k = absurd t
  form_fits _ _ (form.Int g) t (fitting.of_numbers lo hi added h) k = absurd t
  form_fits _ _ (form.Hold g) t (fitting.of_numbers lo hi added h) k = absurd t
  form_fits _ _ (form.Nums g) t (fitting.of_numbers lo hi added h) k = fitting.of_numbers lo hi added (all_fit lo hi added g t h (numbers_of w lo hi g k))
  form_fits _ _ (form.Words g) t (fitting.of_numbers lo hi added h) k = absurd t
  form_fits _ _ g t (fitting.of_words added) k = fitting.of_words added

  forms_fit : (cps : List CellPlan) (fs gs : List Form) → AllZip (IsTakenTo w) fs gs → AllZip (FormFits p v) cps fs → AllZip (FormFits p w) cps gs → AllZip (FormFits p u) cps fs
  forms_fit [] [] gs t h k = tt
  forms_fit [] (f ∷ fs) gs t h k = absurd h
  forms_fit (cp ∷ cps) [] gs t h k = absurd h
  forms_fit (cp ∷ cps) (f ∷ fs) [] t h k = absurd t
  forms_fit (cp ∷ cps) (f ∷ fs) (g ∷ gs) t h k = (form_fits cp f g t.0 h.0 k.0, forms_fit cps fs gs t.1 h.1 k.1)

  pub union_end : (e f : PathEnd) → EndIsTakenTo w e f → EndFits p v e → EndFits p w f → EndFits p u e
  union_end (Next fs) (Next gs) t h k = record {
    each = forms_fit p.cells fs gs t h.each k.each;
    taken = all_from (IsTakenOn u) fs (λ i f e. taken_still f (all_at (IsTakenOn v) fs i f h.taken e));
  }
  union_end (Next fs) (Ended b) t h k = absurd t
  union_end (Ended a) (Next gs) t h k = absurd t
  union_end (Ended a) (Ended b) t h k = h
