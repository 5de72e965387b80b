-- The tests of what is left of a cell, and the definition.
use Rattle.std.proofs.Common.{◌≡◌, ◌<◌, ◌≤◌, ◌↔◌, ℕ, zero, suc, ℤ, ◌≤ℤ◌, Bool, true, false, not, ◌&&◌, List, [], ◌∷◌, Option, Some, None, ◌⊎◌, inl, inr, refl, sym, ap, ◌∙◌, subst, arith}
use Rattle.std.proofs.lemmas.Bool.{cases_Bool, cases_eq, cases_lt, eq-eqb, ne_eqb, and_parts, and_from, not-true}
use Rattle.std.proofs.lemmas.Int.{ints}
use Rattle.std.proofs.lemmas.Nat.Bits.{bit_at_above}
use Rattle.std.specs.Prelude.{slice_get, IsTrue, is_some}
use Rattle.std.specs.Bool.{Decides}
use Rattle.sym_base.specs.Tests.{Truth}
use Rattle.sym_base.specs.declared.values.state.Cell.TheVariants as cell
use Rattle.sym_enum.specs.Labels.{has_label}
use Rattle.sym_enum.specs.declared.form.EnumForm.TheVariants as label
use Rattle.sym_enum.specs.declared.label_set.LabelSet.{LabelSet}
use Rattle.sym_int.specs.Lines.{form_on, form_cell}
use Rattle.sym_int.specs.Points.{HasPoint, IsPart}
use Rattle.sym_int.specs.declared.form.IntForm.{IntForm}
use Rattle.sym_int.specs.declared.form.IntForm.TheVariants as number
use Rattle.sym_int.specs.declared.span.Span.{Span}
use Rattle.sym_pred.specs.Facts.{Atom, FactMap}
use Rattle.sym_pred.specs.Meaning.{Stands}
use Rattle.sym_pred.specs.declared.form.HoldForm.TheVariants as hold
use Rattle.sym_path.specs.declared.part.Part.{Part}
use Rattle.sym_path.specs.declared.part.Part.TheVariants as part
use Rattle.sym_path.specs.declared.form.Form.{Form}
use Rattle.sym_path.specs.declared.form.Form.TheVariants as form
use Rattle.sym_path.specs.Possible.{Meets, ConstantMeets, LabelMeets, NumberMeets, IsNeeded, IsLeft}
use Rattle.sym_path.specs.Pulling.{zip_all, constant_meets, in_set, label_passes, in_span, number_passes, AllAgree, NeedsAgree}
use Rattle.sym_path.proofs.Decided.{part_decided, point_decided}

-- ---- tests of all pairs

zip_all_at : {A B : Type 0} (t : A → B → Bool) (xs : List A) (ys : List B) (d : ℕ) (x : A) (y : B) → zip_all t xs ys ≡ true → slice_get xs d ≡ Some x → slice_get ys d ≡ Some y → t x y ≡ true
zip_all_at t [] ys d x y h e f = absurd (cc)
zip_all_at t (a ∷ xs) [] d x y h e f = absurd (cc)
zip_all_at t (a ∷ xs) (b ∷ ys) zero x y h e f =
    let p : a ≡ x = cc in
    let q : b ≡ y = cc in
    sym (ap (λ v. t v b) p ∙ ap (λ v. t x v) q) ∙ (and_parts (t a b) (zip_all t xs ys) h).0
zip_all_at t (a ∷ xs) (b ∷ ys) (suc d) x y h e f = zip_all_at t xs ys d x y (and_parts (t a b) (zip_all t xs ys) h).1 e f

zip_all_from : {A B : Type 0} (t : A → B → Bool) (xs : List A) (ys : List B) → ((d : ℕ) (x : A) (y : B) → slice_get xs d ≡ Some x → slice_get ys d ≡ Some y → t x y ≡ true) → zip_all t xs ys ≡ true
zip_all_from t [] [] h = refl
zip_all_from t [] (b ∷ ys) h = refl
zip_all_from t (a ∷ xs) [] h = refl
zip_all_from t (a ∷ xs) (b ∷ ys) h = and_from (t a b) (zip_all t xs ys) (h 0 a b refl refl) (zip_all_from t xs ys (λ d x y. h (suc d) x y))

-- ---- constants

constant_decided : (truth : Truth) (f : Form) (need : Part) → Decides (constant_meets truth f need) (ConstantMeets truth f need)
constant_decided truth (form.Enum (label.Const l)) need = part_decided truth need (cell.Enum l)
constant_decided truth (form.Enum (label.Copy c)) need = (λ e. tt, λ h. refl)
constant_decided truth (form.Int (number.Const n)) need = part_decided truth need (cell.Int n.value)
constant_decided truth (form.Int (number.Line line)) need = (λ e. tt, λ h. refl)
constant_decided truth (form.Hold (hold.Const parts)) need = part_decided truth need (cell.Hold parts)
constant_decided truth (form.Hold (hold.Copy c)) need = (λ e. tt, λ h. refl)
constant_decided truth (form.Nums added) need = (λ e. tt, λ h. refl)
constant_decided truth (form.Words added) need = (λ e. tt, λ h. refl)

pub constants_decided : (truth : Truth) (forms : List Form) (needs : List Part) → IsTrue (zip_all (constant_meets truth) forms needs) ↔ ((f : Form) (need : Part) → Meets forms needs f need → ConstantMeets truth f need)
constants_decided truth forms needs = (
  λ h f need m. (constant_decided truth f need).0 (zip_all_at (constant_meets truth) forms needs m.cell f need h m.has m.needed),
  λ h. zip_all_from (constant_meets truth) forms needs (λ d f need e g. (constant_decided truth f need).1 (h f need (record { cell = d; has = e; needed = g }))),
)

-- ---- labels

find_below : (set : LabelSet) (n : ℕ) → ((l : ℕ) × IsTrue (has_label set l)) ⊎ ((l : ℕ) → l < n → has_label set l ≡ false)
find_below set zero = inr (λ l h. absurd (omega arith))
find_below set (suc n) = elim (find_below set n) [
  | inl w ↦ inl w
  | inr none ↦ elim (cases_Bool (has_label set n)) [
    | inl e ↦ inl (n, e)
    | inr e ↦ inr (λ l h. elim (cases_lt l n) [
      | inl below ↦ none l below
      | inr above ↦ let at : l ≡ n = omega arith in ap (has_label set) at ∙ e
    ])
  ]
]

none_above : (set : LabelSet) (l : ℕ) → 32 ≤ l → has_label set l ≡ false
unfolding has_label
none_above set l h = let e = bit_at_above set.bits 32 l set.below_32 h in rw e refl

-- A set that isn't empty has a label.
pub some_label : (set : LabelSet) → (((l : ℕ) → has_label set l ≡ false) → ⊥) → (l : ℕ) × IsTrue (has_label set l)
some_label set h = elim (find_below set 32) [
  | inl w ↦ w
  | inr none ↦ absurd (h (λ l. elim (cases_lt l 32) [ inl below ↦ none l below | inr above ↦ none_above set l above ]))
]

in_set_from : (need : Part) (l : ℕ) → ((n : LabelSet) → need ≡ part.Set n → IsTrue (has_label n l)) → in_set need l ≡ true
in_set_from (part.Set n) l h = h n refl
in_set_from (part.Span n) l h = refl
in_set_from (part.Facts n) l h = refl
in_set_from part.Free l h = refl

label_passes_from : (c l : ℕ) (f : Form) (need : Part) → ((n : LabelSet) → f ≡ form.Enum (label.Copy c) → need ≡ part.Set n → IsTrue (has_label n l)) → label_passes c l f need ≡ true
label_passes_from c l (form.Enum (label.Const m)) need h = refl
label_passes_from c l (form.Enum (label.Copy d)) need h = elim (cases_eq d c) [
  | inl e ↦ rw (eq-eqb d c e) (in_set_from need l (λ n q. h n (ap (λ k. form.Enum (label.Copy k)) e) q))
  | inr e ↦ rw (ne_eqb d c e) refl
]
label_passes_from c l (form.Int f) need h = refl
label_passes_from c l (form.Hold f) need h = refl
label_passes_from c l (form.Nums added) need h = refl
label_passes_from c l (form.Words added) need h = refl

label_passes_to : (c l : ℕ) (n : LabelSet) → label_passes c l (form.Enum (label.Copy c)) (part.Set n) ≡ true → IsTrue (has_label n l)
label_passes_to c l n h = rw (eq-eqb c c refl) at h

pub labels_meet : (c l : ℕ) (forms : List Form) (needs : List Part) → IsTrue (zip_all (label_passes c l) forms needs) ↔ LabelMeets forms needs c l
labels_meet c l forms needs = (
  λ h n m. label_passes_to c l n (zip_all_at (label_passes c l) forms needs m.cell _ _ h m.has m.needed),
  λ h. zip_all_from (label_passes c l) forms needs (λ d f need e g. label_passes_from c l f need (λ n p q. h n (record { cell = d; has = e ∙ ap Some p; needed = g ∙ ap Some q }))),
)

pub set_left : (set left : LabelSet) (forms : List Form) (needs : List Part) (c : ℕ) (b : Bool) → ((l : ℕ) → has_label left l ≡ (has_label set l && zip_all (label_passes c l) forms needs)) → (IsTrue b ↔ ((l : ℕ) → has_label left l ≡ false)) → IsTrue (not b) ↔ IsLeft forms needs c (part.Set set)
set_left set left forms needs c b each empty = (
  λ h.
      let w = some_label left (λ none. let t : b ≡ true = empty.1 none in let f : b ≡ false = not-true b h in cc) in
      let t = and_parts _ _ (sym (each w.0) ∙ w.1) in
      (w.0, t.0, (labels_meet c w.0 forms needs).0 t.1),
  λ (l, has, meets).
      let t : has_label left l ≡ true = each l ∙ and_from _ _ has ((labels_meet c l forms needs).1 meets) in
      go b refl l t,
)
  where
    go : (v : Bool) → b ≡ v → (l : ℕ) → has_label left l ≡ true → IsTrue (not v)
    go true e l t = absurd (let f : has_label left l ≡ false = empty.0 e l in cc)
    go false e l t = refl

-- ---- numbers

in_span_from : (need : Part) (y : ℤ) → ((n : Span) → need ≡ part.Span n → HasPoint n y) → in_span need y ≡ true
in_span_from (part.Set n) y h = refl
in_span_from (part.Span n) y h = (point_decided n y).1 (h n refl)
in_span_from (part.Facts n) y h = refl
in_span_from part.Free y h = refl

number_passes_from : (c : ℕ) (x : ℤ) (f : Form) (need : Part) → ((g : IntForm) (n : Span) → form_cell g ≡ Some c → f ≡ form.Int g → need ≡ part.Span n → HasPoint n (form_on g x)) → number_passes c x f need ≡ true
number_passes_from c x (form.Enum f) need h = refl
number_passes_from c x (form.Int (number.Const n)) need h = refl
number_passes_from c x (form.Int (number.Line line)) need h = elim (cases_eq line.cell c) [
  | inl e ↦ rw (eq-eqb line.cell c e) (in_span_from need (form_on (number.Line line) x) (λ n q. h (number.Line line) n (ap Some e) refl q))
  | inr e ↦ rw (ne_eqb line.cell c e) refl
]
number_passes_from c x (form.Hold f) need h = refl
number_passes_from c x (form.Nums added) need h = refl
number_passes_from c x (form.Words added) need h = refl

number_passes_to : (c : ℕ) (x : ℤ) (g : IntForm) (n : Span) → form_cell g ≡ Some c → number_passes c x (form.Int g) (part.Span n) ≡ true → HasPoint n (form_on g x)
number_passes_to c x (number.Const m) n e h = absurd (cc)
number_passes_to c x (number.Line line) n e h = let q : line.cell ≡ c = cc in (point_decided n (form_on (number.Line line) x)).0 (rw (eq-eqb line.cell c q) at h)

pub numbers_meet : (c : ℕ) (x : ℤ) (forms : List Form) (needs : List Part) → IsTrue (zip_all (number_passes c x) forms needs) ↔ NumberMeets forms needs c x
numbers_meet c x forms needs = (
  λ h g n q m. number_passes_to c x g n q (zip_all_at (number_passes c x) forms needs m.cell _ _ h m.has m.needed),
  λ h. zip_all_from (number_passes c x) forms needs (λ d f need e k. number_passes_from c x f need (λ g n q p r. h g n q (record { cell = d; has = e ∙ ap Some p; needed = k ∙ ap Some r }))),
)

pub span_left : (span : Span) (o : Option Span) (forms : List Form) (needs : List Part) (c : ℕ) → IsPart (λ x. HasPoint span x × IsTrue (zip_all (number_passes c x) forms needs)) o → IsTrue (is_some o) ↔ IsLeft forms needs c (part.Span span)
span_left span None forms needs c none = (λ h. absurd (cc), λ (x, has, meets). absurd (none x (has, (numbers_meet c x forms needs).1 meets)))
span_left span (Some left) forms needs c all = (
  λ h.
      let o : left.lo ≤ℤ left.hi = left.ordered in
      let q = (all left.lo).0 (omega (arith, ints), o) in
      (left.lo, q.0, (numbers_meet c left.lo forms needs).0 q.1),
  λ w. refl,
)

-- ---- facts

pub not_itself : (o : Bool) → o ≡ not o → ⊥
not_itself true e = cc
not_itself false e = cc

not_twice : (o : Bool) → not (not o) ≡ o
not_twice true = refl
not_twice false = refl

module _ (c : ℕ) (known : FactMap) (forms : List Form) (needs : List Part) where
  pub facts_left : AllAgree c known forms needs → NeedsAgree c forms needs → IsLeft forms needs c (part.Facts known)
  facts_left all others atom o (inl s) (inl t) =
      let e : Some o ≡ Some (not o) = sym s ∙ t in
      let same : o ≡ not o = cc in
      not_itself o same
  facts_left all others atom o (inl s) (inr m) = all m.meets.cell _ _ m.meets.has m.meets.needed refl (record { atom = atom; outcome = o; one = s; other = m.stands })
  facts_left all others atom o (inr n) (inl t) = all n.meets.cell _ _ n.meets.has n.meets.needed refl (record { atom = atom; outcome = not o; one = t; other = subst (λ (b : Bool). Stands n.need atom b) (sym (not_twice o)) n.stands })
  facts_left all others atom o (inr n) (inr m) = others n.meets.cell _ _ n.meets.has n.meets.needed refl m.meets.cell _ _ m.meets.has m.meets.needed refl (record { atom = atom; outcome = o; one = n.stands; other = m.stands })

  needed_at : (d e : ℕ) (n : FactMap) (atom : Atom) (o : Bool) → d ≡ c → slice_get forms e ≡ Some (form.Hold (hold.Copy d)) → slice_get needs e ≡ Some (part.Facts n) → Stands n atom o → IsNeeded forms needs c atom o
  needed_at d e n atom o q h g s = record { need = n; meets = record { cell = e; has = h ∙ ap (λ k. Some (form.Hold (hold.Copy k))) q; needed = g }; stands = s }

  module _ (left : IsLeft forms needs c (part.Facts known)) where
    pub all_from_left : AllAgree c known forms needs
    all_from_left d (form.Enum f) need e g = tt
    all_from_left d (form.Int f) need e g = tt
    all_from_left d (form.Hold (hold.Const parts)) need e g = tt
    all_from_left d (form.Hold (hold.Copy k)) (part.Set n) e g = λ q. tt
    all_from_left d (form.Hold (hold.Copy k)) (part.Span n) e g = λ q. tt
    all_from_left d (form.Hold (hold.Copy k)) (part.Facts n) e g = λ q clash. left clash.atom clash.outcome (inl clash.one) (inr (needed_at k d n clash.atom (not clash.outcome) q e g clash.other))
    all_from_left d (form.Hold (hold.Copy k)) part.Free e g = λ q. tt
    all_from_left d (form.Nums added) need e g = tt
    all_from_left d (form.Words added) need e g = tt

    two_agree : (n : FactMap) (k d : ℕ) → k ≡ c → slice_get forms d ≡ Some (form.Hold (hold.Copy k)) → slice_get needs d ≡ Some (part.Facts n) → AllAgree c n forms needs
    two_agree n k d q e g d' (form.Enum f) need e' g' = tt
    two_agree n k d q e g d' (form.Int f) need e' g' = tt
    two_agree n k d q e g d' (form.Hold (hold.Const parts)) need e' g' = tt
    two_agree n k d q e g d' (form.Hold (hold.Copy k')) (part.Set m) e' g' = λ q'. tt
    two_agree n k d q e g d' (form.Hold (hold.Copy k')) (part.Span m) e' g' = λ q'. tt
    two_agree n k d q e g d' (form.Hold (hold.Copy k')) (part.Facts m) e' g' = λ q' clash. left clash.atom clash.outcome (inr (needed_at k d n clash.atom clash.outcome q e g clash.one)) (inr (needed_at k' d' m clash.atom (not clash.outcome) q' e' g' clash.other))
    two_agree n k d q e g d' (form.Hold (hold.Copy k')) part.Free e' g' = λ q'. tt
    two_agree n k d q e g d' (form.Nums added) need e' g' = tt
    two_agree n k d q e g d' (form.Words added) need e' g' = tt

    pub others_from_left : NeedsAgree c forms needs
    others_from_left d (form.Enum f) need e g = tt
    others_from_left d (form.Int f) need e g = tt
    others_from_left d (form.Hold (hold.Const parts)) need e g = tt
    others_from_left d (form.Hold (hold.Copy k)) (part.Set n) e g = λ q. tt
    others_from_left d (form.Hold (hold.Copy k)) (part.Span n) e g = λ q. tt
    others_from_left d (form.Hold (hold.Copy k)) (part.Facts n) e g = λ q. two_agree n k d q e g
    others_from_left d (form.Hold (hold.Copy k)) part.Free e g = λ q. tt
    others_from_left d (form.Nums added) need e g = tt
    others_from_left d (form.Words added) need e g = tt
