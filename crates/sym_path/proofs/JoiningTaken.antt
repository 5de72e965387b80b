-- When a form is another one taken on a constraint, cell by cell.
use Rattle.std.proofs.Common.{◌≡◌, ◌↔◌, ◌<◌, ◌≤◌, ◌+◌, ◌-◌, ℕ, ℤ, ◌<ℤ◌, Bool, List, Option, Some, None, ◌⊎◌, inl, inr, length, refl, sym, ap, ◌∙◌, subst, arith}
use Rattle.std.proofs.lemmas.Bool.{cases_lt}
use Rattle.std.proofs.lemmas.Bool.Decides.{Decides-like, Decides-at}
use Rattle.std.specs.Bool.{Decides}
use Rattle.std.proofs.lemmas.Int.{ints}
use Rattle.std.proofs.lemmas.Option.{slice_get_within}
use Rattle.std.specs.List.{AllZip}
use Rattle.std.specs.Prelude.{slice_get, IsTrue, MatchOption}
use Rattle.sym_enum.specs.Labels.{has_label, IsOnlyLabel}
use Rattle.sym_enum.specs.declared.form.EnumForm.{EnumForm}
use Rattle.sym_enum.specs.declared.form.EnumForm.TheVariants as label
use Rattle.sym_enum.specs.declared.label_set.LabelSet.{LabelSet}
use Rattle.sym_enum.specs.contracts.form.EnumFormPartialEq.TheImpl as label_equality
use Rattle.sym_enum.proofs.CallersLemmas as enums
use Rattle.sym_int.specs.Elements.{IsConstant}
use Rattle.sym_int.specs.Lines.{form_on, form_cell}
use Rattle.sym_int.specs.declared.form.IntForm.{IntForm}
use Rattle.sym_int.specs.declared.form.IntForm.TheVariants as number
use Rattle.sym_int.specs.declared.form.Line.{Line}
use Rattle.sym_int.specs.declared.form.Number.{Number}
use Rattle.sym_int.specs.declared.span.Span.{Span}
use Rattle.sym_int.specs.contracts.form.IntFormPartialEq.TheImpl as number_equality
use Rattle.sym_int.proofs.CallersLemmas as ints_of
use Rattle.sym_path.specs.declared.part.Part.{Part}
use Rattle.sym_path.specs.declared.part.Part.TheVariants as part
use Rattle.sym_path.specs.Joins.{AddedIsTaken}
use Rattle.sym_path.proofs.Lists.{zip_from}
use Rattle.sym_path.specs.Taking.{HasOneLabel, HasOneNumber, copied_cell, LabelIsTakenTo, NumberIsTakenTo}

-- ---- the only label or number of a cell

module _ (when : List Part) (c : ℕ) where
  pub one_label : (set : LabelSet) → slice_get when c ≡ Some (part.Set set) → (r : Option ℕ) → MatchOption r ((l : ℕ) → IsOnlyLabel set l → ⊥) (λ l. IsOnlyLabel set l) → MatchOption r ((l : ℕ) → HasOneLabel when c l → ⊥) (λ l. HasOneLabel when c l)
  one_label set e None h = λ l o. let same : o.set ≡ set = set_same (sym o.is ∙ e) in h l (subst (λ (t : LabelSet). IsOnlyLabel t l) same o.only)
    where
      set_same : {a b : LabelSet} → Some (part.Set a) ≡ Some (part.Set b) → a ≡ b
      set_same q = cc
  one_label set e (Some l) h = record { set = set; is = e; only = h }

  pub one_number : (span : Span) → slice_get when c ≡ Some (part.Span span) → (r : Option ℤ) → MatchOption r (span.lo <ℤ span.hi) (λ x. (span.lo ≡ x) × (span.hi ≡ x)) → MatchOption r ((x : ℤ) → HasOneNumber when c x → ⊥) (λ x. HasOneNumber when c x)
  one_number span e None h = λ x o.
      let same : o.span ≡ span = span_same (sym o.is ∙ e) in
      let lo : span.lo ≡ x = ap (λ (t : Span). t.lo) (sym same) ∙ o.lo in
      let hi : span.hi ≡ x = ap (λ (t : Span). t.hi) (sym same) ∙ o.hi in
      omega (arith, ints)
    where
      span_same : {a b : Span} → Some (part.Span a) ≡ Some (part.Span b) → a ≡ b
      span_same q = cc
  one_number span e (Some x) h = record { span = span; is = e; lo = h.0; hi = h.1 }

  pub no_label : (o : Option Part) → slice_get when c ≡ o → ((set : LabelSet) → o ≡ Some (part.Set set) → ⊥) → (l : ℕ) → HasOneLabel when c l → ⊥
  no_label o e none l h = none h.set (sym e ∙ h.is)

  pub no_number : (o : Option Part) → slice_get when c ≡ o → ((span : Span) → o ≡ Some (part.Span span) → ⊥) → (x : ℤ) → HasOneNumber when c x → ⊥
  no_number o e none x h = none h.span (sym e ∙ h.is)

-- A cell has one only label, and one only number.
pub label_once : (when : List Part) (c l m : ℕ) → HasOneLabel when c l → HasOneLabel when c m → m ≡ l
label_once when c l m h k =
    let same : k.set ≡ h.set = set_same (sym k.is ∙ h.is) in
    (h.only m).0 (subst (λ (t : LabelSet). IsTrue (has_label t m)) same ((k.only m).1 refl))
  where
    set_same : {a b : LabelSet} → Some (part.Set a) ≡ Some (part.Set b) → a ≡ b
    set_same q = cc

pub number_once : (when : List Part) (c : ℕ) (x y : ℤ) → HasOneNumber when c x → HasOneNumber when c y → y ≡ x
number_once when c x y h k =
    let same : k.span ≡ h.span = span_same (sym k.is ∙ h.is) in
    sym k.lo ∙ ap (λ (t : Span). t.lo) same ∙ h.lo
  where
    span_same : {a b : Span} → Some (part.Span a) ≡ Some (part.Span b) → a ≡ b
    span_same q = cc

-- ---- labels

module _ (when : List Part) (g : EnumForm) where
  const_label : (l : ℕ) → LabelIsTakenTo when (label.Const l) g ↔ (g ≡ label.Const l)
  const_label l = (λ h. h.more (λ c m e o. cc), λ e. record { one = λ c m q o. cc; more = λ none. e })

  same_cell : (c d : ℕ) → copied_cell (label.Copy c) ≡ Some d → d ≡ c
  same_cell c d e = cc

  copy_fixed : (c l : ℕ) → HasOneLabel when c l → LabelIsTakenTo when (label.Copy c) g ↔ (g ≡ label.Const l)
  copy_fixed c l o = (
    λ h. h.one c l refl o,
    λ e. record {
      one = λ d m q k. e ∙ ap label.Const (sym (label_once when c l m o (subst (λ (n : ℕ). HasOneLabel when n m) (same_cell c d q) k)));
      more = λ none. absurd (none c l refl o);
    },
  )

  copy_stays : (c : ℕ) → ((l : ℕ) → HasOneLabel when c l → ⊥) → LabelIsTakenTo when (label.Copy c) g ↔ (g ≡ label.Copy c)
  copy_stays c free = (
    λ h. h.more (λ d m q k. free m (subst (λ (n : ℕ). HasOneLabel when n m) (same_cell c d q) k)),
    λ e. record {
      one = λ d m q k. absurd (free m (subst (λ (n : ℕ). HasOneLabel when n m) (same_cell c d q) k));
      more = λ none. e;
    },
  )

  label_decided : (f e : EnumForm) (r : Bool) → LabelIsTakenTo when f g ↔ (g ≡ e) → r ≡ (label_equality.ghosts).eq g e → Decides r (LabelIsTakenTo when f g)
  label_decided f e r h is = Decides-like r h.1 h.0 (Decides-at r ((label_equality.ghosts).eq g e) is (enums.form_eq-Decides g e))

  pub const_label_decided : (f : EnumForm) (l : ℕ) (r : Bool) → f ≡ label.Const l → r ≡ (label_equality.ghosts).eq g f → Decides r (LabelIsTakenTo when f g)
  const_label_decided f l r e is =
      subst (λ (k : EnumForm). r ≡ (label_equality.ghosts).eq g k → Decides r (LabelIsTakenTo when k g)) (sym e) (label_decided (label.Const l) (label.Const l) r (const_label l)) is

  pub copy_fixed_decided : (f : EnumForm) (c l : ℕ) (r : Bool) → f ≡ label.Copy c → HasOneLabel when c l → r ≡ (label_equality.ghosts).eq g (label.Const l) → Decides r (LabelIsTakenTo when f g)
  copy_fixed_decided f c l r e o is =
      subst (λ (k : EnumForm). Decides r (LabelIsTakenTo when k g)) (sym e) (label_decided (label.Copy c) (label.Const l) r (copy_fixed c l o) is)

  pub copy_stays_decided : (f : EnumForm) (c : ℕ) (r : Bool) → f ≡ label.Copy c → ((l : ℕ) → HasOneLabel when c l → ⊥) → r ≡ (label_equality.ghosts).eq g f → Decides r (LabelIsTakenTo when f g)
  copy_stays_decided f c r e free is =
      subst (λ (k : EnumForm). r ≡ (label_equality.ghosts).eq g k → Decides r (LabelIsTakenTo when k g)) (sym e) (label_decided (label.Copy c) (label.Copy c) r (copy_stays c free)) is

-- ---- numbers

module _ (when : List Part) (g : IntForm) where
  const_number : (n : Number) → NumberIsTakenTo when (number.Const n) g ↔ (g ≡ number.Const n)
  const_number n = (λ h. h.more (λ c x e o. cc), λ e. record { one = λ c x q o. cc; more = λ none. e })

  named_cell : (l : Line) (d : ℕ) → form_cell (number.Line l) ≡ Some d → d ≡ l.cell
  named_cell l d e = cc

  line_fixed : (l : Line) (x : ℤ) → HasOneNumber when l.cell x → NumberIsTakenTo when (number.Line l) g ↔ IsConstant (form_on (number.Line l) x) g
  line_fixed l x o = (
    λ h. h.one l.cell x refl o,
    λ e. record {
      one = λ d y q k. subst (λ (z : ℤ). IsConstant (form_on (number.Line l) z) g) (sym (number_once when l.cell x y o (subst (λ (n : ℕ). HasOneNumber when n y) (named_cell l d q) k))) e;
      more = λ none. absurd (none l.cell x refl o);
    },
  )

  line_stays : (l : Line) → ((x : ℤ) → HasOneNumber when l.cell x → ⊥) → NumberIsTakenTo when (number.Line l) g ↔ (g ≡ number.Line l)
  line_stays l free = (
    λ h. h.more (λ d y q k. free y (subst (λ (n : ℕ). HasOneNumber when n y) (named_cell l d q) k)),
    λ e. record {
      one = λ d y q k. absurd (free y (subst (λ (n : ℕ). HasOneNumber when n y) (named_cell l d q) k));
      more = λ none. e;
    },
  )

  number_decided : (f e : IntForm) (r : Bool) → NumberIsTakenTo when f g ↔ (g ≡ e) → r ≡ (number_equality.ghosts).eq g e → Decides r (NumberIsTakenTo when f g)
  number_decided f e r h is = Decides-like r h.1 h.0 (Decides-at r ((number_equality.ghosts).eq g e) is (ints_of.form_eq-Decides g e))

  pub const_number_decided : (f : IntForm) (n : Number) (r : Bool) → f ≡ number.Const n → r ≡ (number_equality.ghosts).eq g f → Decides r (NumberIsTakenTo when f g)
  const_number_decided f n r e is =
      subst (λ (k : IntForm). r ≡ (number_equality.ghosts).eq g k → Decides r (NumberIsTakenTo when k g)) (sym e) (number_decided (number.Const n) (number.Const n) r (const_number n)) is

  pub line_stays_decided : (f : IntForm) (l : Line) (r : Bool) → f ≡ number.Line l → ((x : ℤ) → HasOneNumber when l.cell x → ⊥) → r ≡ (number_equality.ghosts).eq g f → Decides r (NumberIsTakenTo when f g)
  line_stays_decided f l r e free is =
      subst (λ (k : IntForm). r ≡ (number_equality.ghosts).eq g k → Decides r (NumberIsTakenTo when k g)) (sym e) (number_decided (number.Line l) (number.Line l) r (line_stays l free)) is

-- On one number: whether the other form is the constant.
pub constant_decided : (when : List Part) (f g : IntForm) (l : Line) (x y : ℤ) (n : Number) (r : Bool) → f ≡ number.Line l → g ≡ number.Const n → HasOneNumber when l.cell x → y ≡ form_on (number.Line l) x → Decides r (n.value ≡ y) → Decides r (NumberIsTakenTo when f g)
constant_decided when f g l x y n r e h o at d =
    subst (λ (k : IntForm). Decides r (NumberIsTakenTo when k g)) (sym e)
    (subst (λ (k : IntForm). Decides r (NumberIsTakenTo when (number.Line l) k)) (sym h)
    (Decides-like r
    (λ q. (line_fixed when (number.Const n) l x o).1 (q ∙ at))
    (λ t. (line_fixed when (number.Const n) l x o).0 t ∙ sym at) d))

pub not_a_line : (when : List Part) (f g : IntForm) (l m : Line) (x : ℤ) → f ≡ number.Line l → g ≡ number.Line m → HasOneNumber when l.cell x → NumberIsTakenTo when f g → ⊥
not_a_line when f g l m x e h o t =
    let first : NumberIsTakenTo when (number.Line l) g = subst (λ (k : IntForm). NumberIsTakenTo when k g) e t in
    let both : NumberIsTakenTo when (number.Line l) (number.Line m) = subst (λ (k : IntForm). NumberIsTakenTo when (number.Line l) k) h first in
    (line_fixed when (number.Line m) l x o).0 both

-- ---- what is found in a constraint

pub found_at : (when : List Part) (i c : ℕ) (x y : Part) → i ≡ c → Some x ≡ slice_get when i → x ≡ y → slice_get when c ≡ Some y
found_at when i c x y e h s = ap (λ n. slice_get when n) (sym e) ∙ sym h ∙ ap Some s

pub none_at : (when : List Part) (i c : ℕ) → i ≡ c → None ≡ slice_get when i → slice_get when c ≡ None
none_at when i c e h = ap (λ n. slice_get when n) (sym e) ∙ sym h

-- ---- lists, index by index

pub added_decided : (when : List Part) (xs ys : List IntForm) (i : ℕ) (x y : IntForm) (r : Bool) → Some x ≡ slice_get xs i → Some y ≡ slice_get ys i → Decides r (NumberIsTakenTo when x y) → Decides r (AddedIsTaken when xs ys i)
added_decided when xs ys i x y r e h d =
    Decides-like r
    (λ t f g a b. subst (λ (k : IntForm). NumberIsTakenTo when k g) (some_is (e ∙ a)) (subst (λ (k : IntForm). NumberIsTakenTo when x k) (some_is (h ∙ b)) t))
    (λ t. t x y (sym e) (sym h)) d
  where
    some_is : {f g : IntForm} → Some f ≡ Some g → f ≡ g
    some_is q = cc

pub no_added : (when : List Part) (xs ys : List IntForm) (i : ℕ) → (None ≡ slice_get xs i) ⊎ (None ≡ slice_get ys i) → AddedIsTaken when xs ys i
no_added when xs ys i (inl e) = λ f g a b. absurd (none_is (e ∙ a))
  where
    none_is : {f : IntForm} → None ≡ Some f → ⊥
    none_is q = cc
no_added when xs ys i (inr e) = λ f g a b. absurd (none_is (e ∙ b))
  where
    none_is : {f : IntForm} → None ≡ Some f → ⊥
    none_is q = cc

-- Two lists of one length whose items below an index at their end stand to each other.
pub whole_zip : {A : Type 0} (R : A → A → Type 0) (xs ys : List A) (i : ℕ) → length xs ≡ length ys → length xs ≤ i → ((d : ℕ) (x y : A) → d < i → slice_get xs d ≡ Some x → slice_get ys d ≡ Some y → R x y) → AllZip R xs ys
whole_zip R xs ys i e past h = zip_from R xs ys e (λ d x y a b. let within : d < length xs = slice_get_within xs d x a in h d x y (omega arith) a b)

-- Two lists of one length whose items stand to each other below an index and, from their end, below
-- it, where these meet.
pub zip_of_ends : (when : List Part) (xs ys : List IntForm) (i : ℕ) → length xs ≡ length ys → length xs ≤ i + i → ((d : ℕ) → d < i → AddedIsTaken when xs ys d) → ((d : ℕ) → d < i → AddedIsTaken when xs ys (length xs - 1 - d)) → AllZip (NumberIsTakenTo when) xs ys
zip_of_ends when xs ys i e past first last = zip_from (NumberIsTakenTo when) xs ys e each
  where
    each : (d : ℕ) (x y : IntForm) → slice_get xs d ≡ Some x → slice_get ys d ≡ Some y → NumberIsTakenTo when x y
    each d x y a b = elim (cases_lt d i) [
      | inl below ↦ first d below x y a b
      | inr above ↦
          let within : d < length xs = slice_get_within xs d x a in
          let low : length xs - 1 - d < i = omega (arith, within, past, above) in
          let same : length xs - 1 - (length xs - 1 - d) ≡ d = omega (arith, within) in
          subst (λ (k : ℕ). AddedIsTaken when xs ys k) same (last (length xs - 1 - d) low) x y a b
    ]
