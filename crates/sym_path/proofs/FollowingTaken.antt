-- Forms taken on what is left of a constraint, cell by cell.
use Rattle.std.proofs.Common.{◌≡◌, ◌≢◌, ◌<◌, ℕ, zero, suc, ℤ, ◌<ℤ◌, List, [], ◌∷◌, Some, None, ◌⊎◌, inl, inr, map, length, refl, sym, ap, ◌∙◌, subst, arith}
use Rattle.std.proofs.lemmas.Bool.{cases_eq, eq-eqb, ne_eqb}
use Rattle.std.proofs.lemmas.Int.{ints}
use Rattle.std.specs.Prelude.{slice_get, slice_set}
use Rattle.std.specs.List.{All, AllZip}
use Rattle.sym_enum.specs.Labels.{IsOnlyLabel}
use Rattle.sym_enum.specs.declared.form.EnumForm.{EnumForm}
use Rattle.sym_enum.specs.declared.form.EnumForm.TheVariants as label
use Rattle.sym_enum.specs.declared.label_set.LabelSet.{LabelSet}
use Rattle.sym_int.specs.Elements.{IsConstant, CanFix, IsFixedTo}
use Rattle.sym_int.specs.Lines.{form_on, form_cell}
use Rattle.sym_int.specs.declared.form.IntForm.{IntForm}
use Rattle.sym_int.specs.declared.form.IntForm.TheVariants as number
use Rattle.sym_int.specs.declared.span.Span.{Span}
use Rattle.sym_path.specs.declared.part.Part.{Part}
use Rattle.sym_path.specs.declared.part.Part.TheVariants as part
use Rattle.sym_path.specs.declared.form.Form.{Form}
use Rattle.sym_path.specs.declared.form.Form.TheVariants as form
use Rattle.sym_path.specs.Left.{LeftIsPut, CanPutLeft}
use Rattle.sym_path.specs.Narrowing.{label_put, with_label, CanPutNumber, NumberIsPut}
use Rattle.sym_path.specs.Kinds.{IsEnumForm, IsIntForm, IsNumsForm}
use Rattle.sym_path.specs.Taking.{HasOneLabel, HasOneNumber, copied_cell, LabelIsTakenTo, NumberIsTakenTo, IsTakenTo, AreTakenTo, IsTakenOn}
use Rattle.sym_path.proofs.Lists.{set_same, set_other, zip_at, zip_from, zip_get_right, zip_length, zip_trans, all_from, all_at}
use Rattle.sym_path.proofs.NarrowedFits.{label_free, number_free}

-- ---- lists

same_items : {A : Type 0} (xs : List A) → AllZip (λ x y. y ≡ x) xs xs
same_items [] = tt
same_items (x ∷ xs) = (refl, same_items xs)

map_items : {A B : Type 0} (f : A → B) (xs : List A) → AllZip (λ x y. y ≡ f x) xs (map f xs)
map_items f [] = tt
map_items f (x ∷ xs) = (refl, map_items f xs)

zip_with : {A B : Type 0} (P : A → Type 0) (R : A → B → Type 0) (xs : List A) (ys : List B) → All P xs → AllZip R xs ys → AllZip (λ x y. P x × R x y) xs ys
zip_with P R xs ys all h = zip_from (λ x y. P x × R x y) xs ys (zip_length R xs ys h) (λ i x y e g. (all_at P xs i x all e, zip_at R xs ys i x y h e g))

set_again : {A : Type 0} (xs : List A) (i : ℕ) (x : A) → slice_get xs i ≡ Some x → slice_set xs i x ≡ xs
set_again [] i x e = refl
set_again (y ∷ xs) zero x e = let same : x ≡ y = cc in ap (λ z. z ∷ xs) same
set_again (y ∷ xs) (suc i) x e = ap (λ zs. y ∷ zs) (set_again xs i x e)

-- Numbers of lists, each of which is taken on itself.
pub own_zip : (v : List Part) (fs : List IntForm) → AllZip (NumberIsTakenTo v) fs fs → All (λ f. NumberIsTakenTo v f f) fs
own_zip v fs h = all_from (λ f. NumberIsTakenTo v f f) fs (λ i f e. zip_at (NumberIsTakenTo v) fs fs i f f h e e)

-- ---- forms of a kind

pub enum_map : (P Q : EnumForm → Type 0) → ((g : EnumForm) → P g → Q g) → (x : Form) → IsEnumForm P x → IsEnumForm Q x
enum_map P Q step (form.Enum g) h = step g h
enum_map P Q step (form.Int g) h = absurd h
enum_map P Q step (form.Hold g) h = absurd h
enum_map P Q step (form.Nums g) h = absurd h
enum_map P Q step (form.Words g) h = absurd h

pub int_map : (P Q : IntForm → Type 0) → ((g : IntForm) → P g → Q g) → (x : Form) → IsIntForm P x → IsIntForm Q x
int_map P Q step (form.Enum g) h = absurd h
int_map P Q step (form.Int g) h = step g h
int_map P Q step (form.Hold g) h = absurd h
int_map P Q step (form.Nums g) h = absurd h
int_map P Q step (form.Words g) h = absurd h

pub nums_map : (P Q : List IntForm → Type 0) → ((g : List IntForm) → P g → Q g) → (x : Form) → IsNumsForm P x → IsNumsForm Q x
nums_map P Q step (form.Enum g) h = absurd h
nums_map P Q step (form.Int g) h = absurd h
nums_map P Q step (form.Hold g) h = absurd h
nums_map P Q step (form.Nums g) h = step g h
nums_map P Q step (form.Words g) h = absurd h

constant_cell : (y : ℤ) (g : IntForm) → IsConstant y g → form_cell g ≡ None
constant_cell y (number.Const n) h = refl
constant_cell y (number.Line line) h = absurd h

-- ---- one cell more

-- The forms `fs` are taken on u, which has the old part of the cell, as v has. What is left of the
-- cell stands in its place in `after`.
module _ (u v : List Part) (c : ℕ) (old left : Part) (at_u : slice_get u c ≡ Some old) (at_v : slice_get v c ≡ Some old) where
  abbrev after : List Part
  after = slice_set v c left

  at_after : slice_get after c ≡ Some left
  at_after = set_same v c left old at_v

  label_to : (f : EnumForm) → LabelIsTakenTo u f f → (d m : ℕ) → copied_cell f ≡ Some d → HasOneLabel v d m → HasOneLabel after d m
  label_to f h d m q o = elim (cases_eq d c) [
    | inl e ↦ absurd (label_free u f h c m (q ∙ ap Some e) (record { set = o.set; is = at_u ∙ sym at_v ∙ ap (λ k. slice_get v k) (sym e) ∙ o.is; only = o.only }))
    | inr ne ↦ record { set = o.set; is = set_other v c d left ne ∙ o.is; only = o.only }
  ]

  number_to : (f : IntForm) → NumberIsTakenTo u f f → (d : ℕ) (x : ℤ) → form_cell f ≡ Some d → HasOneNumber v d x → HasOneNumber after d x
  number_to f h d x q o = elim (cases_eq d c) [
    | inl e ↦ absurd (number_free u f h c x (q ∙ ap Some e) (record { span = o.span; is = at_u ∙ sym at_v ∙ ap (λ k. slice_get v k) (sym e) ∙ o.is; lo = o.lo; hi = o.hi }))
    | inr ne ↦ record { span = o.span; is = set_other v c d left ne ∙ o.is; lo = o.lo; hi = o.hi }
  ]

  label_back : (d m : ℕ) → d ≢ c → HasOneLabel after d m → HasOneLabel v d m
  label_back d m ne o = record { set = o.set; is = sym (set_other v c d left ne) ∙ o.is; only = o.only }

  number_back : (d : ℕ) (x : ℤ) → d ≢ c → HasOneNumber after d x → HasOneNumber v d x
  number_back d x ne o = record { span = o.span; is = sym (set_other v c d left ne) ∙ o.is; lo = o.lo; hi = o.hi }

  -- Where no one label, or number, is left of the cell, what was taken on v is taken still.
  label_stays : ((m : ℕ) → HasOneLabel after c m → ⊥) → (f g : EnumForm) → LabelIsTakenTo u f f → LabelIsTakenTo v f g → LabelIsTakenTo after f g
  label_stays none f g h t = record {
    one = λ d m q o. t.one d m q (back d m o);
    more = λ n. t.more (λ d m q o. n d m q (label_to f h d m q o));
  }
    where
      back : (d m : ℕ) → HasOneLabel after d m → HasOneLabel v d m
      back d m o = elim (cases_eq d c) [
        | inl e ↦ absurd (none m (subst (λ k. HasOneLabel after k m) e o))
        | inr ne ↦ label_back d m ne o
      ]

  number_stays : ((x : ℤ) → HasOneNumber after c x → ⊥) → (f g : IntForm) → NumberIsTakenTo u f f → NumberIsTakenTo v f g → NumberIsTakenTo after f g
  number_stays none f g h t = record {
    one = λ d x q o. t.one d x q (back d x o);
    more = λ n. t.more (λ d x q o. n d x q (number_to f h d x q o));
  }
    where
      back : (d : ℕ) (x : ℤ) → HasOneNumber after d x → HasOneNumber v d x
      back d x o = elim (cases_eq d c) [
        | inl e ↦ absurd (none x (subst (λ k. HasOneNumber after k x) e o))
        | inr ne ↦ number_back d x ne o
      ]

  numbers_stay : ((x : ℤ) → HasOneNumber after c x → ⊥) → (fs gs : List IntForm) → AllZip (NumberIsTakenTo u) fs fs → AllZip (NumberIsTakenTo v) fs gs → AllZip (NumberIsTakenTo after) fs gs
  numbers_stay none [] [] h t = tt
  numbers_stay none [] (g ∷ gs) h t = absurd t
  numbers_stay none (f ∷ fs) [] h t = absurd t
  numbers_stay none (f ∷ fs) (g ∷ gs) h t = (number_stays none f g h.0 t.0, numbers_stay none fs gs h.1 t.1)

  form_stays : ((m : ℕ) → HasOneLabel after c m → ⊥) → ((x : ℤ) → HasOneNumber after c x → ⊥) → (f g : Form) → IsTakenOn u f → IsTakenTo v f g → IsTakenTo after f g
  form_stays no_label no_number (form.Enum f) g h t = enum_map (LabelIsTakenTo v f) (LabelIsTakenTo after f) (λ k. label_stays no_label f k h) g t
  form_stays no_label no_number (form.Int f) g h t = int_map (NumberIsTakenTo v f) (NumberIsTakenTo after f) (λ k. number_stays no_number f k h) g t
  form_stays no_label no_number (form.Hold f) g h t = t
  form_stays no_label no_number (form.Nums f) g h t = nums_map (AllZip (NumberIsTakenTo v) f) (AllZip (NumberIsTakenTo after) f) (λ k. numbers_stay no_number f k h) g t
  form_stays no_label no_number (form.Words f) g h t = t

  forms_stay : ((m : ℕ) → HasOneLabel after c m → ⊥) → ((x : ℤ) → HasOneNumber after c x → ⊥) → (fs gs hs : List Form) → hs ≡ gs → All (IsTakenOn u) fs → AreTakenTo v fs gs → AreTakenTo after fs hs
  forms_stay no_label no_number fs gs hs e all t =
      subst (λ (ks : List Form). AreTakenTo after fs ks) (sym e)
      (zip_trans (λ f g. IsTakenOn u f × IsTakenTo v f g) (λ (g h : Form). h ≡ g) (IsTakenTo after) fs gs gs (λ f g h t same. subst (λ (k : Form). IsTakenTo after f k) (sym same) (form_stays no_label no_number f g t.0 t.1)) (zip_with (IsTakenOn u) (IsTakenTo v) fs gs all t) (same_items gs))

  -- A label is put in the cell's place.
  module _ (set : LabelSet) (is : left ≡ part.Set set) where
    set_there : slice_get after c ≡ Some (part.Set set)
    set_there = at_after ∙ ap Some is

    no_number_there : (x : ℤ) → HasOneNumber after c x → ⊥
    no_number_there x o = clash (sym set_there ∙ o.is)
      where
        clash : {s : Span} → Some (part.Set set) ≡ Some (part.Span s) → ⊥
        clash q = cc

    same_set : {t : LabelSet} → Some (part.Set t) ≡ Some (part.Set set) → t ≡ set
    same_set q = cc

    more_labels : ((l : ℕ) → IsOnlyLabel set l → ⊥) → (m : ℕ) → HasOneLabel after c m → ⊥
    more_labels none m o = none m (subst (λ (t : LabelSet). IsOnlyLabel t m) (same_set (sym o.is ∙ set_there)) o.only)

    module _ (l : ℕ) (only : IsOnlyLabel set l) where
      one_there : HasOneLabel after c l
      one_there = record { set = set; is = set_there; only = only }

      that_one : (m : ℕ) → HasOneLabel after c m → l ≡ m
      that_one m o =
          let own : IsOnlyLabel set m = subst (λ (t : LabelSet). IsOnlyLabel t m) (same_set (sym o.is ∙ set_there)) o.only in
          (own l).0 ((only l).1 refl)

      label_step : (f g : EnumForm) → LabelIsTakenTo u f f → LabelIsTakenTo v f g → LabelIsTakenTo after f (label_put c l g)
      label_step (label.Const k) g h t = record {
        one = λ d m q o. absurd (cc);
        more = λ none. ap (label_put c l) (t.more (λ d m q o. cc));
      }
      label_step (label.Copy e) g h t = elim (cases_eq e c) [ inl same ↦ here same | inr other ↦ elsewhere other ]
        where
          named : {d : ℕ} → copied_cell (label.Copy e) ≡ Some d → d ≡ e
          named q = cc

          stays : ((d m : ℕ) → copied_cell (label.Copy e) ≡ Some d → HasOneLabel v d m → ⊥) → g ≡ label.Copy e
          stays n = t.more n

          here : e ≡ c → LabelIsTakenTo after (label.Copy e) (label_put c l g)
          here same =
              let free : (d m : ℕ) → copied_cell (label.Copy e) ≡ Some d → HasOneLabel v d m → ⊥ = λ d m q o.
              label_free u (label.Copy e) h d m q (record { set = o.set; is = ap (λ k. slice_get u k) (named q ∙ same) ∙ at_u ∙ sym at_v ∙ ap (λ k. slice_get v k) (sym (named q ∙ same)) ∙ o.is; only = o.only }) in
              let put : label_put c l (label.Copy e) ≡ label.Const l = rw (eq-eqb e c same) refl in
              let now : label_put c l g ≡ label.Const l = ap (label_put c l) (stays free) ∙ put in
              record {
                one = λ d m q o. now ∙ ap label.Const (that_one m (subst (λ k. HasOneLabel after k m) (named q ∙ same) o));
                more = λ none. absurd (none c l (ap Some same) one_there);
              }

          elsewhere : e ≢ c → LabelIsTakenTo after (label.Copy e) (label_put c l g)
          elsewhere other =
              let put : label_put c l (label.Copy e) ≡ label.Copy e = rw (ne_eqb e c other) refl in
              record {
                one = λ d m q o. ap (label_put c l) (t.one d m q (label_back d m (λ k. other (sym (named q) ∙ k)) o));
                more = λ none. ap (label_put c l) (stays (λ d m q o. none d m q (label_to (label.Copy e) h d m q o))) ∙ put;
              }

      put_step : (f g : Form) → IsTakenOn u f → IsTakenTo v f g → IsTakenTo after f (with_label c l g)
      put_step (form.Enum f) (form.Enum g) h t = label_step f g h t
      put_step (form.Enum f) (form.Int g) h t = absurd t
      put_step (form.Enum f) (form.Hold g) h t = absurd t
      put_step (form.Enum f) (form.Nums g) h t = absurd t
      put_step (form.Enum f) (form.Words g) h t = absurd t
      put_step (form.Int f) (form.Enum g) h t = absurd t
      put_step (form.Int f) (form.Int g) h t = number_stays no_number_there f g h t
      put_step (form.Int f) (form.Hold g) h t = absurd t
      put_step (form.Int f) (form.Nums g) h t = absurd t
      put_step (form.Int f) (form.Words g) h t = absurd t
      put_step (form.Hold f) g h t = ap (with_label c l) t
      put_step (form.Nums f) (form.Enum g) h t = absurd t
      put_step (form.Nums f) (form.Int g) h t = absurd t
      put_step (form.Nums f) (form.Hold g) h t = absurd t
      put_step (form.Nums f) (form.Nums g) h t = numbers_stay no_number_there f g h t
      put_step (form.Nums f) (form.Words g) h t = absurd t
      put_step (form.Words f) g h t = ap (with_label c l) t

      labels_step : (fs gs hs : List Form) → hs ≡ map (with_label c l) gs → All (IsTakenOn u) fs → AreTakenTo v fs gs → AreTakenTo after fs hs
      labels_step fs gs hs e all t =
          subst (λ (ks : List Form). AreTakenTo after fs ks) (sym e)
          (zip_trans (λ f g. IsTakenOn u f × IsTakenTo v f g) (λ (g h : Form). h ≡ with_label c l g) (IsTakenTo after) fs gs (map (with_label c l) gs) (λ f g h t same. subst (λ (k : Form). IsTakenTo after f k) (sym same) (put_step f g t.0 t.1)) (zip_with (IsTakenOn u) (IsTakenTo v) fs gs all t) (map_items (with_label c l) gs))

  -- A number is put in its place.
  module _ (span : Span) (is : left ≡ part.Span span) where
    span_there : slice_get after c ≡ Some (part.Span span)
    span_there = at_after ∙ ap Some is

    no_label_there : (m : ℕ) → HasOneLabel after c m → ⊥
    no_label_there m o = clash (sym span_there ∙ o.is)
      where
        clash : {s : LabelSet} → Some (part.Span span) ≡ Some (part.Set s) → ⊥
        clash q = cc

    same_span : {t : Span} → Some (part.Span t) ≡ Some (part.Span span) → t ≡ span
    same_span q = cc

    ends_there : (x : ℤ) → HasOneNumber after c x → (span.lo ≡ x) × (span.hi ≡ x)
    ends_there x o =
        let same : o.span ≡ span = same_span (sym o.is ∙ span_there) in
        (ap (λ (t : Span). t.lo) (sym same) ∙ o.lo, ap (λ (t : Span). t.hi) (sym same) ∙ o.hi)

    more_numbers : span.lo <ℤ span.hi → (x : ℤ) → HasOneNumber after c x → ⊥
    more_numbers less x o = let e = ends_there x o in let lo = e.0 in let hi = e.1 in omega (arith, ints)

    module _ (one : span.lo ≡ span.hi) where
      number_there : HasOneNumber after c span.lo
      number_there = record { span = span; is = span_there; lo = refl; hi = sym one }

      number_step : (f g k : IntForm) → NumberIsTakenTo u f f → NumberIsTakenTo v f g → IsFixedTo g c span.lo k → NumberIsTakenTo after f k
      number_step (number.Const n) g k h t r =
          let same : g ≡ number.Const n = t.more (λ d x q o. cc) in
          let kept : k ≡ g = r.other (λ q. let w : None ≡ Some c = ap form_cell (sym same) ∙ q in cc) in
          record {
            one = λ d x q o. absurd (cc);
            more = λ none. kept ∙ same;
          }
      number_step (number.Line line) g k h t r = elim (cases_eq line.cell c) [ inl same ↦ here same | inr other ↦ elsewhere other ]
        where
          named : {d : ℕ} → form_cell (number.Line line) ≡ Some d → d ≡ line.cell
          named q = cc

          here : line.cell ≡ c → NumberIsTakenTo after (number.Line line) k
          here same =
              let free : (d : ℕ) (x : ℤ) → form_cell (number.Line line) ≡ Some d → HasOneNumber v d x → ⊥ = λ d x q o.
              number_free u (number.Line line) h d x q (record { span = o.span; is = ap (λ i. slice_get u i) (named q ∙ same) ∙ at_u ∙ sym at_v ∙ ap (λ i. slice_get v i) (sym (named q ∙ same)) ∙ o.is; lo = o.lo; hi = o.hi }) in
              let own : g ≡ number.Line line = t.more free in
              let put : IsConstant (form_on g span.lo) k = r.named (ap form_cell own ∙ ap Some same) in
              let now : IsConstant (form_on (number.Line line) span.lo) k = subst (λ (i : IntForm). IsConstant (form_on i span.lo) k) own put in
              record {
                one = λ d x q o.
                    let at : span.lo ≡ x = (ends_there x (subst (λ i. HasOneNumber after i x) (named q ∙ same) o)).0 in
                    subst (λ (y : ℤ). IsConstant (form_on (number.Line line) y) k) at now;
                more = λ none. absurd (none c span.lo (ap Some same) number_there);
              }

          elsewhere : line.cell ≢ c → NumberIsTakenTo after (number.Line line) k
          elsewhere other = record {
            one = λ d x q o.
                let before : HasOneNumber v d x = number_back d x (λ i. other (sym (named q) ∙ i)) o in
                let constant : IsConstant (form_on (number.Line line) x) g = t.one d x q before in
                let kept : k ≡ g = r.other (λ i. let w : None ≡ Some c = sym (constant_cell (form_on (number.Line line) x) g constant) ∙ i in cc) in
                subst (λ (i : IntForm). IsConstant (form_on (number.Line line) x) i) (sym kept) constant;
            more = λ none.
                let own : g ≡ number.Line line = t.more (λ d x q o. none d x q (number_to (number.Line line) h d x q o)) in
                let kept : k ≡ g = r.other (λ i. other (let w : Some line.cell ≡ Some c = ap form_cell (sym own) ∙ i in cc)) in
                kept ∙ own;
          }

      numbers_step : (fs gs ks : List IntForm) → AllZip (NumberIsTakenTo u) fs fs → AllZip (NumberIsTakenTo v) fs gs → AllZip (λ g k. IsFixedTo g c span.lo k) gs ks → AllZip (NumberIsTakenTo after) fs ks
      numbers_step [] [] [] h t r = tt
      numbers_step [] [] (k ∷ ks) h t r = absurd r
      numbers_step [] (g ∷ gs) ks h t r = absurd t
      numbers_step (f ∷ fs) [] ks h t r = absurd t
      numbers_step (f ∷ fs) (g ∷ gs) [] h t r = absurd r
      numbers_step (f ∷ fs) (g ∷ gs) (k ∷ ks) h t r = (number_step f g k h.0 t.0 r.0, numbers_step fs gs ks h.1 t.1 r.1)

      number_put_step : (f g k : Form) → IsTakenOn u f → IsTakenTo v f g → NumberIsPut c span.lo g k → IsTakenTo after f k
      number_put_step (form.Enum f) (form.Enum g) k h t r = subst (λ (i : Form). IsTakenTo after (form.Enum f) i) (sym r) (label_stays no_label_there f g h t)
      number_put_step (form.Enum f) (form.Int g) k h t r = absurd t
      number_put_step (form.Enum f) (form.Hold g) k h t r = absurd t
      number_put_step (form.Enum f) (form.Nums g) k h t r = absurd t
      number_put_step (form.Enum f) (form.Words g) k h t r = absurd t
      number_put_step (form.Int f) (form.Enum g) k h t r = absurd t
      number_put_step (form.Int f) (form.Int g) k h t r = int_map (IsFixedTo g c span.lo) (NumberIsTakenTo after f) (λ i. number_step f g i h t) k r
      number_put_step (form.Int f) (form.Hold g) k h t r = absurd t
      number_put_step (form.Int f) (form.Nums g) k h t r = absurd t
      number_put_step (form.Int f) (form.Words g) k h t r = absurd t
      number_put_step (form.Hold f) g k h t r = put (subst (λ (i : Form). NumberIsPut c span.lo i k) t r)
        where
          put : NumberIsPut c span.lo (form.Hold f) k → k ≡ form.Hold f
          put q = q
      number_put_step (form.Nums f) (form.Enum g) k h t r = absurd t
      number_put_step (form.Nums f) (form.Int g) k h t r = absurd t
      number_put_step (form.Nums f) (form.Hold g) k h t r = absurd t
      number_put_step (form.Nums f) (form.Nums g) k h t r = nums_map (AllZip (λ old new. IsFixedTo old c span.lo new) g) (AllZip (NumberIsTakenTo after) f) (λ i. numbers_step f g i h t) k r
      number_put_step (form.Nums f) (form.Words g) k h t r = absurd t
      number_put_step (form.Words f) g k h t r = put (subst (λ (i : Form). NumberIsPut c span.lo i k) t r)
        where
          put : NumberIsPut c span.lo (form.Words f) k → k ≡ form.Words f
          put q = q

      all_numbers_step : (fs gs ks : List Form) → All (IsTakenOn u) fs → AreTakenTo v fs gs → AllZip (NumberIsPut c span.lo) gs ks → AreTakenTo after fs ks
      all_numbers_step fs gs ks all t r = zip_trans (λ f g. IsTakenOn u f × IsTakenTo v f g) (NumberIsPut c span.lo) (IsTakenTo after) fs gs ks (λ f g k t. number_put_step f g k t.0 t.1) (zip_with (IsTakenOn u) (IsTakenTo v) fs gs all t) r

-- The forms taken on v, in which what is left of the cell is put, are taken on v with it.
pub left_step : (u v : List Part) (c : ℕ) (old left : Part) (fs gs hs : List Form) → slice_get u c ≡ Some old → slice_get v c ≡ Some old → All (IsTakenOn u) fs → AreTakenTo v fs gs → ((old ≡ left) × (hs ≡ gs)) ⊎ LeftIsPut c left gs hs → AreTakenTo (slice_set v c left) fs hs
left_step u v c old left fs gs hs at_u at_v all t (inl h) =
    let same : slice_set v c left ≡ v = set_again v c left (at_v ∙ ap Some h.0) in
    subst (λ (w : List Part). AreTakenTo w fs hs) (sym same) (subst (λ (ks : List Form). AreTakenTo v fs ks) (sym h.1) t)
left_step u v c old (part.Set set) fs gs hs at_u at_v all t (inr (inl (l, only, e))) = labels_step u v c old (part.Set set) at_u at_v set refl l only fs gs hs e all t
left_step u v c old (part.Set set) fs gs hs at_u at_v all t (inr (inr (none, e))) =
    forms_stay u v c old (part.Set set) at_u at_v (more_labels u v c old (part.Set set) at_u at_v set refl none) (no_number_there u v c old (part.Set set) at_u at_v set refl) fs gs hs e all t
left_step u v c old (part.Span span) fs gs hs at_u at_v all t (inr (inl (one, r))) = all_numbers_step u v c old (part.Span span) at_u at_v span refl one fs gs hs all t r
left_step u v c old (part.Span span) fs gs hs at_u at_v all t (inr (inr (more, e))) =
    forms_stay u v c old (part.Span span) at_u at_v (no_label_there u v c old (part.Span span) at_u at_v span refl) (more_numbers u v c old (part.Span span) at_u at_v span refl more) fs gs hs e all t
left_step u v c old (part.Facts known) fs gs hs at_u at_v all t (inr e) = forms_stay u v c old (part.Facts known) at_u at_v (λ m o. label_clash (sym (at_after u v c old (part.Facts known) at_u at_v) ∙ o.is)) (λ x o. number_clash (sym (at_after u v c old (part.Facts known) at_u at_v) ∙ o.is)) fs gs hs e all t
  where
    label_clash : {s : LabelSet} → Some (part.Facts known) ≡ Some (part.Set s) → ⊥
    label_clash q = cc

    number_clash : {s : Span} → Some (part.Facts known) ≡ Some (part.Span s) → ⊥
    number_clash q = cc
left_step u v c old part.Free fs gs hs at_u at_v all t (inr e) = forms_stay u v c old part.Free at_u at_v (λ m o. label_clash (sym (at_after u v c old part.Free at_u at_v) ∙ o.is)) (λ x o. number_clash (sym (at_after u v c old part.Free at_u at_v) ∙ o.is)) fs gs hs e all t
  where
    label_clash : {s : LabelSet} → Some part.Free ≡ Some (part.Set s) → ⊥
    label_clash q = cc

    number_clash : {s : Span} → Some part.Free ≡ Some (part.Span s) → ⊥
    number_clash q = cc

-- ---- the forms themselves, and numbers that are put into them

pub own_taken : (when : List Part) (fs : List Form) → All (IsTakenOn when) fs → AreTakenTo when fs fs
own_taken when fs all = zip_trans (λ f g. IsTakenOn when f × (g ≡ f)) (λ (g h : Form). h ≡ g) (IsTakenTo when) fs fs fs (λ f g h t same. subst (λ (k : Form). IsTakenTo when f k) (sym (same ∙ t.1)) t.0) (zip_with (IsTakenOn when) (λ (f g : Form). g ≡ f) fs fs all (same_items fs)) (same_items fs)

-- The number may be put into the forms that were taken on v, where it may be into the old ones.
module _ (v : List Part) (c : ℕ) (x : ℤ) where
  can_fix_taken : (f g : IntForm) → NumberIsTakenTo v f g → CanFix f c x → CanFix g c x
  can_fix_taken f (number.Const n) t h = tt
  can_fix_taken f (number.Line line) t h = subst (λ (k : IntForm). CanFix k c x) (sym (t.more (λ d y q o. t.one d y q o))) h

  can_fix_all : (fs gs : List IntForm) → AllZip (NumberIsTakenTo v) fs gs → All (λ f. CanFix f c x) fs → All (λ f. CanFix f c x) gs
  can_fix_all fs gs t all = all_from (λ f. CanFix f c x) gs (λ i g e. each i g e)
    where
      each : (i : ℕ) (g : IntForm) → slice_get gs i ≡ Some g → CanFix g c x
      each i g e = let found = beside i g e in can_fix_taken found.0 g found.2 (all_at (λ f. CanFix f c x) fs i found.0 all found.1)
        where
          beside : (i : ℕ) (g : IntForm) → slice_get gs i ≡ Some g → (f : IntForm) × (slice_get fs i ≡ Some f) × NumberIsTakenTo v f g
          beside i g e = zip_get_right (NumberIsTakenTo v) fs gs i g t e

  can_put_taken : (f g : Form) → IsTakenTo v f g → CanPutNumber c x f → CanPutNumber c x g
  can_put_taken f (form.Enum g) t h = tt
  can_put_taken (form.Enum f) (form.Int g) t h = absurd t
  can_put_taken (form.Int f) (form.Int g) t h = can_fix_taken f g t h
  can_put_taken (form.Hold f) (form.Int g) t h = absurd (cc)
  can_put_taken (form.Nums f) (form.Int g) t h = absurd t
  can_put_taken (form.Words f) (form.Int g) t h = absurd (cc)
  can_put_taken f (form.Hold g) t h = tt
  can_put_taken (form.Enum f) (form.Nums g) t h = absurd t
  can_put_taken (form.Int f) (form.Nums g) t h = absurd t
  can_put_taken (form.Hold f) (form.Nums g) t h = absurd (cc)
  can_put_taken (form.Nums f) (form.Nums g) t h = can_fix_all f g t h
  can_put_taken (form.Words f) (form.Nums g) t h = absurd (cc)
  can_put_taken f (form.Words g) t h = tt

  pub all_can_put : (fs gs : List Form) → AreTakenTo v fs gs → All (CanPutNumber c x) fs → All (CanPutNumber c x) gs
  all_can_put fs gs t all = all_from (CanPutNumber c x) gs (λ i g e. let found = zip_get_right (IsTakenTo v) fs gs i g t e in can_put_taken found.0 g found.2 (all_at (CanPutNumber c x) fs i found.0 all found.1))

pub can_put_left_taken : (v : List Part) (c : ℕ) (left : Part) (fs gs : List Form) → AreTakenTo v fs gs → CanPutLeft c left fs → CanPutLeft c left gs
can_put_left_taken v c (part.Set set) fs gs t h = tt
can_put_left_taken v c (part.Span span) fs gs t h = λ one. all_can_put v c span.lo fs gs t (h one)
can_put_left_taken v c (part.Facts known) fs gs t h = tt
can_put_left_taken v c part.Free fs gs t h = tt
