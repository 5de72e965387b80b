-- A constraint that becomes what is left of it in place, cell by cell, and the forms on it.
use Rattle.std.proofs.Common.{◌≡◌, ◌<◌, ◌≤◌, ◌+◌, ℕ, ℤ, Bool, not, List, [], ◌∷◌, Some, ◌⊎◌, inl, inr, length, refl, sym, ap, ◌∙◌, subst, zero, suc, arith}
use Rattle.std.proofs.lemmas.Bool.{cases_eq}
use Rattle.std.proofs.lemmas.Option.{slice_get_within}
use Rattle.std.specs.Prelude.{slice_get, slice_set}
use Rattle.std.specs.List.{All}
use Rattle.sym_enum.specs.declared.form.EnumForm.TheVariants as label
use Rattle.sym_int.specs.Lines.{form_cell}
use Rattle.sym_int.specs.declared.form.IntForm.{IntForm}
use Rattle.sym_int.specs.declared.form.IntForm.TheVariants as number
use Rattle.sym_pred.specs.Facts.{Atom, FactMap}
use Rattle.sym_pred.specs.declared.form.HoldForm.{HoldForm}
use Rattle.sym_pred.specs.declared.form.HoldForm.TheVariants as hold
use Rattle.sym_path.specs.declared.part.Part.{Part}
use Rattle.sym_path.specs.declared.part.Part.TheVariants as part
use Rattle.sym_path.specs.declared.form.Form.{Form}
use Rattle.sym_path.specs.declared.form.Form.TheVariants as form
use Rattle.sym_path.specs.Left.{PartLeft, AreLeft, LeftIsPut, CanPutAllLeft, IsShape, CanNarrow, NarrowedAt}
use Rattle.sym_path.specs.Possible.{Meets, LabelMeets, NumberMeets, IsSaid, IsLeft, AllLeft}
use Rattle.sym_path.specs.Taking.{copied_cell, LabelIsTakenTo, NumberIsTakenTo, IsTakenTo, AreTakenTo, IsTakenOn}
use Rattle.sym_path.proofs.FollowingTaken.{left_step, own_taken, can_put_left_taken}
use Rattle.sym_path.proofs.Lists.{set_same, set_other, zip_get, zip_get_right, zip_length, all_at, get_within}
use Rattle.sym_path.proofs.NarrowedFits.{label_free, number_free}

pub set_twice : {A : Type 0} (xs : List A) (k : ℕ) (v w : A) → slice_set (slice_set xs k v) k w ≡ slice_set xs k w
set_twice [] k v w = refl
set_twice (x ∷ xs) zero v w = refl
set_twice (x ∷ xs) (suc k) v w = ap (λ ys. x ∷ ys) (set_twice xs k v w)

pub set_length : {A : Type 0} (xs : List A) (k : ℕ) (v : A) → length (slice_set xs k v) ≡ length xs
set_length [] k v = refl
set_length (x ∷ xs) zero v = refl
set_length (x ∷ xs) (suc k) v = ap suc (set_length xs k v)

-- ---- what is needed of a cell

-- The forms `fs` are taken on u, and `gs` are those forms on v, which has u's part of the cell c. So
-- the same is needed of the cell by both.
module _ (u v : List Part) (c : ℕ) (same : slice_get v c ≡ slice_get u c) (fs gs : List Form) (needs : List Part) (all : All (IsTakenOn u) fs) (t : AreTakenTo v fs gs) where
  there : {p : Part} (d : ℕ) → d ≡ c → slice_get v d ≡ Some p → slice_get u d ≡ Some p
  there d e is = ap (λ i. slice_get u i) e ∙ sym same ∙ ap (λ i. slice_get v i) (sym e) ∙ is

  meets_label : (need : Part) → Meets fs needs (form.Enum (label.Copy c)) need → Meets gs needs (form.Enum (label.Copy c)) need
  meets_label need m =
      let (g, at, k) = zip_get (IsTakenTo v) fs gs m.cell (form.Enum (label.Copy c)) t m.has in
      record { cell = m.cell; has = at ∙ ap Some (go g k); needed = m.needed }
    where
      own : LabelIsTakenTo u (label.Copy c) (label.Copy c)
      own = all_at (IsTakenOn u) fs m.cell (form.Enum (label.Copy c)) all m.has

      named : {d : ℕ} → copied_cell (label.Copy c) ≡ Some d → d ≡ c
      named q = cc

      go : (g : Form) → IsTakenTo v (form.Enum (label.Copy c)) g → g ≡ form.Enum (label.Copy c)
      go (form.Enum h) k = ap form.Enum (k.more (λ d l q o. label_free u (label.Copy c) own d l q (record { set = o.set; is = there d (named q) o.is; only = o.only })))
      go (form.Int h) k = absurd k
      go (form.Hold h) k = absurd k
      go (form.Nums h) k = absurd k
      go (form.Words h) k = absurd k

  label_meets : (need : Part) → Meets gs needs (form.Enum (label.Copy c)) need → Meets fs needs (form.Enum (label.Copy c)) need
  label_meets need m =
      let (f, at, k) = zip_get_right (IsTakenTo v) fs gs m.cell (form.Enum (label.Copy c)) t m.has in
      record { cell = m.cell; has = at ∙ ap Some (go f k); needed = m.needed }
    where
      not_const : {l : ℕ} → label.Copy c ≡ label.Const l → ⊥
      not_const q = cc

      go : (f : Form) → IsTakenTo v f (form.Enum (label.Copy c)) → f ≡ form.Enum (label.Copy c)
      go (form.Enum h) k = ap form.Enum (sym (k.more (λ d l q o. not_const (k.one d l q o))))
      go (form.Int h) k = absurd k
      go (form.Hold h) k = absurd (cc)
      go (form.Nums h) k = absurd k
      go (form.Words h) k = absurd (cc)

  meets_number : (f : IntForm) → form_cell f ≡ Some c → (need : Part) → Meets fs needs (form.Int f) need → Meets gs needs (form.Int f) need
  meets_number f e need m =
      let (g, at, k) = zip_get (IsTakenTo v) fs gs m.cell (form.Int f) t m.has in
      record { cell = m.cell; has = at ∙ ap Some (go g k); needed = m.needed }
    where
      own : NumberIsTakenTo u f f
      own = all_at (IsTakenOn u) fs m.cell (form.Int f) all m.has

      named : {d : ℕ} → form_cell f ≡ Some d → d ≡ c
      named {d} q = let both : Some d ≡ Some c = sym q ∙ e in cc

      go : (g : Form) → IsTakenTo v (form.Int f) g → g ≡ form.Int f
      go (form.Enum h) k = absurd k
      go (form.Int h) k = ap form.Int (k.more (λ d x q o. number_free u f own d x q (record { span = o.span; is = there d (named q) o.is; lo = o.lo; hi = o.hi })))
      go (form.Hold h) k = absurd k
      go (form.Nums h) k = absurd k
      go (form.Words h) k = absurd k

  number_meets : (g : IntForm) → form_cell g ≡ Some c → (need : Part) → Meets gs needs (form.Int g) need → Meets fs needs (form.Int g) need
  number_meets g e need m =
      let (f, at, k) = zip_get_right (IsTakenTo v) fs gs m.cell (form.Int g) t m.has in
      record { cell = m.cell; has = at ∙ ap Some (go f k); needed = m.needed }
    where
      stays : (i f : IntForm) → form_cell i ≡ Some c → NumberIsTakenTo v f i → i ≡ f
      stays (number.Const n) f q k = absurd (cc)
      stays (number.Line line) f q k = k.more (λ d x q o. k.one d x q o)

      go : (f : Form) → IsTakenTo v f (form.Int g) → f ≡ form.Int g
      go (form.Enum h) k = absurd k
      go (form.Int h) k = ap form.Int (sym (stays g h e k))
      go (form.Hold h) k = absurd (cc)
      go (form.Nums h) k = absurd k
      go (form.Words h) k = absurd (cc)

  meets_parts : (f : HoldForm) (need : Part) → Meets fs needs (form.Hold f) need → Meets gs needs (form.Hold f) need
  meets_parts f need m =
      let (g, at, k) = zip_get (IsTakenTo v) fs gs m.cell (form.Hold f) t m.has in
      record { cell = m.cell; has = at ∙ ap Some k; needed = m.needed }

  parts_meet : (g : HoldForm) (need : Part) → Meets gs needs (form.Hold g) need → Meets fs needs (form.Hold g) need
  parts_meet g need m =
      let (f, at, k) = zip_get_right (IsTakenTo v) fs gs m.cell (form.Hold g) t m.has in
      record { cell = m.cell; has = at ∙ ap Some (go f k); needed = m.needed }
    where
      go : (f : Form) → IsTakenTo v f (form.Hold g) → f ≡ form.Hold g
      go (form.Enum h) k = absurd k
      go (form.Int h) k = absurd k
      go (form.Hold h) k = sym k
      go (form.Nums h) k = absurd k
      go (form.Words h) k = absurd (cc)

  label_to : (l : ℕ) → LabelMeets fs needs c l → LabelMeets gs needs c l
  label_to l h need m = h need (label_meets (part.Set need) m)

  label_back : (l : ℕ) → LabelMeets gs needs c l → LabelMeets fs needs c l
  label_back l h need m = h need (meets_label (part.Set need) m)

  number_to : (x : ℤ) → NumberMeets fs needs c x → NumberMeets gs needs c x
  number_to x h f need e m = h f need e (number_meets f e (part.Span need) m)

  number_back : (x : ℤ) → NumberMeets gs needs c x → NumberMeets fs needs c x
  number_back x h f need e m = h f need e (meets_number f e (part.Span need) m)

  said_to : (known : FactMap) (atom : Atom) (o : Bool) → IsSaid known fs needs c atom o → IsSaid known gs needs c atom o
  said_to known atom o (inl k) = inl k
  said_to known atom o (inr n) = inr (record { need = n.need; meets = meets_parts (hold.Copy c) (part.Facts n.need) n.meets; stands = n.stands })

  said_back : (known : FactMap) (atom : Atom) (o : Bool) → IsSaid known gs needs c atom o → IsSaid known fs needs c atom o
  said_back known atom o (inl k) = inl k
  said_back known atom o (inr n) = inr (record { need = n.need; meets = parts_meet (hold.Copy c) (part.Facts n.need) n.meets; stands = n.stands })

  -- Something is left of the cell by the one where something is by the other,
  pub is_left_to : (p : Part) → IsLeft fs needs c p → IsLeft gs needs c p
  is_left_to (part.Set set) (l, has, meets) = (l, has, label_to l meets)
  is_left_to (part.Span span) (x, has, meets) = (x, has, number_to x meets)
  is_left_to (part.Facts known) h = λ atom o one other. h atom o (said_back known atom o one) (said_back known atom (not o) other)
  is_left_to part.Free h = tt

  -- and the same is left.
  pub left_back : (old new : Part) → PartLeft gs needs c old new → PartLeft fs needs c old new
  left_back (part.Set old) (part.Set new) h = (
    h.0,
    λ l. (
      λ e. let b = (h.1 l).0 e in (b.0, label_back l b.1),
      λ b. (h.1 l).1 (b.0, label_to l b.1),
    ),
  )
  left_back (part.Set old) (part.Span new) h = absurd h
  left_back (part.Set old) (part.Facts new) h = absurd h
  left_back (part.Set old) part.Free h = absurd h
  left_back (part.Span old) (part.Set new) h = absurd h
  left_back (part.Span old) (part.Span new) h = λ x. (
    λ e. let b = (h x).0 e in (b.0, number_back x b.1),
    λ b. (h x).1 (b.0, number_to x b.1),
  )
  left_back (part.Span old) (part.Facts new) h = absurd h
  left_back (part.Span old) part.Free h = absurd h
  left_back (part.Facts old) (part.Set new) h = absurd h
  left_back (part.Facts old) (part.Span new) h = absurd h
  left_back (part.Facts old) (part.Facts new) h = λ atom o. (
    λ s. said_back old atom o ((h atom o).0 s),
    λ s. (h atom o).1 (said_to old atom o s),
  )
  left_back (part.Facts old) part.Free h = absurd h
  left_back part.Free (part.Set new) h = absurd h
  left_back part.Free (part.Span new) h = absurd h
  left_back part.Free (part.Facts new) h = absurd h
  left_back part.Free part.Free h = tt

-- ---- one cell

-- Where the shape is what is left, the part is, unless it is facts, which replace nothing.
pub shape_put : (forms : List Form) (needs : List Part) (c : ℕ) (p old left : Part) (fs gs : List Form) → IsShape p old → PartLeft forms needs c p left → ((old ≡ left) × (gs ≡ fs)) ⊎ LeftIsPut c left fs gs → ((p ≡ left) × (gs ≡ fs)) ⊎ LeftIsPut c left fs gs
shape_put forms needs c p old left fs gs s l (inr put) = inr put
shape_put forms needs c (part.Set set) old left fs gs s l (inl e) = inl (sym s ∙ e.0, e.1)
shape_put forms needs c (part.Span span) old left fs gs s l (inl e) = inl (sym s ∙ e.0, e.1)
shape_put forms needs c (part.Facts known) old (part.Set left) fs gs s l (inl e) = absurd l
shape_put forms needs c (part.Facts known) old (part.Span left) fs gs s l (inl e) = absurd l
shape_put forms needs c (part.Facts known) old (part.Facts left) fs gs s l (inl e) = inr e.1
shape_put forms needs c (part.Facts known) old part.Free fs gs s l (inl e) = absurd l
shape_put forms needs c part.Free old left fs gs s l (inl e) = inl (sym s ∙ e.0, e.1)

-- ---- cell by cell

-- What is left of the first n cells is in the place of their parts, and the forms are on it.
pub record NarrowedBelow (needs whens : List Part) (starts : List Form) (n : ℕ) (when : List Part) (forms : List Form) : Type 0 where
  pub lengths : length when ≡ length whens
  pub rest : (c : ℕ) → n ≤ c → slice_get when c ≡ slice_get whens c
  pub lefts : (c : ℕ) (old new : Part) → c < n → slice_get whens c ≡ Some old → slice_get when c ≡ Some new → PartLeft starts needs c old new
  pub taken : AreTakenTo when starts forms

module _ (needs whens : List Part) (starts : List Form) (own : All (IsTakenOn whens) starts) where
  pub narrowed_none : NarrowedBelow needs whens starts 0 whens starts
  narrowed_none = record {
    lengths = refl;
    rest = λ c h. refl;
    lefts = λ c old new h. absurd (omega arith);
    taken = own_taken whens starts own;
  }

  module _ (n : ℕ) (when : List Part) (forms : List Form) (so_far : NarrowedBelow needs whens starts n when forms) where
    pub narrowed_length : length forms ≡ length starts
    narrowed_length = sym (zip_length (IsTakenTo when) starts forms so_far.taken)

    pub narrowed_can : n < length whens → AllLeft whens starts needs → CanPutAllLeft starts needs whens → CanNarrow forms needs n when
    narrowed_can within all numbers =
        let (p, at) = get_within whens n within in
        record {
          part = p;
          is = so_far.rest n (omega arith) ∙ at;
          some = is_left_to whens when n (so_far.rest n (omega arith)) starts forms needs own so_far.taken p (all n p at);
          numbers = λ left h. can_put_left_taken when n left starts forms so_far.taken (numbers forms n p left at h);
        }

    pub narrowed_next : (new : List Part) (after : List Form) → NarrowedAt forms needs n when new after → NarrowedBelow needs whens starts (n + 1) new after
    narrowed_next new after h = record {
      lengths = ap length h.is ∙ set_length when n h.left ∙ so_far.lengths;
      rest = λ c above. ap (λ (ps : List Part). slice_get ps c) h.is ∙ set_other when n c h.left (λ e. omega arith) ∙ so_far.rest c (omega arith);
      lefts = each;
      taken = subst (λ (ps : List Part). AreTakenTo ps starts after) (sym h.is)
          (left_step whens when n h.part h.left starts forms after before h.was own so_far.taken h.put);
    }
      where
        before : slice_get whens n ≡ Some h.part
        before = sym (so_far.rest n (omega arith)) ∙ h.was

        here : PartLeft starts needs n h.part h.left
        here = left_back whens when n (so_far.rest n (omega arith)) starts forms needs own so_far.taken h.part h.left h.some

        now : slice_get new n ≡ Some h.left
        now = ap (λ (ps : List Part). slice_get ps n) h.is ∙ set_same when n h.left h.part h.was

        each : (c : ℕ) (old next : Part) → c < n + 1 → slice_get whens c ≡ Some old → slice_get new c ≡ Some next → PartLeft starts needs c old next
        each c old next below was is = elim (cases_eq c n) [
          | inl e ↦
              let x : Some h.part ≡ Some old = sym before ∙ ap (λ i. slice_get whens i) (sym e) ∙ was in
              let y : Some h.left ≡ Some next = sym now ∙ ap (λ i. slice_get new i) (sym e) ∙ is in
              let x' : h.part ≡ old = cc in
              let y' : h.left ≡ next = cc in
              subst (λ (i : ℕ). PartLeft starts needs i old next) (sym e) (subst (λ (p : Part). PartLeft starts needs n old p) y' (subst (λ (p : Part). PartLeft starts needs n p h.left) x' here))
          | inr ne ↦ so_far.lefts c old next (omega (arith, ne, below)) was (sym (set_other when n c h.left ne) ∙ ap (λ (ps : List Part). slice_get ps c) (sym h.is) ∙ is)
        ]

    pub narrowed_whole : length whens ≤ n → AreLeft starts needs whens when × AreTakenTo when starts forms
    narrowed_whole past = (record { lengths = so_far.lengths; each = λ c old new was is. so_far.lefts c old new (inside c old was) was is }, so_far.taken)
      where
        inside : (c : ℕ) (old : Part) → slice_get whens c ≡ Some old → c < n
        inside c old was = let l : c < length whens = slice_get_within whens c old was in omega arith
