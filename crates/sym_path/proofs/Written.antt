-- Cells that are changed where they lie.
use Rattle.std.proofs.Common.{◌≡◌, ◌≢◌, ◌<◌, ◌≤◌, ◌+◌, ◌==◌, ◌++◌, ◌∷◌, ℕ, zero, suc, Bool, true, false, List, [], Option, Some, inl, inr, length, refl, sym, ap, ◌∙◌, subst, arith}
use Rattle.std.proofs.lemmas.Bool.{cases_eq, cases_lt, eq-eqb, ne_eqb}
use Rattle.std.proofs.lemmas.List.{length-set}
use Rattle.std.proofs.lemmas.Option.{slice_get_within}
use Rattle.std.specs.Prelude.{slice_get, slice_set}
use Rattle.sym_base.specs.States.{cell_parts, parts_at}
use Rattle.sym_base.specs.declared.values.value.Value.{Value}
use Rattle.sym_base.specs.declared.values.state.Cell.{Cell}
use Rattle.sym_base.specs.declared.values.state.Cell.TheVariants as cell
use Rattle.sym_base.specs.declared.values.state.State.{State}
use Rattle.sym_pred.specs.declared.form.HoldForm.TheVariants as hold
use Rattle.sym_path.specs.declared.form.Form.{Form}
use Rattle.sym_path.specs.declared.form.Form.TheVariants as form
use Rattle.sym_path.specs.Giving.{cell_at, cells_at, state_at}
use Rattle.sym_path.specs.Leading.{SameButLists}
use Rattle.sym_path.specs.Writing.{AreDrafts, AreFinished, draft_at, finished, finished_at}
use Rattle.sym_path.proofs.Lists.{get_within, set_other, set_same}

-- ---- lists

-- Two lists of one length with the same items are one.
same_items : {A : Type 0} (xs ys : List A) → length xs ≡ length ys → ((i : ℕ) (x y : A) → slice_get xs i ≡ Some x → slice_get ys i ≡ Some y → x ≡ y) → xs ≡ ys
same_items [] [] l h = refl
same_items [] (y ∷ ys) l h = absurd (omega arith)
same_items (x ∷ xs) [] l h = absurd (omega arith)
same_items (x ∷ xs) (y ∷ ys) l h = ap (λ z. z ∷ xs) (h 0 x y refl refl) ∙ ap (λ zs. y ∷ zs) (same_items xs ys (omega arith) (λ i. h (suc i)))

get_before : {A : Type 0} (xs ys : List A) (i : ℕ) → i < length xs → slice_get (xs ++ ys) i ≡ slice_get xs i
get_before [] ys i h = absurd (omega arith)
get_before (x ∷ xs) ys zero h = refl
get_before (x ∷ xs) ys (suc i) h = get_before xs ys i (omega arith)

get_pushed : {A : Type 0} (xs : List A) (y : A) (i : ℕ) → length xs ≡ i → slice_get (xs ++ y ∷ []) i ≡ Some y
get_pushed [] y zero h = refl
get_pushed [] y (suc i) h = absurd (omega arith)
get_pushed (x ∷ xs) y zero h = absurd (omega arith)
get_pushed (x ∷ xs) y (suc i) h = get_pushed xs y i (omega arith)

pushed_length : {A : Type 0} (xs : List A) (y : A) → length (xs ++ y ∷ []) ≡ length xs + 1
pushed_length [] y = refl
pushed_length (x ∷ xs) y = let r = pushed_length xs y in omega (arith, r)

-- ---- drafts

-- One draft more.
pub draft_next : (forms : List Form) (s : State) (drafts : List Cell) (i : ℕ) (f : Form) (x y : Cell) → slice_get forms i ≡ Some f → slice_get s.cells i ≡ Some x → y ≡ draft_at i f s x → AreDrafts forms s i drafts → AreDrafts forms s (i + 1) (drafts ++ y ∷ [])
draft_next forms s drafts i f x y ef ex ey h = record {
  long = let l = pushed_length drafts y in let k = h.long in omega (arith, l, k);
  each = λ c g z lt eg ez. elim (cases_lt c i) [
    | inl below ↦ get_before drafts (y ∷ []) c (let k = h.long in omega (arith, k)) ∙ h.each c g z below eg ez
    | inr above ↦
        let at : c ≡ i = omega arith in
        let sf : Some f ≡ Some g = sym ef ∙ ap (slice_get forms) (sym at) ∙ eg in
        let sx : Some x ≡ Some z = sym ex ∙ ap (slice_get s.cells) (sym at) ∙ ez in
        let pf : f ≡ g = cc in
        let px : x ≡ z = cc in
        get_pushed drafts y c (h.long ∙ sym at) ∙ ap Some (ey ∙ ap (λ d. draft_at d f s x) (sym at) ∙ ap (λ k. draft_at c k s x) pf ∙ ap (draft_at c g s) px)
  ];
}

-- ---- cells that are finished

pub none_finished : (forms : List Form) (drafts : List Cell) (s : State) → AreFinished forms drafts s 0 s
none_finished forms drafts s = record { long = refl; each = λ c f d h. absurd (omega arith); others = λ c h. refl }

-- One cell more.
pub finish_next : (forms : List Form) (drafts : List Cell) (s t u : State) (i : ℕ) (f : Form) (d : Cell) → slice_get forms i ≡ Some f → slice_get drafts i ≡ Some d → u ≡ finished_at i f d t → AreFinished forms drafts s i t → AreFinished forms drafts s (i + 1) u
finish_next forms drafts s t u i f d ef ed is h = record {
  long = ap (λ (v : State). length v.cells) is ∙ length-set t.cells i (finished i f d (slice_get t.cells i)) ∙ h.long;
  each = λ c g e lt within eg ee. elim (cases_eq c i) [
    | inl at ↦
        let sf : Some f ≡ Some g = sym ef ∙ ap (slice_get forms) (sym at) ∙ eg in
        let sd : Some d ≡ Some e = sym ed ∙ ap (slice_get drafts) (sym at) ∙ ee in
        let pf : f ≡ g = cc in
        let pd : d ≡ e = cc in
        let old : slice_get t.cells i ≡ slice_get s.cells c = h.others i (omega arith) ∙ ap (slice_get s.cells) (sym at) in
        ap (λ (v : State). slice_get v.cells c) is
        ∙ ap (slice_get (slice_set t.cells i (finished i f d (slice_get t.cells i)))) at
        ∙ put_here c at within
        ∙ ap (λ o. Some (finished i f d o)) old
        ∙ ap (λ k. Some (finished k f d (slice_get s.cells c))) (sym at)
        ∙ ap (λ k. Some (finished c k d (slice_get s.cells c))) pf
        ∙ ap (λ k. Some (finished c g k (slice_get s.cells c))) pd
    | inr apart ↦
        let below : c < i = omega (arith, apart) in
        elsewhere c apart ∙ h.each c g e below within eg ee
  ];
  others = λ c le. let apart : c ≢ i = omega arith in elsewhere c apart ∙ h.others c (omega arith);
}
  where
    elsewhere : (c : ℕ) → c ≢ i → slice_get u.cells c ≡ slice_get t.cells c
    elsewhere c apart = ap (λ (v : State). slice_get v.cells c) is ∙ set_other t.cells i c (finished i f d (slice_get t.cells i)) apart

    put_here : (c : ℕ) → c ≡ i → c < length s.cells → slice_get (slice_set t.cells i (finished i f d (slice_get t.cells i))) i ≡ Some (finished i f d (slice_get t.cells i))
    put_here c at within =
        let long = h.long in
        let found = get_within t.cells i (omega (arith, long)) in
        set_same t.cells i (finished i f d (slice_get t.cells i)) found.0 found.1

-- ---- states

cells_at_length : (forms : List Form) (s : State) (cells : List Cell) → length forms ≡ length cells → length (cells_at forms s cells) ≡ length cells
cells_at_length [] s [] h = refl
cells_at_length [] s (c ∷ cells) h = absurd (omega arith)
cells_at_length (f ∷ forms) s [] h = absurd (omega arith)
cells_at_length (f ∷ forms) s (c ∷ cells) h = ap suc (cells_at_length forms s cells (omega arith))

cells_at_get : (forms : List Form) (s : State) (cells : List Cell) (i : ℕ) (f : Form) (c : Cell) → slice_get forms i ≡ Some f → slice_get cells i ≡ Some c → slice_get (cells_at forms s cells) i ≡ Some (cell_at f s c)
cells_at_get [] s cells i f c e h = absurd (cc)
cells_at_get (g ∷ forms) s [] i f c e h = absurd (cc)
cells_at_get (g ∷ forms) s (d ∷ cells) zero f c e h =
    let same : g ≡ f = cc in
    let same' : d ≡ c = cc in
    ap Some (ap (λ k. cell_at k s d) same ∙ ap (cell_at f s) same')
cells_at_get (g ∷ forms) s (d ∷ cells) (suc i) f c e h = cells_at_get forms s cells i f c e h

-- A finished draft is what the cell holds by its form.
finish_draft : (c : ℕ) (f : Form) (s : State) (x : Cell) (old : Option Cell) → cell_parts old ≡ parts_at s c → finished c f (draft_at c f s x) old ≡ cell_at f s x
finish_draft c (form.Enum f) s x old h = refl
finish_draft c (form.Int f) s x old h = refl
finish_draft c (form.Hold (hold.Const ps)) s x old h = refl
finish_draft c (form.Hold (hold.Copy own)) s x old h = elim (cases_eq own c) [
  | inl e ↦ rw (eq-eqb own c e) (ap cell.Hold (h ∙ ap (parts_at s) (sym e)))
  | inr e ↦ rw (ne_eqb own c e) refl
]
finish_draft c (form.Nums added) s x old h = refl
finish_draft c (form.Words added) s x old h = refl

-- Finished drafts are what the forms make of the state.
pub all_finished : (forms : List Form) (drafts : List Cell) (s t u : State) → length forms ≡ length s.cells → SameButLists s t → length t.cells ≡ length s.cells → AreDrafts forms s (length forms) drafts → AreFinished forms drafts t (length forms) u → u ≡ state_at forms s
all_finished forms drafts s t u lengths same count made done =
    ap (λ (cells : List Cell). record { cells = cells }) (same_items u.cells (cells_at forms s s.cells) long each)
  where
    long : length u.cells ≡ length (cells_at forms s s.cells)
    long = done.long ∙ count ∙ sym (cells_at_length forms s s.cells lengths)

    each : (i : ℕ) (y z : Cell) → slice_get u.cells i ≡ Some y → slice_get (cells_at forms s s.cells) i ≡ Some z → y ≡ z
    each i y z ey ez =
        let l = done.long in
        let below : i < length u.cells = slice_get_within u.cells i y ey in
        let f = get_within forms i (omega (arith, l, count, lengths)) in
        let x = get_within s.cells i (omega (arith, l, count)) in
        let draft = made.each i f.0 x.0 (omega (arith, l, count, lengths)) f.1 x.1 in
        let put = done.each i f.0 (draft_at i f.0 s x.0) (omega (arith, l, count, lengths)) (omega (arith, l)) f.1 draft in
        let is : finished i f.0 (draft_at i f.0 s x.0) (slice_get t.cells i) ≡ cell_at f.0 s x.0 = finish_draft i f.0 s x.0 (slice_get t.cells i) (same.parts i) in
        let left : Some y ≡ Some (cell_at f.0 s x.0) = sym ey ∙ put ∙ ap Some is in
        let right : Some z ≡ Some (cell_at f.0 s x.0) = sym ez ∙ cells_at_get forms s s.cells i f.0 x.0 f.1 x.1 in
        cc
