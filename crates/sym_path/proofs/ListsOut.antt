-- States whose lists are moved out, and what forms make of them.
use Rattle.std.proofs.Common.{◌≡◌, ◌++◌, ◌∷◌, ℕ, ℤ, pos, true, false, ◌+ℤ◌, ◌*ℤ◌, List, [], Option, Some, None, inl, inr, length, map, refl, sym, ap, ◌∙◌, subst, if◌then◌else◌}
use Rattle.std.proofs.lemmas.Bool.{cases_eq}
use Rattle.std.proofs.lemmas.List.{length-set}
use Rattle.std.specs.Prelude.{slice_get, slice_set}
use Rattle.sym_base.specs.Limits.{IsNumber}
use Rattle.sym_base.specs.States.{cell_label, cell_number, cell_parts, cell_nums, cell_words}
use Rattle.sym_base.specs.declared.values.state.Cell.{Cell}
use Rattle.sym_base.specs.declared.values.state.Cell.TheVariants as cell
use Rattle.sym_base.specs.declared.values.state.State.{State}
use Rattle.sym_enum.specs.declared.form.EnumForm.TheVariants as label
use Rattle.sym_int.specs.Lines.{form_value, offset}
use Rattle.sym_int.specs.declared.form.IntForm.{IntForm}
use Rattle.sym_int.specs.declared.form.IntForm.TheVariants as number
use Rattle.sym_pred.specs.declared.form.HoldForm.TheVariants as hold
use Rattle.sym_path.specs.declared.form.Form.{Form}
use Rattle.sym_path.specs.declared.form.Form.TheVariants as form
use Rattle.sym_path.specs.Giving.{cell_at, HasNumbers}
use Rattle.sym_path.specs.Leading.{IsListOut, SameButLists, is_list}
use Rattle.sym_path.specs.Writing.{draft_at, is_written_over}
use Rattle.sym_path.proofs.Lists.{all_at, all_from, set_other, set_same}

pub same_self : (s : State) → SameButLists s s
same_self s = record { labels = λ c. refl; numbers = λ c. refl; parts = λ c. refl }

pub same_further : (s t u : State) → SameButLists s t → SameButLists t u → SameButLists s u
same_further s t u h k = record {
  labels = λ c. k.labels c ∙ h.labels c;
  numbers = λ c. k.numbers c ∙ h.numbers c;
  parts = λ c. k.parts c ∙ h.parts c;
}

-- ---- forms

number_same : (s t : State) → SameButLists s t → (f : IntForm) → form_value f t ≡ form_value f s
number_same s t h (number.Const n) = refl
number_same s t h (number.Line line) = ap (λ (x : ℤ). line.a *ℤ x +ℤ offset line) (h.numbers line.cell)

numbers_same : (s t : State) → SameButLists s t → (added : List IntForm) → map (λ f. form_value f t) added ≡ map (λ f. form_value f s) added
numbers_same s t h [] = refl
numbers_same s t h (f ∷ added) =
    ap (λ (x : ℤ). x ∷ map (λ g. form_value g t) added) (number_same s t h f)
    ∙ ap (λ (xs : List ℤ). form_value f s ∷ xs) (numbers_same s t h added)

-- A cell that has the same list, and a state with the same values, give the same.
pub cell_same : (s t : State) (f : Form) (x y : Cell) → SameButLists s t → cell_nums (Some y) ≡ cell_nums (Some x) → cell_words (Some y) ≡ cell_words (Some x) → cell_at f t y ≡ cell_at f s x
cell_same s t (form.Enum (label.Const l)) x y h n w = refl
cell_same s t (form.Enum (label.Copy c)) x y h n w = ap cell.Enum (h.labels c)
cell_same s t (form.Int f) x y h n w = ap cell.Int (number_same s t h f)
cell_same s t (form.Hold (hold.Const ps)) x y h n w = refl
cell_same s t (form.Hold (hold.Copy c)) x y h n w = ap cell.Hold (h.parts c)
cell_same s t (form.Nums added) x y h n w =
    ap (λ (xs : List ℤ). cell.Nums (xs ++ map (λ f. form_value f t) added)) n
    ∙ ap (λ (xs : List ℤ). cell.Nums (cell_nums (Some x) ++ xs)) (numbers_same s t h added)
cell_same s t (form.Words added) x y h n w = ap (λ (ts : List (List ℕ)). cell.Words (ts ++ added)) w

-- So do their drafts.
pub draft_same : (c : ℕ) (s t : State) (f : Form) (x y : Cell) → SameButLists s t → cell_nums (Some y) ≡ cell_nums (Some x) → cell_words (Some y) ≡ cell_words (Some x) → draft_at c f t y ≡ draft_at c f s x
draft_same c s t f x y h n w = ap (λ (z : Cell). if is_written_over c f then cell.Enum 0 else z) (cell_same s t f x y h n w)

number_still : (s t : State) → SameButLists s t → (f : IntForm) → IsNumber (form_value f s) → IsNumber (form_value f t)
number_still s t h f n = subst (λ (x : ℤ). IsNumber x) (sym (number_same s t h f)) n

pub still_numbers : (s t : State) (f : Form) → SameButLists s t → HasNumbers s f → HasNumbers t f
still_numbers s t (form.Enum f) h n = tt
still_numbers s t (form.Int f) h n = number_still s t h f n
still_numbers s t (form.Hold f) h n = tt
still_numbers s t (form.Nums added) h n =
    all_from (λ f. IsNumber (form_value f t)) added
    (λ i f e. number_still s t h f (all_at (λ f. IsNumber (form_value f s)) added i f n e))
still_numbers s t (form.Words added) h n = tt

-- ---- lists that are moved out

-- A cell of which forms read nothing.
record IsSilent (x : Cell) : Type 0 where
  label : cell_label (Some x) ≡ 0
  number : cell_number (Some x) ≡ pos 0
  parts : cell_parts (Some x) ≡ []

put_same : {A : Type 0} (read : Option Cell → A) (cells : List Cell) (c d : ℕ) (x y : Cell) → slice_get cells c ≡ Some x → read (Some y) ≡ read (Some x) → read (slice_get (slice_set cells c y) d) ≡ read (slice_get cells d)
put_same read cells c d x y at same = elim (cases_eq d c) [
  | inl e ↦ ap (λ i. read (slice_get (slice_set cells c y) i)) e ∙ ap read (set_same cells c y x at) ∙ same ∙ ap read (sym at) ∙ ap (λ i. read (slice_get cells i)) (sym e)
  | inr e ↦ ap read (set_other cells c d y e)
]

-- A silent cell is put in the place of another.
moved_out : (s t : State) (c : ℕ) (x : Cell) → IsSilent x → slice_get s.cells c ≡ Some x → t.cells ≡ slice_set s.cells c (cell.Enum 0) → IsListOut c s t x
moved_out s t c x h at is = record {
  nums = ap cell_nums (sym at);
  words = ap cell_words (sym at);
  same = record {
    labels = λ d. ap (λ (cells : List Cell). cell_label (slice_get cells d)) is ∙ put_same cell_label s.cells c d x (cell.Enum 0) at (sym h.label);
    numbers = λ d. ap (λ (cells : List Cell). cell_number (slice_get cells d)) is ∙ put_same cell_number s.cells c d x (cell.Enum 0) at (sym h.number);
    parts = λ d. ap (λ (cells : List Cell). cell_parts (slice_get cells d)) is ∙ put_same cell_parts s.cells c d x (cell.Enum 0) at (sym h.parts);
  };
  others = λ d other. ap (λ (cells : List Cell). slice_get cells d) is ∙ set_other s.cells c d (cell.Enum 0) other;
  count = ap length is ∙ length-set s.cells c (cell.Enum 0);
}

-- A list cell gives its list,
pub list_moved : (s t : State) (c : ℕ) (x : Cell) → is_list (Some x) ≡ true → slice_get s.cells c ≡ Some x → t.cells ≡ slice_set s.cells c (cell.Enum 0) → IsListOut c s t x
list_moved s t c (cell.Enum l) list at is = absurd (cc)
list_moved s t c (cell.Int n) list at is = absurd (cc)
list_moved s t c (cell.Hold ps) list at is = absurd (cc)
list_moved s t c (cell.Nums xs) list at is = moved_out s t c (cell.Nums xs) (record { label = refl; number = refl; parts = refl }) at is
list_moved s t c (cell.Words ts) list at is = moved_out s t c (cell.Words ts) (record { label = refl; number = refl; parts = refl }) at is

none_out : (s : State) (c : ℕ) (o : Option Cell) → slice_get s.cells c ≡ o → cell_nums o ≡ [] → cell_words o ≡ [] → IsListOut c s s (cell.Enum 0)
none_out s c o at n w = record {
  nums = sym (ap cell_nums at ∙ n);
  words = sym (ap cell_words at ∙ w);
  same = same_self s;
  others = λ d other. refl;
  count = refl;
}

-- and another cell none.
pub no_list_out : (s : State) (c : ℕ) (o : Option Cell) → is_list o ≡ false → slice_get s.cells c ≡ o → IsListOut c s s (cell.Enum 0)
no_list_out s c None list at = none_out s c None at refl refl
no_list_out s c (Some (cell.Enum l)) list at = none_out s c (Some (cell.Enum l)) at refl refl
no_list_out s c (Some (cell.Int n)) list at = none_out s c (Some (cell.Int n)) at refl refl
no_list_out s c (Some (cell.Hold ps)) list at = none_out s c (Some (cell.Hold ps)) at refl refl
no_list_out s c (Some (cell.Nums xs)) list at = absurd (cc)
no_list_out s c (Some (cell.Words ts)) list at = absurd (cc)
