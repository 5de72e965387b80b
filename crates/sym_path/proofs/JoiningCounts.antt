-- Ends that agree add as many elements to each list.
use Rattle.std.proofs.Common.{◌≡◌, List, inl, inr, refl, sym, ap}
use Rattle.sym_path.specs.declared.form.Form.{Form}
use Rattle.sym_path.specs.declared.form.Form.TheVariants as form
use Rattle.sym_path.specs.declared.part.Part.{Part}
use Rattle.sym_path.specs.declared.path.PathEnd.TheVariants.{Next}
use Rattle.sym_path.specs.Joining.{EndsAgree}
use Rattle.sym_path.specs.Joins.{AddAsMany, added_count}
use Rattle.sym_path.specs.Taking.{AreTakenTo, IsTakenTo, NumberIsTakenTo}
use Rattle.sym_path.proofs.Lists.{zip_at, zip_length}

module _ (when : List Part) where
  same_count : (f g : Form) → IsTakenTo when f g → added_count f ≡ added_count g
  same_count (form.Enum f) (form.Enum g) h = refl
  same_count (form.Enum f) (form.Int g) h = absurd h
  same_count (form.Enum f) (form.Hold g) h = absurd h
  same_count (form.Enum f) (form.Nums g) h = absurd h
  same_count (form.Enum f) (form.Words g) h = absurd h
  same_count (form.Int f) (form.Enum g) h = absurd h
  same_count (form.Int f) (form.Int g) h = refl
  same_count (form.Int f) (form.Hold g) h = absurd h
  same_count (form.Int f) (form.Nums g) h = absurd h
  same_count (form.Int f) (form.Words g) h = absurd h
  same_count (form.Hold f) g h = sym (ap added_count h)
  same_count (form.Nums added) (form.Enum g) h = absurd h
  same_count (form.Nums added) (form.Int g) h = absurd h
  same_count (form.Nums added) (form.Hold g) h = absurd h
  same_count (form.Nums added) (form.Nums other) h = zip_length (NumberIsTakenTo when) added other h
  same_count (form.Nums added) (form.Words g) h = absurd h
  same_count (form.Words added) g h = sym (ap added_count h)

  pub taken_counts : (fs gs : List Form) → AreTakenTo when fs gs → AddAsMany fs gs
  taken_counts fs gs h = record {
    lengths = zip_length (IsTakenTo when) fs gs h;
    counts = λ i f g a b. same_count f g (zip_at (IsTakenTo when) fs gs i f g h a b);
  }

turned_counts : (fs gs : List Form) → AddAsMany gs fs → AddAsMany fs gs
turned_counts fs gs h = record {
  lengths = sym h.lengths;
  counts = λ i f g a b. sym (h.counts i g f b a);
}

pub agreeing_counts : (v w : List Part) (fs gs : List Form) → EndsAgree (record { when = v; end = Next fs }) (record { when = w; end = Next gs }) → AddAsMany fs gs
agreeing_counts v w fs gs (inl h) = taken_counts w fs gs h
agreeing_counts v w fs gs (inr h) = turned_counts fs gs (taken_counts v gs fs h)
