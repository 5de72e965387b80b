-- What forms make of a state.
use Rattle.std.proofs.Common.{◌≡◌, ◌+◌, ℕ, zero, suc, List, [], ◌∷◌, ◌++◌, Some, map, take, sym, ap, ◌∙◌, add-one, append_assoc}
use Rattle.std.proofs.lemmas.List.{map-append}
use Rattle.std.specs.Prelude.{slice_get}
use Rattle.sym_base.specs.declared.values.state.Cell.{Cell}
use Rattle.sym_base.specs.declared.values.state.State.{State}
use Rattle.sym_path.specs.declared.form.Form.{Form}
use Rattle.sym_path.specs.Giving.{cell_at, cells_at}
use Rattle.sym_path.proofs.Lists.{take_get}

-- One added element more.
pub added_next : {A B : Type 0} (f : A → B) (old : List B) (xs : List A) (i : ℕ) (x : A) → slice_get xs i ≡ Some x → (old ++ map f (take i xs)) ++ f x ∷ [] ≡ old ++ map f (take (i + 1) xs)
added_next f old xs i x e = append_assoc old (map f (take i xs)) (f x ∷ []) ∙ ap (λ ys. old ++ ys) (sym (ap (map f) (take_get xs i x e) ∙ map-append f (take i xs) (x ∷ [])))

pub words_next : {A : Type 0} (old xs : List A) (i : ℕ) (x : A) → slice_get xs i ≡ Some x → (old ++ take i xs) ++ x ∷ [] ≡ old ++ take (i + 1) xs
words_next old xs i x e = append_assoc old (take i xs) (x ∷ []) ∙ ap (λ ys. old ++ ys) (sym (take_get xs i x e))
