-- What the lists are worth that list forms give.
use Rattle.std.proofs.Common.{◌≡◌, ℕ, ℤ, arith, List, [], ◌∷◌, ◌++◌, length, take, drop, map, refl, sym, ap, ◌∙◌, append_assoc}
use Rattle.std.proofs.lemmas.List.{append-nil, drop_all, map-append, take_all}
use Rattle.sym_base.specs.declared.values.state.State.{State}
use Rattle.sym_base.specs.declared.values.value.Value.{Value}
use Rattle.std.specs.List.{AllZip}
use Rattle.sym_vector.specs.Lists.{list_at}

-- Lists that match pairwise by their values have the same values.
pub map-AllZip : {A B : Type 0} (R : A → B → Type 0) (f : A → Value) (g : B → Value) → ((x : A) (y : B) → R x y → g y ≡ f x) → (xs : List A) (ys : List B) → AllZip R xs ys → map g ys ≡ map f xs
map-AllZip R f g same [] [] m = refl
map-AllZip R f g same [] (y ∷ ys) m = absurd m
map-AllZip R f g same (x ∷ xs) [] m = absurd m
map-AllZip R f g same (x ∷ xs) (y ∷ ys) m = λ i. same x y m.0 i ∷ map-AllZip R f g same xs ys m.1 i

-- The list of a form that is the left's elements and then those that these become.
pub list_at-appended : {E : Type 0} (value : E → State → Value) (covered : State → Type 0) (leads_to : State → State) (left these new form : List E) → form ≡ left ++ new → AllZip (λ before after. (state : State) → covered state → value after state ≡ value before (leads_to state)) these new → (state : State) (old : List Value) → covered state → list_at value form state old ≡ list_at value these (leads_to state) (list_at value left state old)
list_at-appended value covered leads_to left these new form is each state old c =
    let values = map-AllZip _ (λ e. value e (leads_to state)) (λ e. value e state) (λ x y same. same state c) these new each in
    ap (λ all. old ++ map (λ e. value e state) all) is
    ∙ ap (λ all. old ++ all) (map-append (λ e. value e state) left new)
    ∙ sym (append_assoc old _ _)
    ∙ ap (λ back. (old ++ map (λ e. value e state) left) ++ back) values

pub list_at-fixed : {E : Type 0} (value : E → State → Value) (covered : State → ℤ → Type 0) (with : State → State) (these form : List E) → AllZip (λ before after. (state : State) (x : ℤ) → covered state x → value after state ≡ value before (with state)) these form → (state : State) (x : ℤ) (old : List Value) → covered state x → list_at value form state old ≡ list_at value these (with state) old
list_at-fixed value covered with these form each state x old c =
    ap (λ all. old ++ all) (map-AllZip _ (λ e. value e (with state)) (λ e. value e state) (λ before after same. same state x c) these form each)

-- What a vector holds after all of its items were written.
pub written_back : {E : Type 0} (len : ℕ) (new items : List E) → length new ≡ length items → length new ≡ len → take len (new ++ drop (length new) items) ≡ new
written_back len new items same all =
    ap (λ rest. take len (new ++ rest)) (drop_all (length new) items (omega arith))
    ∙ ap (λ front. take len front) (append-nil new)
    ∙ take_all len new (omega arith)
