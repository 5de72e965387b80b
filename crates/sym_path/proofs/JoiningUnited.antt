-- What the union of two constraints admits.
use Rattle.std.proofs.Common.{◌≡◌, ◌↔◌, ℕ, zero, suc, Bool, true, false, ◌||◌, List, [], ◌∷◌, Some, ◌⊎◌, inl, inr, refl, sym, ap, ◌∙◌, subst}
use Rattle.std.proofs.lemmas.Bool.{cases_eq}
use Rattle.std.specs.Prelude.{slice_get, slice_set}
use Rattle.std.specs.List.{AllZip}
use Rattle.sym_base.specs.declared.values.state.Cell.{Cell}
use Rattle.sym_base.specs.declared.values.state.Cell.TheVariants as cell
use Rattle.sym_base.specs.declared.values.state.State.{State}
use Rattle.sym_base.specs.Tests.{Truth}
use Rattle.sym_enum.specs.Labels.{has_label}
use Rattle.sym_path.specs.declared.part.Part.{Part}
use Rattle.sym_path.specs.Admitting.{PartAdmits, Admits}
use Rattle.sym_path.specs.Joins.{IsUnitedPart, IsUnitedInOne, AreUnited}
use Rattle.sym_path.specs.Joins as joins
use Rattle.sym_path.proofs.JoiningConstraints.{same_list}
use Rattle.sym_path.proofs.Lists.{set_same, set_other}

-- ---- one cell

pub or_is : (a b u : Bool) → u ≡ (a || b) → (u ≡ true) ↔ ((a ≡ true) ⊎ (b ≡ true))
or_is true b u e = (λ h. inl refl, λ h. e)
or_is false b u e = (λ h. inr (sym e ∙ h), λ h. elim h [ inl x ↦ absurd (cc) | inr x ↦ e ∙ x ])

neither : ⊥ ↔ (⊥ ⊎ ⊥)
neither = (λ h. absurd h, λ h. elim h [ inl x ↦ x | inr x ↦ x ])

pub part_union : (truth : Truth) (a b u : Part) → IsUnitedPart a b u → (c : Cell) → PartAdmits truth u c ↔ (PartAdmits truth a c ⊎ PartAdmits truth b c)
part_union truth _ _ _ (joins.sets a b u h) (cell.Enum l) = or_is (has_label a l) (has_label b l) (has_label u l) (h l)
part_union truth _ _ _ (joins.sets a b u h) (cell.Int x) = neither
part_union truth _ _ _ (joins.sets a b u h) (cell.Hold parts) = neither
part_union truth _ _ _ (joins.sets a b u h) (cell.Nums xs) = neither
part_union truth _ _ _ (joins.sets a b u h) (cell.Words ts) = neither
part_union truth _ _ _ (joins.spans a b u h) (cell.Enum l) = neither
part_union truth _ _ _ (joins.spans a b u h) (cell.Int x) = h x
part_union truth _ _ _ (joins.spans a b u h) (cell.Hold parts) = neither
part_union truth _ _ _ (joins.spans a b u h) (cell.Nums xs) = neither
part_union truth _ _ _ (joins.spans a b u h) (cell.Words ts) = neither
part_union truth _ _ _ (joins.facts_of a b u h) (cell.Enum l) = neither
part_union truth _ _ _ (joins.facts_of a b u h) (cell.Int x) = neither
part_union truth _ _ _ (joins.facts_of a b u h) (cell.Hold parts) = h.admits truth parts
part_union truth _ _ _ (joins.facts_of a b u h) (cell.Nums xs) = neither
part_union truth _ _ _ (joins.facts_of a b u h) (cell.Words ts) = neither
part_union truth _ _ _ joins.free (cell.Enum l) = neither
part_union truth _ _ _ joins.free (cell.Int x) = neither
part_union truth _ _ _ joins.free (cell.Hold parts) = neither
part_union truth _ _ _ joins.free (cell.Nums xs) = (λ h. inl tt, λ h. tt)
part_union truth _ _ _ joins.free (cell.Words ts) = (λ h. inl tt, λ h. tt)

or_turned : (a b : Bool) → (a || b) ≡ (b || a)
or_turned true true = refl
or_turned true false = refl
or_turned false true = refl
or_turned false false = refl

pub part_union_turned : (a b u : Part) → IsUnitedPart a b u → IsUnitedPart b a u
part_union_turned _ _ _ (joins.sets a b u h) = joins.sets b a u (λ l. h l ∙ or_turned (has_label a l) (has_label b l))
part_union_turned _ _ _ (joins.spans a b u h) = joins.spans b a u (λ x. (
  λ t. elim ((h x).0 t) [ inl y ↦ inr y | inr y ↦ inl y ],
  λ t. (h x).1 (elim t [ inl y ↦ inr y | inr y ↦ inl y ]),
))
part_union_turned _ _ _ (joins.facts_of a b u h) = joins.facts_of b a u (record {
  literals = λ atom outcome. (
    λ t. let both = (h.literals atom outcome).0 t in (both.1, both.0),
    λ t. (h.literals atom outcome).1 (t.1, t.0),
  );
  admits = λ truth parts. (
    λ t. elim ((h.admits truth parts).0 t) [ inl y ↦ inr y | inr y ↦ inl y ],
    λ t. (h.admits truth parts).1 (elim t [ inl y ↦ inr y | inr y ↦ inl y ]),
  );
})
part_union_turned _ _ _ joins.free = joins.free

-- ---- all cells

zip_union : {A B : Type 0} (R : A → B → Type 0) (v : List A) (cs : List B) (k : ℕ) (a b u : A) → slice_get v k ≡ Some a → ((c : B) → R u c ↔ (R a c ⊎ R b c)) → AllZip R (slice_set v k u) cs ↔ (AllZip R v cs ⊎ AllZip R (slice_set v k b) cs)
zip_union R [] cs k a b u e h = absurd (cc)
zip_union R (p ∷ v) [] zero a b u e h = neither
zip_union R (p ∷ v) [] (suc k) a b u e h = neither
zip_union {A} R (p ∷ v) (c ∷ cs) zero a b u e h =
    let same : a ≡ p = cc in
    let P : A → Type 0 = λ q. R q c in (
      λ t. elim ((h c).0 t.0) [ inl x ↦ inl (subst P same x, t.1) | inr x ↦ inr (x, t.1) ],
      λ t. elim t [ inl x ↦ ((h c).1 (inl (subst P (sym same) x.0)), x.1) | inr x ↦ ((h c).1 (inr x.0), x.1) ],
    )
zip_union R (p ∷ v) (c ∷ cs) (suc k) a b u e h =
    let more = zip_union R v cs k a b u e h in (
      λ t. elim (more.0 t.1) [ inl x ↦ inl (t.0, x) | inr x ↦ inr (t.0, x) ],
      λ t. elim t [ inl x ↦ (x.0, more.1 (inl x.1)) | inr x ↦ (x.0, more.1 (inr x.1)) ],
    )

module _ (v w u : List Part) (j : IsUnitedInOne v w u) where
  -- The second constraint, and the union, from the other constraint on.
  pub second_is : w ≡ slice_set v j.cell j.second
  second_is = same_list w (slice_set v j.cell j.second) (λ i.
      elim (cases_eq i j.cell) [
        | inl e ↦ ap (λ k. slice_get w k) e ∙ j.in_second ∙ sym (set_same v j.cell j.second j.first j.in_first) ∙ ap (λ k. slice_get (slice_set v j.cell j.second) k) (sym e)
        | inr e ↦ sym (j.others i e) ∙ sym (set_other v j.cell i j.second e)
      ])

  union_is : u ≡ slice_set w j.cell j.union
  union_is = j.is ∙ same_list (slice_set v j.cell j.union) (slice_set w j.cell j.union) (λ i.
      elim (cases_eq i j.cell) [
        | inl e ↦
            ap (λ k. slice_get (slice_set v j.cell j.union) k) e ∙ set_same v j.cell j.union j.first j.in_first
            ∙ sym (set_same w j.cell j.union j.second j.in_second) ∙ ap (λ k. slice_get (slice_set w j.cell j.union) k) (sym e)
        | inr e ↦ set_other v j.cell i j.union e ∙ j.others i e ∙ sym (set_other w j.cell i j.union e)
      ])

  in_one_turned : IsUnitedInOne w v u
  in_one_turned = record {
    cell = j.cell;
    first = j.second;
    second = j.first;
    union = j.union;
    in_first = j.in_second;
    in_second = j.in_first;
    others = λ c e. sym (j.others c e);
    unites = part_union_turned j.first j.second j.union j.unites;
    is = union_is;
  }

pub united_turned : (v w u : List Part) → AreUnited v w u → AreUnited w v u
united_turned v w u (inl h) = inl (sym h.0, h.1 ∙ h.0)
united_turned v w u (inr j) = inr (in_one_turned v w u j)

pub union_admits : (truth : Truth) (v w u : List Part) (s : State) → AreUnited v w u → Admits truth u s ↔ (Admits truth v s ⊎ Admits truth w s)
union_admits truth v w u s (inl h) =
    let P : List Part → Type 0 = λ x. Admits truth x s in (
      λ t. inl (subst P h.1 t),
      λ t. elim t [ inl x ↦ subst P (sym h.1) x | inr x ↦ subst P (sym h.1) (subst P (sym h.0) x) ],
    )
union_admits truth v w u s (inr j) =
    let P : List Part → Type 0 = λ x. Admits truth x s in
    let both = zip_union (PartAdmits truth) v s.cells j.cell j.first j.second j.union j.in_first (part_union truth j.first j.second j.union j.unites) in (
      λ t. elim (both.0 (subst P j.is t)) [ inl x ↦ inl x | inr x ↦ inr (subst P (sym (second_is v w u j)) x) ],
      λ t. subst P (sym j.is) (both.1 (elim t [ inl x ↦ inl x | inr x ↦ inr (subst P (second_is v w u j) x) ])),
    )

pub union_of : (p q a b u : Part) → p ≡ a → q ≡ b → IsUnitedPart a b u → IsUnitedPart p q u
union_of p q a b u e f h = subst (λ (x : Part). IsUnitedPart x q u) (sym e) (subst (λ (y : Part). IsUnitedPart a y u) (sym f) h)
