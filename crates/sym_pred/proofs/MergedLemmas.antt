-- The merge of two lists in order has the literals of both, and fails exactly at a clash.
use Rattle.std.proofs.Common.{◌≡◌, ◌↔◌, ◌⊎◌, ℕ, ◌≤◌, ◌-◌, ◌++◌, length, take, drop, arith, append_assoc, Bool, true, false, not, cond, List, [], ◌∷◌, map, Option, Some, None, refl, sym, ap, ◌∙◌, inl, inr}
use Rattle.std.specs.Prelude.{T}
use Rattle.std.specs.declared.cmp.Ordering.TheVariants.{Less, Equal, Greater}
use Rattle.std.specs.Ordering.{eq_by_cmp, is_eq}
use Rattle.std.specs.Cmp.{tied_itself}
use Rattle.std.specs.Option.{option_map, MatchOption}
use Rattle.std.specs.FinMap.{from_sorted}
use Rattle.std.specs.FinMap.Entries.{below_all}
use Rattle.std.proofs.lemmas.List.{append-nil, drop_all, take_all, length-drop}
use Rattle.std.proofs.lemmas.Option.{same_Some}
use Rattle.sym_pred.specs.declared.literal.Literal.{Literal}
use Rattle.sym_pred.specs.Facts.{Atom, atom_cmp, FactMap}
use Rattle.sym_pred.specs.Literals.{atom_of, entry_of}
use Rattle.sym_pred.specs.Places.{IsInOrder}
use Rattle.sym_pred.specs.Meaning.{Stands, Clash}
use Rattle.sym_pred.specs.Merges.{outcome_in, first_of, ClashIn, IsMerged}
use Rattle.sym_pred.proofs.Merged.{merged, merged_with, merge_step, same_outcome}
use Rattle.sym_pred.proofs.EntriesLemmas.{T_both, T_first, T_second, lt_Less, is_Equal, flipped_back, below_less, below_tied, find_below}
use Rattle.sym_pred.proofs.FactsLemmas.{atom_cmp-total, atom_cmp-IsAntisymmetric, get_of_view}
use Rattle.sym_pred.proofs.MeaningLemmas.{not_both}

same_outcome-true : (a b : Bool) → same_outcome a b ≡ true → a ≡ b
same_outcome-true true b e = sym e
same_outcome-true false true e = cc
same_outcome-true false false e = refl

same_outcome-false : (a b : Bool) → same_outcome a b ≡ false → b ≡ not a
same_outcome-false true b e = e
same_outcome-false false true e = refl
same_outcome-false false false e = cc

-- An atom that ties with one below all is not among them.
absent : (q a : Atom) (xs : List Literal) → eq_by_cmp atom_cmp q a ≡ true → T (below_all atom_cmp a (map entry_of xs)) → outcome_in xs q ≡ None
absent q a xs e h = find_below atom_cmp-total q (map entry_of xs) (below_tied atom_cmp-total q a (map entry_of xs) (is_Equal _ e) h)

None-Some : {P : Type 0} {o : Option Bool} {a : Bool} → o ≡ None → o ≡ Some a → P
None-Some e f = let both = sym e ∙ f in cc

-- What is found behind the first literal is found with it.
later : (x : Literal) (xs : List Literal) (q : Atom) (a : Bool) → T (below_all atom_cmp (atom_of x) (map entry_of xs)) → outcome_in xs q ≡ Some a → outcome_in (x ∷ xs) q ≡ Some a
later x xs q a h found = elim (eq_by_cmp atom_cmp q (atom_of x)) as (λ t. eq_by_cmp atom_cmp q (atom_of x) ≡ t → cond t (Some x.outcome) (outcome_in xs q) ≡ Some a) [
  | true ↦ λ e. None-Some (absent q (atom_of x) xs e h) found
  | false ↦ λ e. found
] refl

first : (x : Literal) (xs : List Literal) → outcome_in (x ∷ xs) (atom_of x) ≡ Some x.outcome
first x xs = ap (λ r. cond (is_eq r) (Some x.outcome) (outcome_in xs (atom_of x))) (tied_itself atom_cmp-total (atom_of x))

module _ (x y : Literal) (xs ys : List Literal) (h : IsInOrder (x ∷ xs)) (g : IsInOrder (y ∷ ys)) where
  step-Less : (less : atom_cmp (atom_of x) (atom_of y) ≡ Less) (r : Option (List Literal)) → MatchOption r (ClashIn xs (y ∷ ys)) (IsMerged xs (y ∷ ys)) → MatchOption (option_map (λ rest. x ∷ rest) r) (ClashIn (x ∷ xs) (y ∷ ys)) (IsMerged (x ∷ xs) (y ∷ ys))
  step-Less less None clash = record { atom = clash.atom; outcome = clash.outcome; one = later x xs clash.atom clash.outcome (T_first _ _ h) clash.one; other = clash.other }
  step-Less less (Some zs) is =
      let above : T (below_all atom_cmp (atom_of x) (map entry_of (y ∷ ys))) = T_both _ _ (lt_Less less) (below_less atom_cmp-total (atom_of x) (atom_of y) (map entry_of ys) less (T_first _ _ g)) in
      record {
        in_order = T_both _ _ (is.below (atom_of x) (T_first _ _ h) above) is.in_order;
        below = λ a p q. T_both _ _ (T_first _ _ p) (is.below a (T_second _ _ p) q);
        finds = λ q. elim (eq_by_cmp atom_cmp q (atom_of x)) as (λ t. cond t (Some x.outcome) (outcome_in zs q) ≡ first_of (cond t (Some x.outcome) (outcome_in xs q)) (outcome_in (y ∷ ys) q)) [ true ↦ refl | false ↦ is.finds q ];
        agree = λ q a b. elim (eq_by_cmp atom_cmp q (atom_of x)) as (λ t. eq_by_cmp atom_cmp q (atom_of x) ≡ t → cond t (Some x.outcome) (outcome_in xs q) ≡ Some a → outcome_in (y ∷ ys) q ≡ Some b → a ≡ b) [
          | true ↦ λ t _ other. None-Some (absent q (atom_of x) (y ∷ ys) t above) other
          | false ↦ λ t one other. is.agree q a b one other
        ] refl;
      }

  step-Greater : (greater : atom_cmp (atom_of x) (atom_of y) ≡ Greater) (r : Option (List Literal)) → MatchOption r (ClashIn (x ∷ xs) ys) (IsMerged (x ∷ xs) ys) → MatchOption (option_map (λ rest. y ∷ rest) r) (ClashIn (x ∷ xs) (y ∷ ys)) (IsMerged (x ∷ xs) (y ∷ ys))
  step-Greater greater None clash = record { atom = clash.atom; outcome = clash.outcome; one = clash.one; other = later y ys clash.atom (not clash.outcome) (T_first _ _ g) clash.other }
  step-Greater greater (Some zs) is =
      let less = flipped_back atom_cmp-total (atom_of x) (atom_of y) greater in
      let above : T (below_all atom_cmp (atom_of y) (map entry_of (x ∷ xs))) = T_both _ _ (lt_Less less) (below_less atom_cmp-total (atom_of y) (atom_of x) (map entry_of xs) less (T_first _ _ h)) in
      record {
        in_order = T_both _ _ (is.below (atom_of y) above (T_first _ _ g)) is.in_order;
        below = λ a p q. T_both _ _ (T_first _ _ q) (is.below a p (T_second _ _ q));
        finds = λ q. elim (eq_by_cmp atom_cmp q (atom_of y)) as (λ t. eq_by_cmp atom_cmp q (atom_of y) ≡ t → cond t (Some y.outcome) (outcome_in zs q) ≡ first_of (outcome_in (x ∷ xs) q) (cond t (Some y.outcome) (outcome_in ys q))) [
          | true ↦ λ t. ap (λ o. first_of o (Some y.outcome)) (sym (absent q (atom_of y) (x ∷ xs) t above))
          | false ↦ λ t. is.finds q
        ] refl;
        agree = λ q a b one. elim (eq_by_cmp atom_cmp q (atom_of y)) as (λ t. eq_by_cmp atom_cmp q (atom_of y) ≡ t → cond t (Some y.outcome) (outcome_in ys q) ≡ Some b → a ≡ b) [
          | true ↦ λ t _. None-Some (absent q (atom_of y) (x ∷ xs) t above) one
          | false ↦ λ t other. is.agree q a b one other
        ] refl;
      }

  step-Equal : (equal : atom_cmp (atom_of x) (atom_of y) ≡ Equal) (outcomes : x.outcome ≡ y.outcome) (r : Option (List Literal)) → MatchOption r (ClashIn xs ys) (IsMerged xs ys) → MatchOption (option_map (λ rest. x ∷ rest) r) (ClashIn (x ∷ xs) (y ∷ ys)) (IsMerged (x ∷ xs) (y ∷ ys))
  step-Equal equal outcomes None clash = record { atom = clash.atom; outcome = clash.outcome; one = later x xs clash.atom clash.outcome (T_first _ _ h) clash.one; other = later y ys clash.atom (not clash.outcome) (T_first _ _ g) clash.other }
  step-Equal equal outcomes (Some zs) is =
      let above : T (below_all atom_cmp (atom_of x) (map entry_of ys)) = below_tied atom_cmp-total (atom_of x) (atom_of y) (map entry_of ys) equal (T_first _ _ g) in
      let same : atom_of x ≡ atom_of y = atom_cmp-IsAntisymmetric _ _ equal in
      let as_x : (q : Atom) → outcome_in (y ∷ ys) q ≡ cond (eq_by_cmp atom_cmp q (atom_of x)) (Some y.outcome) (outcome_in ys q) = λ q. ap (λ (a : Atom). cond (eq_by_cmp atom_cmp q a) (Some y.outcome) (outcome_in ys q)) (sym same) in
      record {
        in_order = T_both _ _ (is.below (atom_of x) (T_first _ _ h) above) is.in_order;
        below = λ a p q. T_both _ _ (T_first _ _ p) (is.below a (T_second _ _ p) (T_second _ _ q));
        finds = λ q. elim (eq_by_cmp atom_cmp q (atom_of x)) as (λ t. cond t (Some x.outcome) (outcome_in zs q) ≡ first_of (cond t (Some x.outcome) (outcome_in xs q)) (cond t (Some y.outcome) (outcome_in ys q))) [ true ↦ refl | false ↦ is.finds q ]
            ∙ ap (λ o. first_of (outcome_in (x ∷ xs) q) o) (sym (as_x q));
        agree = λ q a b one other. elim (eq_by_cmp atom_cmp q (atom_of x)) as (λ t. cond t (Some x.outcome) (outcome_in xs q) ≡ Some a → cond t (Some y.outcome) (outcome_in ys q) ≡ Some b → a ≡ b) [
          | true ↦ λ p r. sym (same_Some _ _ p) ∙ outcomes ∙ same_Some _ _ r
          | false ↦ is.agree q a b
        ] one (sym (as_x q) ∙ other);
      }

  step-clash : (equal : atom_cmp (atom_of x) (atom_of y) ≡ Equal) → y.outcome ≡ not x.outcome → ClashIn (x ∷ xs) (y ∷ ys)
  step-clash equal outcomes = record {
    atom = atom_of x;
    outcome = x.outcome;
    one = first x xs;
    other = ap (λ (a : Atom). outcome_in (y ∷ ys) a) (atom_cmp-IsAntisymmetric (atom_of x) (atom_of y) equal) ∙ first y ys ∙ ap Some outcomes;
  }

merged_with-is : (rest : List Literal → Option (List Literal)) (x : Literal) (xs : List Literal) → IsInOrder (x ∷ xs) → ((ys : List Literal) → IsInOrder ys → MatchOption (rest ys) (ClashIn xs ys) (IsMerged xs ys)) → (ys : List Literal) → IsInOrder ys → MatchOption (merged_with rest x xs ys) (ClashIn (x ∷ xs) ys) (IsMerged (x ∷ xs) ys)
merged_with-is rest x xs h is [] g = record {
  in_order = h;
  below = λ a p q. p;
  finds = λ q. elim (outcome_in (x ∷ xs) q) as (λ o. o ≡ first_of o None) [ None ↦ refl | Some a ↦ refl ];
  agree = λ q a b one other. None-Some refl other;
}
merged_with-is rest x xs h is (y ∷ ys) g =
    elim (atom_cmp (atom_of x) (atom_of y)) as (λ r. atom_cmp (atom_of x) (atom_of y) ≡ r → MatchOption (merge_step r (same_outcome x.outcome y.outcome) x y (rest (y ∷ ys)) (rest ys) (merged_with rest x xs ys)) (ClashIn (x ∷ xs) (y ∷ ys)) (IsMerged (x ∷ xs) (y ∷ ys))) [
      | Less ↦ λ less. step-Less x y xs ys h g less (rest (y ∷ ys)) (is (y ∷ ys) g)
      | Equal ↦ λ equal. elim (same_outcome x.outcome y.outcome) as (λ t. same_outcome x.outcome y.outcome ≡ t → MatchOption (merge_step Equal t x y (rest (y ∷ ys)) (rest ys) (merged_with rest x xs ys)) (ClashIn (x ∷ xs) (y ∷ ys)) (IsMerged (x ∷ xs) (y ∷ ys))) [
        | true ↦ λ t. step-Equal x y xs ys h g equal (same_outcome-true _ _ t) (rest ys) (is ys (T_second _ _ g))
        | false ↦ λ t. step-clash x y xs ys h g equal (same_outcome-false _ _ t)
      ] refl
      | Greater ↦ λ greater. step-Greater x y xs ys h g greater (merged_with rest x xs ys) (merged_with-is rest x xs h is ys (T_second _ _ g))
    ] refl

pub merged-is : (xs ys : List Literal) → IsInOrder xs → IsInOrder ys → MatchOption (merged xs ys) (ClashIn xs ys) (IsMerged xs ys)
merged-is [] ys h g = record { in_order = g; below = λ a p q. q; finds = λ q. refl; agree = λ q a b one other. None-Some refl one }
merged-is (x ∷ xs) ys h g = merged_with-is (merged xs) x xs h (λ zs k. merged-is xs zs (T_second _ _ h) k) ys g

-- ---- the end of the walk

-- What is behind place n is all that is left there.
pub rest_of : (xs : List Literal) (n : ℕ) → take (length xs - n) (drop n xs) ≡ drop n xs
rest_of xs n = take_all (length xs - n) (drop n xs) (omega (arith, length-drop n xs))

merged-nil : (xs : List Literal) → merged xs [] ≡ Some xs
merged-nil [] = refl
merged-nil (x ∷ xs) = refl

pub merged-end : (left right all : List Literal) (done gone : ℕ) → (length left ≤ done) ⊎ (length right ≤ gone) → merged left right ≡ option_map (λ rest. all ++ rest) (merged (drop done left) (drop gone right)) → Some ((all ++ drop done left) ++ drop gone right) ≡ merged left right
merged-end left right all done gone (inl end) is =
    let none = drop_all done left end in
    ap Some (append_assoc all (drop done left) (drop gone right) ∙ ap (λ (zs : List Literal). all ++ (zs ++ drop gone right)) none)
    ∙ sym (is ∙ ap (λ (zs : List Literal). option_map (λ rest. all ++ rest) (merged zs (drop gone right))) none)
merged-end left right all done gone (inr end) is =
    let none = drop_all gone right end in
    ap Some (ap (λ (zs : List Literal). (all ++ drop done left) ++ zs) none ∙ append-nil (all ++ drop done left))
    ∙ sym (is ∙ ap (λ (zs : List Literal). option_map (λ rest. all ++ rest) (merged (drop done left) zs)) none ∙ ap (λ o. option_map (λ rest. all ++ rest) o) (merged-nil (drop done left)))

-- ---- what the merge says of facts

module _ (left right : FactMap) (xs ys : List Literal) (h : IsInOrder xs) (g : IsInOrder ys) (is_left : from_sorted {R = atom_cmp} (map entry_of xs) ≡ left) (is_right : from_sorted {R = atom_cmp} (map entry_of ys) ≡ right) where
  pub Clash-merged : ClashIn xs ys → Clash left right
  Clash-merged clash =
      record {
        atom = clash.atom;
        outcome = clash.outcome;
        one = get_of_view left xs h is_left clash.atom ∙ clash.one;
        other = get_of_view right ys g is_right clash.atom ∙ clash.other;
      }

  pub not_Clash-merged : (zs : List Literal) → IsMerged xs ys zs → Clash left right → ⊥
  not_Clash-merged zs all clash =
      not_both clash.outcome (all.agree clash.atom clash.outcome (not clash.outcome) (sym (get_of_view left xs h is_left clash.atom) ∙ clash.one) (sym (get_of_view right ys g is_right clash.atom) ∙ clash.other))

  either : (o p : Option Bool) (a : Bool) → first_of o p ≡ Some a → (o ≡ Some a) ⊎ (p ≡ Some a)
  either None p a e = inr e
  either (Some b) p a e = inl e

  joined : (o p : Option Bool) (a : Bool) → ((b c : Bool) → o ≡ Some b → p ≡ Some c → b ≡ c) → (o ≡ Some a) ⊎ (p ≡ Some a) → first_of o p ≡ Some a
  joined o p a agree (inl e) = ap (λ z. first_of z p) e
  joined None p a agree (inr e) = e
  joined (Some b) p a agree (inr e) = ap Some (agree b a refl e)

  pub Stands-merged : (zs : List Literal) (both : FactMap) → from_sorted {R = atom_cmp} (map entry_of zs) ≡ both → IsMerged xs ys zs → (atom : Atom) (outcome : Bool) → Stands both atom outcome ↔ (Stands left atom outcome ⊎ Stands right atom outcome)
  Stands-merged zs both is_both all atom outcome =
      let one = get_of_view left xs h is_left atom in
      let other = get_of_view right ys g is_right atom in
      let whole = get_of_view both zs all.in_order is_both atom in (
        λ stands. elim (either (outcome_in xs atom) (outcome_in ys atom) outcome (sym (all.finds atom) ∙ sym whole ∙ stands)) [ inl e ↦ inl (one ∙ e) | inr e ↦ inr (other ∙ e) ],
        λ stands. whole ∙ all.finds atom ∙ joined (outcome_in xs atom) (outcome_in ys atom) outcome (all.agree atom) (elim stands [ inl e ↦ inl (sym one ∙ e) | inr e ↦ inr (sym other ∙ e) ]),
      )
