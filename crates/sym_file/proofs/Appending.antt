-- Texts appended item after item, and what the types keep of the items so far.
use Rattle.std.proofs.Common.{◌≡◌, ◌∙◌, ℕ, ◌+◌, ◌<◌, ◌≤◌, ◌^◌, ap, sym, refl, subst, append_assoc, List, [], ◌∷◌, ◌++◌, drop, take, length, get_or, Some, None, arith}
use Rattle.std.specs.Prelude.{slice_get}
use Rattle.std.proofs.lemmas.Option.{get_or_from_slice_get, slice_get-get_or, slice_get_within}
use Rattle.std.proofs.lemmas.List.{append-nil, drop_all, take_all, take_more}
use Rattle.std.proofs.lemmas.List.Concat.{flat_map-cons}
use Rattle.std.proofs.lemmas.List.Elements.{All-nil, All-push}
use Rattle.std.specs.List.{All, flat_map}
use Rattle.sym_file.specs.Stored.{AreStored}
use Rattle.sym_file.proofs.Loops.{left_from}

module _ {A : Type 0} (shown : A → List ℕ) (Is : A → Type 0) (xs : List A) (i : ℕ) where
  -- The items so far were appended to what was there, and the others are left.
  pub record AreAppended (start now : List ℕ) : Type 0 where
    pub text : now ++ flat_map shown (drop i xs) ≡ start ++ flat_map shown xs
    pub each : All Is (take i xs)

  pub appended_all : (start now : List ℕ) → length xs ≤ i → AreAppended start now → now ≡ start ++ flat_map shown xs
  appended_all start now past h = sym (append-nil now) ∙ ap (λ (rest : List A). now ++ flat_map shown rest) (sym (drop_all i xs past)) ∙ h.text

  pub all_stored : (start now : List ℕ) → length xs ≤ i → AreAppended start now → All Is xs
  all_stored start now past h = subst (All Is) (take_all i xs past) h.each

  pub stored_all : (start now : List ℕ) → length xs ≤ i → length xs < 2 ^ 64 → AreAppended start now → AreStored Is xs
  stored_all start now past few h = record { many = few; each = subst (All Is) (take_all i xs past) h.each }

pub appended_none : {A : Type 0} (text : A → List ℕ) (Is : A → Type 0) (xs : List A) (start : List ℕ) → AreAppended text Is xs 0 start start
appended_none text Is xs start = record { text = refl; each = All-nil Is }

pub appended_more : {A : Type 0} (text : A → List ℕ) (Is : A → Type 0) (xs : List A) (i : ℕ) (x : A) (start before now : List ℕ) → i < length xs → x ≡ get_or xs i x → now ≡ before ++ text x → Is x
    → AreAppended text Is xs i start before → AreAppended text Is xs (i + 1) start now
appended_more {A} text Is xs i x start before now within is more stored h = record {
  text =
      ap (λ (t : List ℕ). t ++ flat_map text (drop (i + 1) xs)) more ∙ append_assoc before (text x) (flat_map text (drop (i + 1) xs))
      ∙ ap (λ (t : List ℕ). before ++ t) (sym (flat_map-cons text x (drop (i + 1) xs)) ∙ ap (flat_map text) (sym (left_from xs i x within is))) ∙ h.text;
  each =
      subst (All Is) (sym (take_more xs i x within ∙ ap (λ (y : A). take i xs ++ y ∷ []) (sym is))) (All-push Is (take i xs) x h.each stored);
}

-- The same of an item that was looked up.
pub appended_at : {A : Type 0} (text : A → List ℕ) (Is : A → Type 0) (xs : List A) (i : ℕ) (x : A) (start before now : List ℕ) → slice_get xs i ≡ Some x → now ≡ before ++ text x → Is x
    → AreAppended text Is xs i start before → AreAppended text Is xs (i + 1) start now
appended_at text Is xs i x start before now there more stored h =
    appended_more text Is xs i x start before now (slice_get_within xs i x there) (sym (get_or_from_slice_get xs i x x there)) more stored h

-- An item that was looked up is there.
pub nothing_at : {A : Type 0} (xs : List A) (i : ℕ) → i < length xs → slice_get xs i ≡ None → ⊥
nothing_at xs i within none = let there = slice_get-get_or xs i (get_first xs i within) within in cc (none, there)
  where
    get_first : {A : Type 0} (ys : List A) (j : ℕ) → j < length ys → A
    get_first [] j less = absurd (omega (arith, less))
    get_first (y ∷ ys) j less = y
