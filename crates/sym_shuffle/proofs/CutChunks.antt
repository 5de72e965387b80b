-- Chunks that are cut into parts of as many each.
use Rattle.std.proofs.Common.{◌≡◌, ◌∙◌, ap, sym, subst, arith, ℕ, zero, suc, ◌+◌, ◌*◌, ◌/◌, ◌%◌, ◌<◌, ◌≤◌, List, [], ◌∷◌, ◌++◌, length, drop, take, min, inl, inr}
use Rattle.std.proofs.Math.Nat.{add-mul, one-mul, suc-mul, zero-mul}
use Rattle.std.proofs.lemmas.Bool.{cases_lt}
use Rattle.std.proofs.lemmas.List.{drop-drop, length-drop, nil_from_length, take-append-drop}
use Rattle.std.proofs.lemmas.Nat.{div-add-mod', mod_below}
use Rattle.std.specs.List.{AllZip, flat_map}
use Rattle.std.specs.Prelude.{slice_index_or}

module _ {A : Type 0} (each : ℕ) where
  -- So many parts of a list, of which the last ones may be shorter.
  abbrev pub cut : ℕ → List A → List (List A)
  cut zero xs = []
  cut (suc n) xs = take each xs ∷ cut n (drop each xs)

  -- Where they are enough, they are the whole list.
  pub cut_all : (n : ℕ) (xs : List A) → length xs ≤ n * each → xs ≡ flat_map (λ part. part) (cut n xs)
  cut_all zero xs h = nil_from_length xs (omega (arith, h, zero-mul each))
  cut_all (suc n) xs h =
      sym (take-append-drop each xs)
      ∙ ap (λ (rest : List A). take each xs ++ rest) (cut_all n (drop each xs) (omega (arith, h, suc-mul n each, length-drop each xs)))

  -- What holds of the parts by their numbers.
  pub cut_each : {B : Type 0} (R : List A → B → Type 0) (ys : List B) (xs : List A) → ((n : ℕ) (d : B) → n < length ys → R (take each (drop (n * each) xs)) (slice_index_or ys n d)) → AllZip R (cut (length ys) xs) ys
  cut_each R [] xs h = tt
  cut_each R (y ∷ ys) xs h = (
    subst (λ (start : ℕ). R (take each (drop start xs)) y) (zero-mul each) (h 0 y (omega arith)),
    cut_each R ys (drop each xs)
        (λ n d lt.
        let start : suc n * each ≡ each + n * each = omega (arith, suc-mul n each) in
        subst (λ (rest : List A). R (take each rest) (slice_index_or ys n d)) (ap (λ (k : ℕ). drop k xs) start ∙ sym (drop-drop (n * each) each xs)) (h (suc n) d (omega (arith, lt)))),
  )

-- As many parts as there are calls are enough.
pub enough : (count long each : ℕ) → 0 < each → count ≡ long / each + min 1 (long % each) → long ≤ count * each
enough count long each some is =
    let q = long / each in
    let r = long % each in
    let whole : q * each + r ≡ long = div-add-mod' long each in
    let less : r < each = mod_below long each some in
    elim (cases_lt 0 r) [
      | inl h ↦
          let one : count ≡ q + 1 = omega (arith, h, is) in
          let times : count * each ≡ q * each + 1 * each = ap (λ (n : ℕ). n * each) one ∙ add-mul q 1 each in
          let once = one-mul each in
          omega arith
      | inr h ↦
          let one : count ≡ q = omega (arith, h, is) in
          let times : count * each ≡ q * each = ap (λ (n : ℕ). n * each) one in
          omega arith
    ]
