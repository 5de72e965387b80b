-- The text that bytes begin with, and the digits that they go on with.
use Rattle.std.proofs.Common.{◌≡◌, ℕ, suc, ◌+◌, ◌-◌, ◌*◌, ◌^◌, ◌<◌, ◌≤◌, Bool, true, false, ◌==◌, if◌then◌else◌, List, ◌∷◌, ◌++◌, length, take, drop, Option, Some, None, refl, sym, ap, subst, ◌∙◌, arith, add-one, drop-cons, get_or}
use Rattle.std.proofs.lemmas.Grind.{pow_more}
use Rattle.std.proofs.Math.Nat.{pow-le-pow_right}
use Rattle.std.proofs.lemmas.List.{drop_all, length-append, length-drop, take-append-drop, take_all, take_at}
use Rattle.std.specs.Char.{is_ascii_digit}
use Rattle.sym_file.specs.Reading.{after, digits_at, is_digit}
use Rattle.sym_file.proofs.Codecs.{Ends, after_again, after_takes}
use Rattle.sym_file.proofs.NumberTexts.{digits_end}

none_of : {A : Type 0} (o : Option A) → ((x : A) → o ≡ Some x → ⊥) → o ≡ None
none_of (Some x) h = absurd (h x refl)
none_of None h = refl

pub after_short : (text bytes : List ℕ) → length bytes < length text → after text bytes ≡ None
after_short text bytes less = none_of (after text bytes) (λ rest e.
    let count : length bytes ≡ length text + length rest = ap length (after_takes text bytes rest e) ∙ length-append text rest in
    omega (arith, less, count))

pub after_split : (text bytes front rest : List ℕ) → front ≡ take (length text) bytes → rest ≡ drop (length text) bytes → front ≡ text → after text bytes ≡ Some rest
after_split text bytes front rest f r same =
    let whole : bytes ≡ text ++ rest = sym (take-append-drop (length text) bytes) ∙ ap (λ (bs : List ℕ). bs ++ drop (length text) bytes) (sym f ∙ same) ∙ ap (λ (bs : List ℕ). text ++ bs) (sym r) in
    ap (after text) whole ∙ after_again text rest

pub after_differs : (text bytes front : List ℕ) → front ≡ take (length text) bytes → (front ≡ text → ⊥) → after text bytes ≡ None
after_differs text bytes front f apart = none_of (after text bytes) (λ rest e.
    apart (f ∙ ap (take (length text)) (after_takes text bytes rest e) ∙ take_at text rest (length text) refl))

-- ---- digits
pub digit_of : (b : ℕ) → is_ascii_digit b ≡ true → is_digit b ≡ true
digit_of b e = e

pub not_digit_of : (b : ℕ) → is_ascii_digit b ≡ false → is_digit b ≡ false
not_digit_of b e = e

pub high_digit : (b : ℕ) → is_ascii_digit b ≡ true → b ≤ 57
high_digit b e = let digit = digit_of b e in grind (arith, digit)

pub left_byte : (bytes : List ℕ) (i : ℕ) → i < length bytes → drop i bytes ≡ get_or bytes i 0 ∷ drop (i + 1) bytes
left_byte bytes i within = rw add-one (drop-cons bytes i 0 within)

pub whole_rest : (bytes : List ℕ) (i : ℕ) → take (length bytes - i) (drop i bytes) ≡ drop i bytes
whole_rest bytes i = take_all (length bytes - i) (drop i bytes) (let count = length-drop i bytes in omega (arith, count))

pub ends_before : (bytes : List ℕ) (i : ℕ) → i < length bytes → is_digit (get_or bytes i 0) ≡ false → Ends (drop i bytes)
ends_before bytes i within other = subst Ends (sym (left_byte bytes i within)) other

pub ends_at_end : (bytes : List ℕ) (i : ℕ) → length bytes ≤ i → Ends (drop i bytes)
ends_at_end bytes i past = subst Ends (sym (drop_all i bytes past)) tt

pub below_37 : (i n : ℕ) → i + 1 ≤ 37 → n < 10 ^ (i + 1) → n < 10 ^ 37
below_37 i n few small =
    let more : 10 ^ (i + 1) ≤ 10 ^ 37 = pow-le-pow_right {n = 10} (omega arith) {i = i + 1} {j = 37} few in
    omega (arith, small, more)

module _ (first : ℕ) (bytes : List ℕ) where
  -- The digits so far, and what is still read.
  pub record AreDigits (index number : ℕ) : Type 0 where
    pub few : index ≤ 37
    pub within : index ≤ length bytes
    pub small : number < 10 ^ (index + 1)
    pub whole : digits_at (37 - index) number (drop index bytes) ≡ digits_at 37 first bytes

  pub no_digits : first < 10 → AreDigits 0 first
  no_digits small = record { few = omega arith; within = omega arith; small = omega (arith, small); whole = refl }

  module _ (index number b : ℕ) (there : drop index bytes ≡ b ∷ drop (index + 1) bytes) (digit : is_digit b ≡ true) (h : AreDigits index number) where
    pub digit_more : index + 1 ≤ 37 → index < length bytes → AreDigits (index + 1) (10 * number + (b - 48))
    unfolding digits_at
    digit_more few within =
        let room : 37 - index ≡ suc (37 - (index + 1)) = omega (arith, few) in
        let low : 48 ≤ b = grind (arith, digit) in
        let high : b ≤ 57 = grind (arith, digit) in
        let big : 10 ^ (index + 1 + 1) ≡ 10 ^ (index + 1) * 10 = pow_more 10 (index + 1) in
        let small = h.small in
        let one : digits_at (37 - index) number (drop index bytes) ≡ digits_at (37 - (index + 1)) (10 * number + (b - 48)) (drop (index + 1) bytes) =
        rw (room, there, digit) refl in
        record {
          few = few;
          within = omega (arith, within);
          small = omega (arith, small, big, low, high);
          whole = sym one ∙ h.whole;
        }

    pub digits_full : index + 1 ≡ 38 → digits_at 37 first bytes ≡ None
    unfolding digits_at
    digits_full full =
        let room : 37 - index ≡ 0 = omega (arith, full) in
        let one : digits_at (37 - index) number (drop index bytes) ≡ None = rw (room, there, digit) refl in
        sym h.whole ∙ one

  pub digits_done : (index number : ℕ) → Ends (drop index bytes) → AreDigits index number → digits_at 37 first bytes ≡ Some (number, drop index bytes)
  digits_done index number ends h = sym h.whole ∙ digits_end (37 - index) number (drop index bytes) ends

-- ---- bytes that are compared one after the other
module _ (text bytes : List ℕ) where
  -- The first bytes are those of the text, and the rest is to be compared.
  pub record IsCompared (index : ℕ) : Type 0 where
    pub within : index ≤ length text
    pub same : after (drop index text) (drop index bytes) ≡ after text bytes

  module _ (index : ℕ) (h : IsCompared index) where
    module _ (more : index < length text) (there : index < length bytes) where
      next_compared : after (drop index text) (drop index bytes) ≡ (if get_or text index 0 == get_or bytes index 0 then after (drop (index + 1) text) (drop (index + 1) bytes) else None)
      unfolding after
      next_compared = rw (left_byte text index more, left_byte bytes index there) refl

      pub compared_more : get_or text index 0 ≡ get_or bytes index 0 → IsCompared (index + 1)
      compared_more e =
          let test : (get_or text index 0 == get_or bytes index 0) ≡ true = grind (arith, e) in
          record {
            within = omega (arith, more);
            same = sym (ap (λ (b : Bool). if b then after (drop (index + 1) text) (drop (index + 1) bytes) else None) test) ∙ sym next_compared ∙ h.same;
          }

      pub compared_apart : (get_or text index 0 ≡ get_or bytes index 0 → ⊥) → after text bytes ≡ None
      compared_apart apart =
          let test : (get_or text index 0 == get_or bytes index 0) ≡ false = grind (arith, apart) in
          sym h.same ∙ next_compared ∙ ap (λ (b : Bool). if b then after (drop (index + 1) text) (drop (index + 1) bytes) else None) test

    pub compared_all : length text ≤ index → after text bytes ≡ Some (drop index bytes)
    unfolding after
    compared_all past = sym h.same ∙ ap (λ (bs : List ℕ). after bs (drop index bytes)) (drop_all index text past)
