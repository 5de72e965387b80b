-- The first place of a list that passes a test.
use Rattle.std.proofs.Common.{◌≡◌, refl, ℕ, ◌<◌, ◌≤◌, arith, Bool, true, false, nat_lt, List, length, get_or, Some, None}
use Rattle.std.proofs.lemmas.Bool.Decides.{nat_tests}
use Rattle.std.proofs.lemmas.List.Sums.{position_or_len_is}
use Rattle.std.specs.List.{position, position_or_len}

lt-true : (m n : ℕ) → m < n → nat_lt m n ≡ true
lt-true m n h = grind (arith, nat_tests)

lt-false : (m n : ℕ) → n ≤ m → nat_lt m n ≡ false
lt-false m n h = grind (arith, nat_tests)

pub first_found : {A : Type 0} (p : A → Bool) (xs : List A) (i : ℕ) (d : A) → i < length xs
    → ((k : ℕ) → k < i → p (get_or xs k d) ≡ false) → p (get_or xs i d) ≡ true → Some i ≡ position p xs
first_found p xs i d h before here =
    let at : position_or_len p xs ≡ i = position_or_len_is p xs i d (omega arith) before (λ _. here) in
    rw (at, lt-true i (length xs) h) refl

pub none_found : {A : Type 0} (p : A → Bool) (xs : List A) (i : ℕ) (d : A) → i ≡ length xs
    → ((k : ℕ) → k < i → p (get_or xs k d) ≡ false) → None ≡ position p xs
none_found p xs i d h before =
    let at : position_or_len p xs ≡ i = position_or_len_is p xs i d (omega arith) before (λ less. absurd (omega arith)) in
    rw (at, lt-false i (length xs) (omega arith)) refl
