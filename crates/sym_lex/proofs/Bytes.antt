-- Tests, and runs of bytes that pass one.
use Rattle.std.proofs.Common.{◌≡◌, ℕ, zero, suc, ◌+◌, ◌<◌, ◌≤◌, Bool, true, false, not, ◌&&◌, ◌==◌, nat_lt, nat_le, List, [], ◌∷◌, ◌++◌, length, take, drop, get_or, refl, arith}
use Rattle.std.proofs.lemmas.Bool.Decides.{nat_tests}
use Rattle.std.specs.List.{list_all, prefix_len}
use Rattle.std.specs.Char.{is_ascii_digit}
use Rattle.sym_base.specs.Names.{is_name_part, is_name_start, starts_name}
use Rattle.sym_lex.specs.Letters.{begins, is_backslash, is_blank, is_escaped, is_hash, is_in_line, is_line_end, is_quote}

pub by_test : {P : Type 0} (t : Bool) → (t ≡ true → P) → (t ≡ false → P) → P
by_test true passed failed = passed refl
by_test false passed failed = failed refl

pub both : (a b : Bool) → (a && b) ≡ true → (a ≡ true) × (b ≡ true)
both true b h = (refl, h)
both false b h = cc

pub join : (a b : Bool) → a ≡ true → b ≡ true → (a && b) ≡ true
join true b p q = q
join false b p q = p

pub denied : (t : Bool) → not t ≡ true → t ≡ false
denied true e = cc
denied false e = refl

pub refused : (t : Bool) → not t ≡ false → t ≡ true
refused true e = refl
refused false e = cc

pub at_most : (n m : ℕ) → nat_le n m ≡ true → n ≤ m
at_most n m e = grind (arith, nat_tests)

pub above : (n m : ℕ) → nat_le n m ≡ false → m < n
above n m e = grind (arith, nat_tests)

pub le-true : (n m : ℕ) → n ≤ m → nat_le n m ≡ true
le-true n m h = grind (arith, nat_tests)

pub le-false : (n m : ℕ) → m < n → nat_le n m ≡ false
le-false n m h = grind (arith, nat_tests)

pub lt-true : (n m : ℕ) → n < m → nat_lt n m ≡ true
lt-true n m h = grind (arith, nat_tests)

pub one-add : (n : ℕ) → 1 + n ≡ suc n
one-add n = omega arith

-- The prefix that passes is what stands before the first byte that doesn't.
pub prefix-is : (p : ℕ → Bool) (front rest : List ℕ) → list_all p front ≡ true → begins p rest ≡ false → prefix_len p (front ++ rest) ≡ length front
prefix-is p [] [] a e = refl
prefix-is p [] (b ∷ rest) a e = rw e refl
prefix-is p (b ∷ front) rest a e =
    let h = both (p b) (list_all p front) a in
    let more = prefix-is p front rest h.1 e in
    rw h.0 (omega (arith, more))

pub prefix-passes : (p : ℕ → Bool) (bytes : List ℕ) → list_all p (take (prefix_len p bytes) bytes) ≡ true
prefix-passes p [] = refl
prefix-passes p (b ∷ rest) = by_test (p b)
    (λ e. rw (e, one-add (prefix_len p rest)) (join (p b) (list_all p (take (prefix_len p rest) rest)) e (prefix-passes p rest)))
    (λ e. rw e refl)

pub prefix-ends : (p : ℕ → Bool) (bytes : List ℕ) → begins p (drop (prefix_len p bytes) bytes) ≡ false
prefix-ends p [] = refl
prefix-ends p (b ∷ rest) = by_test (p b)
    (λ e. rw (e, one-add (prefix_len p rest)) (prefix-ends p rest))
    (λ e. rw e e)

pub prefix-step : (p : ℕ → Bool) (b : ℕ) (rest : List ℕ) → p b ≡ true → prefix_len p (b ∷ rest) ≡ 1 + prefix_len p rest
prefix-step p b rest e = rw e refl

pub starts-on : (p : ℕ → Bool) (b n : ℕ) (rest : List ℕ) → p b ≡ true → begins p (take (1 + n) (b ∷ rest)) ≡ true
starts-on p b n rest e = rw (one-add n) e

pub starts-name-on : (b n : ℕ) (rest : List ℕ) → is_name_start b ≡ true → starts_name (take (1 + n) (b ∷ rest)) ≡ true
starts-name-on b n rest e = rw (one-add n) e

pub passes : (p : ℕ → Bool) (xs : List ℕ) (i d : ℕ) → i < length xs → list_all p xs ≡ true → p (get_or xs i d) ≡ true
passes p [] i d h all = absurd (omega arith)
passes p (x ∷ xs) zero d h all = (both (p x) (list_all p xs) all).0
passes p (x ∷ xs) (suc i) d h all = let k : i < length xs = omega arith in passes p xs i d k (both (p x) (list_all p xs) all).1

-- Which bytes are which.
pub start-part : (b : ℕ) → is_name_start b ≡ true → is_name_part b ≡ true
start-part b e = grind (arith, nat_tests)

pub start-blank : (b : ℕ) → is_name_start b ≡ true → is_blank b ≡ false
start-blank b e = grind (arith, nat_tests)

pub start-hash : (b : ℕ) → is_name_start b ≡ true → is_hash b ≡ false
start-hash b e = grind (arith, nat_tests)

pub digit-blank : (b : ℕ) → is_ascii_digit b ≡ true → is_blank b ≡ false
digit-blank b e = grind (arith, nat_tests)

pub digit-hash : (b : ℕ) → is_ascii_digit b ≡ true → is_hash b ≡ false
digit-hash b e = grind (arith, nat_tests)

pub digit-start : (b : ℕ) → is_ascii_digit b ≡ true → is_name_start b ≡ false
digit-start b e = grind (arith, nat_tests)

pub hash-blank : (b : ℕ) → is_hash b ≡ true → is_blank b ≡ false
hash-blank b e = grind (arith, nat_tests)

pub quote-true : (b : ℕ) → b ≡ 34 → is_quote b ≡ true
quote-true b e = rw e refl

pub quote-false : (b : ℕ) → (b ≡ 34 → ⊥) → is_quote b ≡ false
quote-false b h = grind (arith, nat_tests)

pub quote-is : (b : ℕ) → is_quote b ≡ true → b ≡ 34
quote-is b h = grind (arith, nat_tests)

pub line-true : (b : ℕ) → b ≡ 10 → is_line_end b ≡ true
line-true b e = rw e refl

pub line-false : (b : ℕ) → (b ≡ 10 → ⊥) → is_line_end b ≡ false
line-false b h = grind (arith, nat_tests)

pub backslash-true : (b : ℕ) → b ≡ 92 → is_backslash b ≡ true
backslash-true b e = rw e refl

pub backslash-false : (b : ℕ) → (b ≡ 92 → ⊥) → is_backslash b ≡ false
backslash-false b h = grind (arith, nat_tests)

pub backslash-is : (b : ℕ) → is_backslash b ≡ true → b ≡ 92
backslash-is b h = grind (arith, nat_tests)

pub unescaped : (b : ℕ) → is_quote b ≡ false → is_backslash b ≡ false → is_escaped b ≡ false
unescaped b q s = rw (q, s) refl

pub escaped-no : (b : ℕ) → is_escaped b ≡ false → (is_quote b ≡ false) × (is_backslash b ≡ false)
escaped-no b e = (grind (arith, nat_tests), grind (arith, nat_tests))

pub line-quote : (b : ℕ) → is_line_end b ≡ true → is_quote b ≡ false
line-quote b e = grind (arith, nat_tests)

pub escaped-line : (b : ℕ) → is_escaped b ≡ true → is_in_line b ≡ true
escaped-line b e = grind (arith, nat_tests)

pub eq-self : (n : ℕ) → (n == n) ≡ true
eq-self n = grind (arith, nat_tests)
