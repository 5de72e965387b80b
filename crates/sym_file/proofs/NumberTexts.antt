-- Numbers and words: what is read is spelled so, and what is spelled so is read.
use Rattle.std.proofs.Common.{◌≡◌, ℕ, zero, suc, ◌+◌, ◌-◌, ◌*◌, ◌/◌, ◌%◌, ◌^◌, ◌<◌, ◌≤◌, ℤ, pos, negsuc, nat_le, unsigned_abs, Bool, true, false, cond, eqb, ltb, List, [], ◌∷◌, ◌++◌, length, take, drop, Option, Some, None, refl, sym, ap, subst, ◌∙◌, append_assoc, arith, codes}
use Rattle.std.proofs.Math.Nat.{pow-le-pow_right}
use Rattle.std.proofs.lemmas.Bool.{eqb-true, false_from_ne_true, le-ltb, lt-ltb, ltb-false, ltb-true}
use Rattle.std.proofs.lemmas.Grind.{pow_more}
use Rattle.std.proofs.lemmas.Fmt.{decimal_by_steps_wide, decimal_digit, decimal_step_wide, length-decimal-le_wide}
use Rattle.std.proofs.lemmas.List.{drop_at, length-append, length-take, take-append-drop, take_at}
use Rattle.std.proofs.lemmas.Str.{IsUtf8-from_is_utf8, is_utf8-from_IsUtf8}
use Rattle.std.specs.Prelude.{IsUtf8}
use Rattle.std.specs.Fmt.{decimal, signed_decimal}
use Rattle.std.specs.Str.{is_utf8}
use Rattle.sym_base.specs.Limits.{IsNumber, num_max}
use Rattle.sym_file.specs.Reading.{◌>>=◌, after, below_at, counted_at, digits_at, int_at, is_digit, nat_at, opposite, small_at, small_of, text_of, word_at}
use Rattle.sym_file.specs.Stored.{IsStoredText}
use Rattle.sym_file.specs.Texts.{counted, word_text}
use Rattle.sym_file.proofs.Codecs.{Codec, Ends, Few, Takes, after_again, after_takes, bound, few_after, grouped_3, into, kept, kept_not, read_to, some_is}
use Rattle.sym_file.specs.Deciding.{up_to_decided}

-- ---- digits

-- A number of few digits is far below what has a decimal text.
low : (k n : ℕ) → k ≤ 39 → n < 10 ^ k → n < 10 ^ 64
low k n few small =
    let more : 10 ^ k ≤ 10 ^ 64 = pow-le-pow_right {n = 10} (omega arith) {i = k} {j = 64} (omega (arith, few)) in
    omega (arith, small, more)

pub below_more : (k n : ℕ) → k ≤ 38 → n < 10 ^ k → n < 10 ^ 38
below_more k n few small =
    let more : 10 ^ k ≤ 10 ^ 38 = pow-le-pow_right {n = 10} (omega arith) {i = k} {j = 38} few in
    omega (arith, small, more)

digit_parts : (b : ℕ) → is_digit b ≡ true → (48 ≤ b) × (b ≤ 57)
digit_parts b e = (grind arith, grind arith)

one_more : (n b k : ℕ) → 0 < n → n < 10 ^ k → k ≤ 38 → is_digit b ≡ true → decimal (10 * n + (b - 48)) ≡ decimal n ++ b ∷ []
one_more n b k some small few digit =
    let d = digit_parts b digit in
    let m : ℕ = 10 * n + (b - 48) in
    let big : 10 ^ (k + 1) ≡ 10 ^ k * 10 = pow_more 10 k in
    let below : m < 10 ^ (k + 1) = omega (arith, small, big, d.0, d.1) in
    let tens : m / 10 ≡ n = omega (arith, d.0, d.1) in
    let ones : 48 + m % 10 ≡ b = omega (arith, d.0, d.1) in
    decimal_step_wide m (omega (arith, some)) (low (k + 1) m (omega arith) below) ∙ ap (λ (t : ℕ). decimal t ++ (48 + m % 10) ∷ []) tens ∙ ap (λ (t : ℕ). decimal n ++ t ∷ []) ones

digits_takes : (room k n : ℕ) (bytes : List ℕ) (m : ℕ) (rest : List ℕ) → 0 < n → n < 10 ^ k → k + room ≤ 38 → digits_at room n bytes ≡ Some (m, rest) → decimal n ++ bytes ≡ decimal m ++ rest
unfolding digits_at
digits_takes room k n [] m rest some small few e =
    subst (λ (p : ℕ × List ℕ). decimal n ++ [] ≡ decimal p.0 ++ p.1) (some_is (n, []) (m, rest) e) refl
digits_takes zero k n (b ∷ bytes) m rest some small few e = of (is_digit b) e
  where
    of : (t : Bool) → cond t None (read_to n (b ∷ bytes)) ≡ Some (m, rest) → decimal n ++ b ∷ bytes ≡ decimal m ++ rest
    of true f = absurd cc
    of false f = subst (λ (p : ℕ × List ℕ). decimal n ++ b ∷ bytes ≡ decimal p.0 ++ p.1) (some_is (n, b ∷ bytes) (m, rest) f) refl
digits_takes (suc room) k n (b ∷ bytes) m rest some small few e = of (is_digit b) refl e (λ below. digits_takes room (k + 1) (10 * n + (b - 48)) bytes m rest (omega arith) below (omega arith))
  where
    of : (t : Bool) → is_digit b ≡ t → cond t (digits_at room (10 * n + (b - 48)) bytes) (read_to n (b ∷ bytes)) ≡ Some (m, rest)
        → (10 * n + (b - 48) < 10 ^ (k + 1) → digits_at room (10 * n + (b - 48)) bytes ≡ Some (m, rest) → decimal (10 * n + (b - 48)) ++ bytes ≡ decimal m ++ rest) → decimal n ++ b ∷ bytes ≡ decimal m ++ rest
    of true digit f later =
        let d = digit_parts b digit in
        let big : 10 ^ (k + 1) ≡ 10 ^ k * 10 = pow_more 10 k in
        let below : 10 * n + (b - 48) < 10 ^ (k + 1) = omega (arith, small, big, d.0, d.1) in
        sym (append_assoc (decimal n) (b ∷ []) bytes)
        ∙ ap (λ (ds : List ℕ). ds ++ bytes) (sym (one_more n b k some small (omega arith) digit))
        ∙ later below f
    of false digit f later = subst (λ (p : ℕ × List ℕ). decimal n ++ b ∷ bytes ≡ decimal p.0 ++ p.1) (some_is (n, b ∷ bytes) (m, rest) f) refl

digits_small : (room k n : ℕ) (bytes : List ℕ) (m : ℕ) (rest : List ℕ) → n < 10 ^ k → k + room ≤ 38 → digits_at room n bytes ≡ Some (m, rest) → m < 10 ^ 38
unfolding digits_at
digits_small room k n [] m rest small few e =
    let same : n ≡ m = ap (λ (p : ℕ × List ℕ). p.0) (some_is (n, []) (m, rest) e) in
    subst (λ (x : ℕ). x < 10 ^ 38) same (below_more k n (omega (arith, few)) small)
digits_small zero k n (b ∷ bytes) m rest small few e = of (is_digit b) e
  where
    of : (t : Bool) → cond t None (read_to n (b ∷ bytes)) ≡ Some (m, rest) → m < 10 ^ 38
    of true f = absurd cc
    of false f = subst (λ (p : ℕ × List ℕ). p.0 < 10 ^ 38) (some_is (n, b ∷ bytes) (m, rest) f) (below_more k n (omega (arith, few)) small)
digits_small (suc room) k n (b ∷ bytes) m rest small few e = of (is_digit b) refl e (λ below. digits_small room (k + 1) (10 * n + (b - 48)) bytes m rest below (omega (arith, few)))
  where
    of : (t : Bool) → is_digit b ≡ t → cond t (digits_at room (10 * n + (b - 48)) bytes) (read_to n (b ∷ bytes)) ≡ Some (m, rest)
        → (10 * n + (b - 48) < 10 ^ (k + 1) → digits_at room (10 * n + (b - 48)) bytes ≡ Some (m, rest) → m < 10 ^ 38) → m < 10 ^ 38
    of true digit f later =
        let d = digit_parts b digit in
        let big : 10 ^ (k + 1) ≡ 10 ^ k * 10 = pow_more 10 k in
        later (omega (arith, small, big, d.0, d.1)) f
    of false digit f later = subst (λ (p : ℕ × List ℕ). p.0 < 10 ^ 38) (some_is (n, b ∷ bytes) (m, rest) f) (below_more k n (omega (arith, few)) small)

pub digits_end : (room n : ℕ) (rest : List ℕ) → Ends rest → digits_at room n rest ≡ Some (n, rest)
unfolding digits_at
digits_end room n [] ends = refl
digits_end zero n (b ∷ rest) ends = rw ends refl
digits_end (suc room) n (b ∷ rest) ends = rw ends refl

-- ---- natural numbers

pub nat_takes : (bytes : List ℕ) (m : ℕ) (rest : List ℕ) → nat_at bytes ≡ Some (m, rest) → bytes ≡ decimal m ++ rest
unfolding nat_at
nat_takes [] m rest e = absurd cc
nat_takes (b ∷ bytes) m rest e = of (eqb b 48) refl e
  where
    from : (t : Bool) → is_digit b ≡ t → eqb b 48 ≡ false → cond t (digits_at 37 (b - 48) bytes) None ≡ Some (m, rest) → b ∷ bytes ≡ decimal m ++ rest
    from true digit other f =
        let d = digit_parts b digit in
        let first : decimal (b - 48) ≡ b ∷ [] = decimal_digit (b - 48) (omega (arith, d.0, d.1)) ∙ ap (λ (t : ℕ). t ∷ []) (omega (arith, d.0, d.1)) in
        let apart : 48 < b = grind (arith, d.0, other) in
        ap (λ (ds : List ℕ). ds ++ bytes) (sym first)
        ∙ digits_takes 37 1 (b - 48) bytes m rest (omega (arith, apart)) (omega (arith, d.0, d.1)) (omega arith) f
    from false digit other f = absurd cc

    of : (t : Bool) → eqb b 48 ≡ t → cond t (read_to 0 bytes) (cond (is_digit b) (digits_at 37 (b - 48) bytes) None) ≡ Some (m, rest) → b ∷ bytes ≡ decimal m ++ rest
    of true zero_digit f =
        let same : b ≡ 48 = eqb-true b 48 zero_digit in
        let read : b ∷ bytes ≡ decimal 0 ++ bytes = ap (λ (c : ℕ). c ∷ bytes) same ∙ ap (λ (ds : List ℕ). ds ++ bytes) (sym (decimal_digit 0 (omega arith))) in
        subst (λ (p : ℕ × List ℕ). b ∷ bytes ≡ decimal p.0 ++ p.1) (some_is (0, bytes) (m, rest) f) read
    of false other f = from (is_digit b) refl other f

nat_small : (bytes : List ℕ) (m : ℕ) (rest : List ℕ) → nat_at bytes ≡ Some (m, rest) → m < 10 ^ 38
unfolding nat_at
nat_small [] m rest e = absurd cc
nat_small (b ∷ bytes) m rest e = of (eqb b 48) e
  where
    from : (t : Bool) → is_digit b ≡ t → cond t (digits_at 37 (b - 48) bytes) None ≡ Some (m, rest) → m < 10 ^ 38
    from true digit f =
        let d = digit_parts b digit in
        digits_small 37 1 (b - 48) bytes m rest (omega (arith, d.0, d.1)) (omega arith) f
    from false digit f = absurd cc

    of : (t : Bool) → cond t (read_to 0 bytes) (cond (is_digit b) (digits_at 37 (b - 48) bytes) None) ≡ Some (m, rest) → m < 10 ^ 38
    of true f = subst (λ (p : ℕ × List ℕ). p.0 < 10 ^ 38) (some_is (0, bytes) (m, rest) f) (omega arith)
    of false f = from (is_digit b) refl f

-- The digits of a number are read, whatever follows them.
abbrev AreReadOn : ℕ → List ℕ → Type 0
AreReadOn m ds = (tail : List ℕ) → length ds ≤ 38 → 0 < m → nat_at (ds ++ tail) ≡ digits_at (38 - length ds) m tail

one_read : (m : ℕ) → m < 10 → AreReadOn m ((48 + m) ∷ [])
unfolding nat_at
one_read m small tail few some =
    let other : eqb (48 + m) 48 ≡ false = grind (arith, some) in
    let digit : is_digit (48 + m) ≡ true = grind (arith, small) in
    let value : 48 + m - 48 ≡ m = omega arith in
    rw (other, digit, value) refl

more_read : (m : ℕ) (ds : List ℕ) → 10 ≤ m → AreReadOn (m / 10) ds → AreReadOn m (ds ++ (48 + m % 10) ∷ [])
unfolding digits_at
more_read m ds big h tail few some =
    let d : ℕ = 48 + m % 10 in
    let many : length (ds ++ d ∷ []) ≡ length ds + 1 = length-append ds (d ∷ []) in
    let room : 38 - length ds ≡ suc (38 - length (ds ++ d ∷ [])) = omega (arith, many, few) in
    let digit : is_digit d ≡ true = grind arith in
    let value : 10 * (m / 10) + (d - 48) ≡ m = omega arith in
    ap nat_at (append_assoc ds (d ∷ []) tail)
    ∙ h (d ∷ tail) (omega (arith, many, few)) (omega (arith, big))
    ∙ rw (room, digit, value) refl

pub nat_again : (m : ℕ) (rest : List ℕ) → m < 10 ^ 38 → Ends rest → nat_at (decimal m ++ rest) ≡ Some (m, rest)
unfolding nat_at
nat_again zero rest small ends = ap nat_at (ap (λ (ds : List ℕ). ds ++ rest) (decimal_digit 0 (omega arith))) ∙ refl
nat_again (suc m) rest small ends =
    let wide : suc m < 10 ^ 64 = low 38 (suc m) (omega arith) small in
    decimal_by_steps_wide AreReadOn one_read more_read (suc m) wide rest (length-decimal-le_wide 38 (suc m) (omega arith) small wide) (omega arith)
    ∙ digits_end (38 - length (decimal (suc m))) (suc m) rest ends

pub nat_codec : Codec decimal (λ m. m < 10 ^ 38) nat_at
nat_codec = record {
  takes = λ bytes m rest few e. record { text_is = nat_takes bytes m rest e; is_so = nat_small bytes m rest e };
  again = nat_again;
}

-- A number below a limit.
pub below_codec : (limit : ℕ) → limit ≤ 10 ^ 38 → Codec decimal (λ m. m < limit) (below_at limit)
unfolding below_at
below_codec limit low_limit = record {
  takes = λ bytes m rest few e.
      let b = bound (nat_at bytes) (λ n. cond (ltb n.0 limit) (Some n) None) (m, rest) e in
      let k = kept (ltb b.0.0 limit) (Some b.0) (m, rest) b.2 in
      subst (λ (p : ℕ × List ℕ). Takes decimal (λ x. x < limit) bytes p.0 p.1) (some_is b.0 (m, rest) k.1)
      (record { text_is = nat_takes bytes b.0.0 b.0.1 b.1; is_so = ltb-true b.0.0 limit k.0 });
  again = λ m rest is ends. rw (nat_again m rest (omega (arith, is, low_limit)) ends, lt-ltb m limit is) refl;
}

-- ---- integers

minus : (bytes : List ℕ) → nat_at (45 ∷ bytes) ≡ None
unfolding nat_at
minus bytes = refl

no_number : (p : ℕ × List ℕ) → nat_at [] ≡ Some p → ⊥
unfolding nat_at
no_number p e = cc

pub no_sign : (bytes : List ℕ) (p : ℕ × List ℕ) → nat_at bytes ≡ Some p → int_at bytes ≡ Some (pos p.0, p.1)
unfolding int_at
no_sign [] p e = absurd (no_number p e)
no_sign (b ∷ bytes) p e = of (eqb b 45) refl
  where
    of : (t : Bool) → eqb b 45 ≡ t → cond t (nat_at bytes >>= λ n. opposite n.0 n.1) (nat_at (b ∷ bytes) >>= into pos) ≡ Some (pos p.0, p.1)
    of true same =
        let none : nat_at (b ∷ bytes) ≡ None = ap (λ (c : ℕ). nat_at (c ∷ bytes)) (eqb-true b 45 same) ∙ minus bytes in
        absurd (cc (none, e))
    of false other = rw e refl

pub int_takes : (bytes : List ℕ) (x : ℤ) (rest : List ℕ) → int_at bytes ≡ Some (x, rest) → bytes ≡ signed_decimal x ++ rest
unfolding int_at
int_takes [] x rest e = absurd cc
int_takes (b ∷ bytes) x rest e = of (eqb b 45) refl e
  where
    turned : (n : ℕ) (after : List ℕ) → bytes ≡ decimal n ++ after → opposite n after ≡ Some (x, rest) → 45 ∷ bytes ≡ signed_decimal x ++ rest
    turned zero after is f = absurd cc
    turned (suc n) after is f =
        subst (λ (p : ℤ × List ℕ). 45 ∷ bytes ≡ signed_decimal p.0 ++ p.1) (some_is (negsuc n, after) (x, rest) f) (ap (λ (bs : List ℕ). 45 ∷ bs) is)

    of : (t : Bool) → eqb b 45 ≡ t → cond t (nat_at bytes >>= λ n. opposite n.0 n.1) (nat_at (b ∷ bytes) >>= into pos) ≡ Some (x, rest) → b ∷ bytes ≡ signed_decimal x ++ rest
    of true same f =
        let k = bound (nat_at bytes) (λ n. opposite n.0 n.1) (x, rest) f in
        ap (λ (c : ℕ). c ∷ bytes) (eqb-true b 45 same) ∙ turned k.0.0 k.0.1 (nat_takes bytes k.0.0 k.0.1 k.1) k.2
    of false other f =
        let k = bound (nat_at (b ∷ bytes)) (into pos) (x, rest) f in
        subst (λ (p : ℤ × List ℕ). b ∷ bytes ≡ signed_decimal p.0 ++ p.1) (some_is (pos k.0.0, k.0.1) (x, rest) k.2) (nat_takes (b ∷ bytes) k.0.0 k.0.1 k.1)

int_small : (bytes : List ℕ) (x : ℤ) (rest : List ℕ) → int_at bytes ≡ Some (x, rest) → unsigned_abs x < 10 ^ 38
unfolding int_at
int_small [] x rest e = absurd cc
int_small (b ∷ bytes) x rest e = of (eqb b 45) e
  where
    turned : (n : ℕ) (after : List ℕ) → n < 10 ^ 38 → opposite n after ≡ Some (x, rest) → unsigned_abs x < 10 ^ 38
    turned zero after small f = absurd cc
    turned (suc n) after small f = subst (λ (p : ℤ × List ℕ). unsigned_abs p.0 < 10 ^ 38) (some_is (negsuc n, after) (x, rest) f) small

    of : (t : Bool) → cond t (nat_at bytes >>= λ n. opposite n.0 n.1) (nat_at (b ∷ bytes) >>= into pos) ≡ Some (x, rest) → unsigned_abs x < 10 ^ 38
    of true f =
        let k = bound (nat_at bytes) (λ n. opposite n.0 n.1) (x, rest) f in
        turned k.0.0 k.0.1 (nat_small bytes k.0.0 k.0.1 k.1) k.2
    of false f =
        let k = bound (nat_at (b ∷ bytes)) (into pos) (x, rest) f in
        subst (λ (p : ℤ × List ℕ). unsigned_abs p.0 < 10 ^ 38) (some_is (pos k.0.0, k.0.1) (x, rest) k.2) (nat_small (b ∷ bytes) k.0.0 k.0.1 k.1)

after_minus : (n : ℕ) (rest : List ℕ) → nat_at (decimal (suc n) ++ rest) ≡ Some (suc n, rest) → int_at (45 ∷ (decimal (suc n) ++ rest)) ≡ Some (negsuc n, rest)
unfolding int_at
after_minus n rest h = rw h refl

pub int_again : (x : ℤ) (rest : List ℕ) → unsigned_abs x < 10 ^ 38 → Ends rest → int_at (signed_decimal x ++ rest) ≡ Some (x, rest)
int_again (pos n) rest small ends = no_sign (decimal n ++ rest) (n, rest) (nat_again n rest small ends)
int_again (negsuc n) rest small ends = after_minus n rest (nat_again (suc n) rest small ends)

pub int_codec : Codec signed_decimal (λ x. unsigned_abs x < 10 ^ 38) int_at
int_codec = record {
  takes = λ bytes x rest few e. record { text_is = int_takes bytes x rest e; is_so = int_small bytes x rest e };
  again = int_again;
}

pub small_codec : Codec signed_decimal IsNumber small_at
unfolding small_at
small_codec = record {
  takes = λ bytes x rest few e.
      let b = bound (int_at bytes) (λ n. small_of n.0 >>= λ y. Some (y, n.1)) (x, rest) e in
      let k = bound (small_of b.0.0) (λ y. Some (y, b.0.1)) (x, rest) b.2 in
      let s = kept (nat_le (unsigned_abs b.0.0) num_max) (Some b.0.0) k.0 k.1 in
      let same : b.0.0 ≡ k.0 = some_is b.0.0 k.0 s.1 in
      subst (λ (p : ℤ × List ℕ). Takes signed_decimal IsNumber bytes p.0 p.1) (some_is (k.0, b.0.1) (x, rest) k.2)
      (record {
        text_is = int_takes bytes b.0.0 b.0.1 b.1 ∙ ap (λ (z : ℤ). signed_decimal z ++ b.0.1) same;
        is_so = subst IsNumber same ((up_to_decided (unsigned_abs b.0.0) num_max).0 s.0);
      });
  again = λ x rest is ends. rw (int_again x rest (omega (arith, is)) ends, (up_to_decided (unsigned_abs x) num_max).1 is) refl;
}

-- ---- words

abbrev after_number : ℕ → List ℕ → Option (List ℕ × List ℕ)
after_number n rest = cond (ltb (length rest) n) None (text_of (take n rest) (drop n rest))

-- A text isn't longer than it is with its count.
counted_few : (t bytes rest : List ℕ) → bytes ≡ (decimal (length t) ++ codes ":" ++ t) ++ rest → Few bytes → length t < 2 ^ 64
counted_few t bytes rest e few =
    let head : List ℕ = decimal (length t) ++ codes ":" in
    let count : length bytes ≡ length head + length t + length rest = ap length e ∙ length-append (head ++ t) rest ∙ ap (λ (n : ℕ). n + length rest) (length-append head t) in
    omega (arith, few, count)

counted_takes : (bytes t rest : List ℕ) → Few bytes → counted_at bytes ≡ Some (t, rest) → Takes counted IsStoredText bytes t rest
unfolding counted_at counted
counted_takes bytes t rest few e =
    let a = bound (nat_at bytes) (λ n. after (codes ":") n.1 >>= λ r. after_number n.0 r) (t, rest) e in
    let b = bound (after (codes ":") a.0.1) (λ r. after_number a.0.0 r) (t, rest) a.2 in
    let g = kept_not (ltb (length b.0) a.0.0) (text_of (take a.0.0 b.0) (drop a.0.0 b.0)) (t, rest) b.2 in
    let u = kept (is_utf8 (take a.0.0 b.0)) (Some (take a.0.0 b.0, drop a.0.0 b.0)) (t, rest) g.1 in
    let long : a.0.0 ≤ length b.0 = ltb-false _ _ g.0 in
    let len : length (take a.0.0 b.0) ≡ a.0.0 = omega (arith, length-take a.0.0 b.0, long) in
    let read : bytes ≡ decimal (length (take a.0.0 b.0)) ++ (codes ":" ++ (take a.0.0 b.0 ++ drop a.0.0 b.0)) =
    nat_takes bytes a.0.0 a.0.1 a.1
    ∙ ap (λ (bs : List ℕ). decimal a.0.0 ++ bs) (after_takes (codes ":") a.0.1 b.0 b.1)
    ∙ ap (λ (bs : List ℕ). decimal a.0.0 ++ (codes ":" ++ bs)) (sym (take-append-drop a.0.0 b.0))
    ∙ ap (λ (k : ℕ). decimal k ++ (codes ":" ++ (take a.0.0 b.0 ++ drop a.0.0 b.0))) (sym len) in
    let text : bytes ≡ (decimal (length (take a.0.0 b.0)) ++ codes ":" ++ take a.0.0 b.0) ++ drop a.0.0 b.0 =
    read ∙ sym (grouped_3 (decimal (length (take a.0.0 b.0))) (codes ":") (take a.0.0 b.0) (drop a.0.0 b.0)) in
    subst (λ (p : List ℕ × List ℕ). Takes counted IsStoredText bytes p.0 p.1) (some_is (take a.0.0 b.0, drop a.0.0 b.0) (t, rest) u.1)
    (record {
      text_is = text;
      is_so = record { text = IsUtf8-from_is_utf8 (take a.0.0 b.0) u.0; many = counted_few (take a.0.0 b.0) bytes (drop a.0.0 b.0) text few };
    })

-- ---- what is read is so, in pieces
module _ (bytes : List ℕ) (n : ℕ) (r after_colon front back : List ℕ) (number : nat_at bytes ≡ Some (n, r)) (colon : after (codes ":") r ≡ Some after_colon) (few : n ≤ length after_colon)
    (is_front : front ≡ take n after_colon) (is_back : back ≡ drop n after_colon) where
  pub counted_found : IsUtf8 front → counted_at bytes ≡ Some (front, back)
  unfolding counted_at
  counted_found utf =
      let long : ltb (length after_colon) n ≡ false = le-ltb _ _ few in
      let text : is_utf8 (take n after_colon) ≡ true = subst (λ (t : List ℕ). is_utf8 t ≡ true) is_front (is_utf8-from_IsUtf8 front utf) in
      let read : counted_at bytes ≡ Some (take n after_colon, drop n after_colon) = rw (number, colon, long, text) refl in
      read ∙ ap (λ (t : List ℕ). Some (t, drop n after_colon)) (sym is_front) ∙ ap (λ (t : List ℕ). Some (front, t)) (sym is_back)

  pub counted_none : (IsUtf8 front → ⊥) → counted_at bytes ≡ None
  unfolding counted_at
  counted_none not_utf =
      let long : ltb (length after_colon) n ≡ false = le-ltb _ _ few in
      let text : is_utf8 (take n after_colon) ≡ false =
      false_from_ne_true (is_utf8 (take n after_colon)) (λ e. not_utf (IsUtf8-from_is_utf8 front (subst (λ (t : List ℕ). is_utf8 t ≡ true) (sym is_front) e))) in
      rw (number, colon, long, text) refl

counted_again : (t rest : List ℕ) → IsStoredText t → counted_at (counted t ++ rest) ≡ Some (t, rest)
unfolding counted_at counted
counted_again t rest is =
    let long : ltb (length (t ++ rest)) (length t) ≡ false = le-ltb _ _ (omega (arith, length-append t rest)) in
    ap counted_at (grouped_3 (decimal (length t)) (codes ":") t rest)
    ∙ rw (nat_again (length t) (codes ":" ++ (t ++ rest)) (omega (arith, is.many)) refl, after_again (codes ":") (t ++ rest), long, take_at t rest (length t) refl, drop_at t rest (length t) refl, is_utf8-from_IsUtf8 t is.text) refl

pub counted_codec : Codec counted IsStoredText counted_at
counted_codec = record { takes = counted_takes; again = λ t rest is ends. counted_again t rest is }

pub word_codec : Codec word_text IsStoredText word_at
unfolding word_at
word_codec = record {
  takes = λ bytes t rest few e.
      let b = bound (after (codes "w") bytes) counted_at (t, rest) e in
      let c = counted_codec.takes b.0 t rest (few_after (codes "w") bytes b.0 b.1 few) b.2 in
      record { text_is = after_takes (codes "w") bytes b.0 b.1 ∙ ap (λ (bs : List ℕ). codes "w" ++ bs) c.text_is; is_so = c.is_so };
  again = λ t rest is ends. ap (λ (r : Option (List ℕ)). r >>= counted_at) (after_again (codes "w") (counted t ++ rest)) ∙ counted_codec.again t rest is ends;
}
