-- Sets of labels and their sums of powers of 2, label after label.
use Rattle.std.proofs.Common.{◌≡◌, ◌≢◌, ℕ, ◌+◌, ◌*◌, ◌/◌, ◌%◌, ◌^◌, ◌<◌, ◌≤◌, ◌==◌, Bool, true, false, cond, ◌||◌, nat_lt, inl, inr, refl, sym, ◌∙◌, ap, arith, Some}
use Rattle.std.proofs.lemmas.Bool.{cases_eq, cases_lt, eq-eqb, eqb-true, false_from_ne_true, le-ltb, lt-ltb}
use Rattle.std.proofs.lemmas.Nat.Bits.{bit_at-lt, bit_at_above, bit_at_set_other, bit_at_set_same, same_from_bits, shr_and_one}
use Rattle.std.specs.Prelude.{◌↔◌, IsTrue}
use Rattle.std.specs.Int.{bit_at}
use Rattle.std.specs.Int.Bits.{bit_and}
use Rattle.std.specs.Int.RustNames.{bit_or}
use mir.Syntax.{w32}
use Rattle.sym_enum.specs.Labels.{IsOnlyLabel, has_label}
use Rattle.sym_enum.specs.declared.label_set.LabelSet.{LabelSet}
use Rattle.sym_file.specs.Making.{set_of}
use Rattle.sym_file.proofs.Made.{set_again}

-- The bits of the labels below k.
abbrev pub AreBitsBelow : ℕ → ℕ → ℕ → Type 0
AreBitsBelow n k m = (l : ℕ) → bit_at m l ≡ cond (nat_lt l k) (bit_at n l) 0

below_one_more : (l k : ℕ) → l ≢ k → nat_lt l (k + 1) ≡ nat_lt l k
below_one_more l k apart = elim (cases_lt l k) [
  | inl below ↦ lt-ltb l (k + 1) (omega (arith, below)) ∙ sym (lt-ltb l k below)
  | inr above ↦ le-ltb l (k + 1) (let more : k + 1 ≤ l = omega (arith, above, apart) in more) ∙ sym (le-ltb l k above)
]

zero_bit : (n k : ℕ) → bit_at n k == 1 ≡ false → bit_at n k ≡ 0
zero_bit n k e = let small = bit_at-lt n k in let other : bit_at n k ≢ 1 = λ h. let f = eq-eqb (bit_at n k) 1 h in cc (e, f) in omega (arith, small, other)

pub no_bits : (n : ℕ) → AreBitsBelow n 0 0
no_bits n l = bit_at_above 0 0 l (omega arith) (omega arith) ∙ sym (ap (λ (b : Bool). cond b (bit_at n l) 0) (le-ltb l 0 (omega arith)))

pub bit_added : (n k m : ℕ) → k < 32 → AreBitsBelow n k m → (bit_at n k == 1) ≡ true → AreBitsBelow n (k + 1) (bit_or m (1 * 2 ^ k % 2 ^ 32))
bit_added n k m within h is l = elim (cases_eq l k) [
  | inl same ↦
      ap (bit_at (bit_or m (1 * 2 ^ k % 2 ^ 32))) same ∙ bit_at_set_same w32 m k within ∙ sym (eqb-true (bit_at n k) 1 is) ∙ ap (bit_at n) (sym same)
      ∙ sym (ap (λ (b : Bool). cond b (bit_at n l) 0) (lt-ltb l (k + 1) (omega (arith, same))))
  | inr apart ↦
      bit_at_set_other w32 m k within l apart ∙ h l ∙ sym (ap (λ (b : Bool). cond b (bit_at n l) 0) (below_one_more l k apart))
]

pub bit_kept : (n k m : ℕ) → AreBitsBelow n k m → (bit_at n k == 1) ≡ false → AreBitsBelow n (k + 1) m
bit_kept n k m h is l = elim (cases_eq l k) [
  | inl same ↦
      h l ∙ ap (λ (b : Bool). cond b (bit_at n l) 0) (le-ltb l k (omega (arith, same))) ∙ sym (zero_bit n k is) ∙ ap (bit_at n) (sym same)
      ∙ sym (ap (λ (b : Bool). cond b (bit_at n l) 0) (lt-ltb l (k + 1) (omega (arith, same))))
  | inr apart ↦ h l ∙ sym (ap (λ (b : Bool). cond b (bit_at n l) 0) (below_one_more l k apart))
]

pub bits_whole : (n k m : ℕ) → n < 2 ^ 32 → 32 ≤ k → AreBitsBelow n k m → m ≡ n
bits_whole n k m small past h = same_from_bits m n (λ l. elim (cases_lt l k) [
  | inl below ↦ h l ∙ ap (λ (b : Bool). cond b (bit_at n l) 0) (lt-ltb l k below)
  | inr above ↦ h l ∙ ap (λ (b : Bool). cond b (bit_at n l) 0) (le-ltb l k above) ∙ sym (bit_at_above n 32 l small (omega (arith, above, past)))
])

-- ---- a set of the labels below k
abbrev pub HasLabelsBelow : ℕ → ℕ → LabelSet → Type 0
HasLabelsBelow n k set = AreBitsBelow n k set.bits

-- The test of a label's bit.
pub present : (n k : ℕ) → bit_and (n / 2 ^ k) 1 ≡ 1 → (bit_at n k == 1) ≡ true
present n k e = eq-eqb (bit_at n k) 1 (sym (shr_and_one n k) ∙ e)

pub absent : (n k : ℕ) → (bit_and (n / 2 ^ k) 1 ≡ 1 → ⊥) → (bit_at n k == 1) ≡ false
absent n k none = false_from_ne_true (bit_at n k == 1) (λ e. none (shr_and_one n k ∙ eqb-true (bit_at n k) 1 e))

pub no_labels : (n : ℕ) (one rest : LabelSet) → IsOnlyLabel one 0 → ((other : ℕ) → IsTrue (has_label rest other) ↔ (IsTrue (has_label one other) × (other ≢ 0))) → HasLabelsBelow n 0 rest
unfolding has_label
no_labels n one rest only h l =
    let none : (bit_at rest.bits l == 1) ≡ false = not_there (bit_at rest.bits l == 1) (λ e. let both = (h l).0 e in both.1 ((only l).0 both.0)) in
    zero_bit rest.bits l none ∙ sym (ap (λ (b : Bool). cond b (bit_at n l) 0) (le-ltb l 0 (omega arith)))
  where
    not_there : (b : Bool) → (b ≡ true → ⊥) → b ≡ false
    not_there true h = absurd (h refl)
    not_there false h = refl

pub label_added : (n k : ℕ) (set one now : LabelSet) → HasLabelsBelow n k set → IsOnlyLabel one k → ((l : ℕ) → has_label now l ≡ (has_label set l || has_label one l)) → (bit_at n k == 1) ≡ true → HasLabelsBelow n (k + 1) now
unfolding has_label
label_added n k set one now h only union is l = elim (cases_eq l k) [
  | inl same ↦
      let there : (bit_at one.bits l == 1) ≡ true = (only l).1 same in
      let both : (bit_at now.bits l == 1) ≡ true = union l ∙ ap (λ (b : Bool). (bit_at set.bits l == 1) || b) there ∙ or_true (bit_at set.bits l == 1) in
      eqb-true (bit_at now.bits l) 1 both ∙ sym (eqb-true (bit_at n k) 1 is) ∙ ap (bit_at n) (sym same) ∙ sym (ap (λ (b : Bool). cond b (bit_at n l) 0) (lt-ltb l (k + 1) (omega (arith, same))))
  | inr apart ↦
      let absent : (bit_at one.bits l == 1) ≡ false = not_there (bit_at one.bits l == 1) (λ e. apart ((only l).0 e)) in
      let either : (bit_at now.bits l == 1) ≡ (bit_at set.bits l == 1) = union l ∙ ap (λ (b : Bool). (bit_at set.bits l == 1) || b) absent ∙ or_false (bit_at set.bits l == 1) in
      same_bit_of (bit_at now.bits l) (bit_at set.bits l) (bit_at-lt now.bits l) (bit_at-lt set.bits l) either ∙ h l ∙ sym (ap (λ (b : Bool). cond b (bit_at n l) 0) (below_one_more l k apart))
]
  where
    or_true : (b : Bool) → (b || true) ≡ true
    or_true true = refl
    or_true false = refl

    or_false : (b : Bool) → (b || false) ≡ b
    or_false true = refl
    or_false false = refl

    not_there : (b : Bool) → (b ≡ true → ⊥) → b ≡ false
    not_there true h = absurd (h refl)
    not_there false h = refl

    same_bit_of : (x y : ℕ) → x < 2 → y < 2 → (x == 1) ≡ (y == 1) → x ≡ y
    same_bit_of x y a b e = elim (cases_eq x 1) [
      | inl is ↦ is ∙ sym (eqb-true y 1 (sym e ∙ eq-eqb x 1 is))
      | inr apart ↦
          let other : y ≢ 1 = λ h. apart (eqb-true x 1 (e ∙ eq-eqb y 1 h)) in omega (arith, a, b, apart, other)
    ]

pub set_whole : (n k : ℕ) (set : LabelSet) → n < 2 ^ 32 → 32 ≤ k → HasLabelsBelow n k set → Some set ≡ set_of n
set_whole n k set small past h = sym (ap set_of (sym (bits_whole n k set.bits small past h)) ∙ set_again set)
