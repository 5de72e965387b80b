use Rattle.std.proofs.Common.{◌≡◌, ◌∙◌, ◌+◌, ◌*◌, ◌-◌, ◌<◌, ◌≤◌, ◌^◌, ℕ, List, Some, false, true, ap, arith, slice_index_or, sym}
use Rattle.std.proofs.Math.Facts.{Fits-of_lt}
use Rattle.std.specs.Int.{w128}
use Rattle.sym_file.specs.Reading.{is_digit}
use Rattle.sym_file.proofs.Fronts.{below_37, digit_more, digit_of, digits_done, digits_full, ends_at_end, ends_before, high_digit, left_byte, not_digit_of, whole_rest}
use Rattle.sym_file.proofs.NumberTexts.{below_more}
use Rattle.sym_file.proofs.numbers.digits.Goals.{then-digits-test+else-is_ascii_digit, else-digits-test}
use Rattle.sym_file.proofs.numbers.digits.Goals as goal

pub returns-then-index-eq-DIGITS_MAX-clause-read : goal.returns-then-index-eq-DIGITS_MAX-clause-read
returns-then-index-eq-DIGITS_MAX-clause-read c =
    let bytes : List ℕ = c.args.bytes.now in
    let b : ℕ = slice_index_or bytes c.digits.index 0 in
    let digit : is_digit b ≡ true = digit_of b (sym c.is_ascii_digit.ensures.value ∙ c.if-is_ascii_digit.true) in
    digits_full c.args.first bytes c.digits.index c.digits.number b (left_byte bytes c.digits.index c.digits-test.true) digit c.digits.invariant c.if-index-eq-DIGITS_MAX.true

pub overflow_mul-number : goal.overflow_mul-number
overflow_mul-number c =
    let few = c.digits.invariant.few in
    let apart = c.if-index-eq-DIGITS_MAX.false in
    let low : c.digits.number < 10 ^ 37 = below_37 c.digits.index c.digits.number (omega (arith, few, apart)) c.digits.invariant.small in
    let fits : 10 * c.digits.number < 2 ^ 128 = omega (arith, low) in
    Fits-of_lt {w = w128} fits

pub overflow_add-number : goal.overflow_add-number
overflow_add-number c =
    let b : ℕ = slice_index_or c.args.bytes.now c.digits.index 0 in
    let high : b ≤ 57 = high_digit b (sym c.is_ascii_digit.ensures.value ∙ c.if-is_ascii_digit.true) in
    let few = c.digits.invariant.few in
    let apart = c.if-index-eq-DIGITS_MAX.false in
    let low : c.digits.number < 10 ^ 37 = below_37 c.digits.index c.digits.number (omega (arith, few, apart)) c.digits.invariant.small in
    let fits : 10 * c.digits.number + (b - 48) < 2 ^ 128 = omega (arith, low, high) in
    Fits-of_lt {w = w128} fits

pub digits-preserved : goal.digits-preserved
digits-preserved c =
    let bytes : List ℕ = c.args.bytes.now in
    let b : ℕ = slice_index_or bytes c.digits.index 0 in
    let digit : is_digit b ≡ true = digit_of b (sym c.is_ascii_digit.ensures.value ∙ c.if-is_ascii_digit.true) in
    let few = c.digits.invariant.few in
    let apart = c.if-index-eq-DIGITS_MAX.false in
    digit_more c.args.first bytes c.digits.index c.digits.number b (left_byte bytes c.digits.index c.digits-test.true) digit c.digits.invariant (omega (arith, few, apart)) c.digits-test.true

pub returns-clause-read : goal.returns-clause-read
returns-clause-read c = elim c.digits-test.branch [
  | then-digits-test+else-is_ascii_digit w ↦
      let bytes : List ℕ = c.args.bytes.now in
      let b : ℕ = slice_index_or bytes c.digits.index 0 in
      let other : is_digit b ≡ false = not_digit_of b (sym w.is_ascii_digit.ensures.value ∙ w.if-is_ascii_digit.false) in
      digits_done c.args.first bytes c.digits.index c.digits.number (ends_before bytes c.digits.index w.digits-test.true other) c.digits.invariant
      ∙ ap (λ (bs : List ℕ). Some (c.digits.number, bs)) (sym (whole_rest bytes c.digits.index))
  | else-digits-test w ↦
      let bytes : List ℕ = c.args.bytes.now in
      digits_done c.args.first bytes c.digits.index c.digits.number (ends_at_end bytes c.digits.index w.digits-test.false) c.digits.invariant
      ∙ ap (λ (bs : List ℕ). Some (c.digits.number, bs)) (sym (whole_rest bytes c.digits.index))
]

pub returns-clause-below : goal.returns-clause-below
returns-clause-below c =
    let few = c.digits.invariant.few in
    below_more (c.digits.index + 1) c.digits.number (omega (arith, few)) c.digits.invariant.small
