use Rattle.std.proofs.Common.{◌≡◌, ℕ, ◌<◌, ◌^◌, ◌∙◌, ap, sym, arith}
use Rattle.std.specs.Int.{trailing_zeros}
use Rattle.sym_enum.specs.Labels.{has_label}
use Rattle.sym_enum.proofs.Bits.{set_of_pow, one_label, one_bit, lowest_of_one}
use Rattle.sym_enum.proofs.label_set.LabelSet.only.Goals as goal
use Rattle.sym_enum.proofs.label_set.LabelSet.only.Goals.{else-lowest-lt32-via-then-lowest-lt32+else-self-lowest, else-lowest-lt32-via-else-lowest-lt32}
use mir.Syntax.{w32}

pub returns-then-self-lowest : goal.returns-then-self-lowest
unfolding has_label
returns-then-self-lowest c = λ other.
    let k : ℕ = trailing_zeros w32 c.args.self.now.bits in
    set_of_pow c.args.self.now.bits k (c.if-self-lowest.true ∙ one_label k c.if-lowest-lt32.true) other

pub returns-else-lowest-lt32 : goal.returns-else-lowest-lt32
unfolding has_label
returns-else-lowest-lt32 c = λ label h.
    let n : ℕ = c.args.self.now.bits in
    let lowest : (trailing_zeros w32 n < 32) × (trailing_zeros w32 n ≡ label) = lowest_of_one n label c.args.self.now.below_32 h in
    let power : n ≡ 2 ^ trailing_zeros w32 n = one_bit n label h ∙ ap (λ (k : ℕ). 2 ^ k) (sym lowest.1) in
    elim c.else-lowest-lt32.branch [ else-lowest-lt32-via-then-lowest-lt32+else-self-lowest w ↦ w.if-self-lowest.false (power ∙ sym (one_label (trailing_zeros w32 n) lowest.0)) | else-lowest-lt32-via-else-lowest-lt32 w ↦ omega arith ]
