use Rattle.std.proofs.Common.{◌≡◌, ◌<◌, ◌≤◌, ◌^◌, arith}
use Rattle.std.proofs.lemmas.Bool.{both_ways}
use Rattle.sym_enum.specs.Labels.{has_label}
use Rattle.sym_enum.proofs.Bits.{no_high, no_bit, one_label, split_only, split_rest}
use Rattle.sym_enum.proofs.label_set.LabelSet.split.Goals as goal

pub returns-then-label-ge32-clause-only : goal.returns-then-label-ge32-clause-only
unfolding has_label
returns-then-label-ge32-clause-only c = λ other.
    let far : other ≡ c.args.label → 32 ≤ other = λ e. omega arith in
    let small : c.args.self.now.bits < 2 ^ 32 = c.args.self.now.below_32 in
    (λ h. absurd (both_ways _ (no_bit other) h), λ h. absurd (both_ways _ (no_high c.args.self.now.bits other small (far h.1)) h.0))

pub returns-then-label-ge32-clause-rest : goal.returns-then-label-ge32-clause-rest
unfolding has_label
returns-then-label-ge32-clause-rest c = λ other.
    let far : other ≡ c.args.label → 32 ≤ other = λ e. omega arith in
    let small : c.args.self.now.bits < 2 ^ 32 = c.args.self.now.below_32 in
    (λ h. (h, λ e. both_ways _ (no_high c.args.self.now.bits other small (far e)) h), λ h. h.0)

pub returns-clause-only : goal.returns-clause-only
unfolding has_label
returns-clause-only c = λ other. rw (one_label c.args.label (omega arith)) (split_only c.args.self.now.bits c.args.label other)

pub returns-clause-rest : goal.returns-clause-rest
unfolding has_label
returns-clause-rest c = λ other. rw (one_label c.args.label (omega arith)) (split_rest c.args.self.now.bits c.args.label other)
