use Rattle.std.proofs.Common.{ℕ, ◌<◌, ◌^◌, ◌==◌, ap, sym, ◌∙◌}
use Rattle.std.proofs.lemmas.Bool.{le-ltb}
use Rattle.std.proofs.lemmas.Nat.Bits.{shr_and_one}
use Rattle.sym_enum.specs.Labels.{has_label}
use Rattle.sym_enum.proofs.Bits.{no_high}
use Rattle.sym_enum.proofs.label_set.LabelSet.has.Goals as goal

pub returns-then-label-lt32-clause-exact : goal.returns-then-label-lt32-clause-exact
unfolding has_label
returns-then-label-lt32-clause-exact c = ap (λ (n : ℕ). n == 1) (shr_and_one c.args.self.now.bits c.args.label)

pub returns-else-label-lt32-clause-exact : goal.returns-else-label-lt32-clause-exact
unfolding has_label
returns-else-label-lt32-clause-exact c =
    let small : c.args.self.now.bits < 2 ^ 32 = c.args.self.now.below_32 in
    le-ltb c.args.label 32 c.if-label-lt32.false ∙ sym (no_high c.args.self.now.bits c.args.label small c.if-label-lt32.false)
