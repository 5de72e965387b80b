use Rattle.std.proofs.Common.{◌∙◌, ◌<◌, ◌^◌, ℤ, Some, ap, arith, sym}
use Rattle.std.specs.Int.{w128}
use Rattle.std.proofs.lemmas.Int.{to_z_pos}
use Rattle.sym_file.proofs.NumberTexts.{no_sign}
use Rattle.sym_file.proofs.numbers.int.Goals as goal

pub returns-in_ok-number-in_default : goal.returns-in_ok-number-in_default
returns-in_ok-number-in_default c =
    let n = c.in_ok-number-in_default.number in
    let rest = c.in_ok-number-in_default.rest.now in
    let below = c.in_ok-number-in_default.ensures.below in
    let small : n < 2 ^ 127 = omega (arith, below) in
    no_sign c.args.bytes.now (n, rest) c.in_ok-number-in_default.ensures.read ∙ ap (λ (x : ℤ). Some (x, rest)) (sym (to_z_pos w128 n small))
