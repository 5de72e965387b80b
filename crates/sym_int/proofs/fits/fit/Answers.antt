use Rattle.std.proofs.Common.{arith}
use Rattle.std.proofs.lemmas.Int.{ints}
use Rattle.sym_int.proofs.Parted.{part_within}
use Rattle.sym_int.proofs.Unions.{same_part}
use Rattle.sym_int.proofs.fits.fit.Goals as goal

pub returns-in_default : goal.returns-in_default
returns-in_default c =
    let none = rw c.in_default.is at c.sides-below.ensures.above in
    let o = c.args.range.now.ordered in
    record {
      below = same_part _ _ c.sides-below.result.0 (λ x. (λ h. (h.0, omega (arith, ints)), λ h. (h.0, omega (arith, ints)))) c.sides-below.ensures.at_most;
      inside = λ x h. none x (h.0, omega (arith, ints));
      above = λ x h. none x (h.0, omega (arith, ints));
      form = tt;
    }

pub taken_inside-inside-requires : goal.taken_inside-inside-requires
taken_inside-inside-requires c =
    let r = rw c.in-Some.is at c.sides-below.ensures.above in
    part_within _ c.args.wide.now c.args.range.now c.sides-part.result.0 c.sides-part.ensures.at_most (λ x h. let p = (r x).0 h.0 in (omega (arith, ints, p.1), omega (arith, ints)))

pub returns : goal.returns
returns c =
    let r = rw c.in-Some.is at c.sides-below.ensures.above in
    let o = c.args.range.now.ordered in
    record {
      below = same_part _ _ c.sides-below.result.0 (λ x. (λ h. (h.0, omega (arith, ints)), λ h. (h.0, omega (arith, ints)))) c.sides-below.ensures.at_most;
      inside =
          rw c.taken_inside-inside.ensures.span
          (same_part _ _ c.sides-part.result.0 (λ x. (λ h. let p = (r x).0 h.0 in (p.0, (omega (arith, ints, p.1), omega (arith, ints))), λ h. ((r x).1 (h.0, omega (arith, ints)), omega (arith, ints)))) c.sides-part.ensures.at_most);
      above =
          same_part _ _ c.sides-part.result.1 (λ x. (λ h. let p = (r x).0 h.0 in (p.0, omega (arith, ints)), λ h. ((r x).1 (h.0, omega (arith, ints)), omega (arith, ints)))) c.sides-part.ensures.above;
      form = c.taken_inside-inside.ensures.form;
    }
