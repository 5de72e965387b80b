use Rattle.std.proofs.Common.{arith, neg_ℤ}
use Rattle.std.proofs.lemmas.Int.{ints}
use Rattle.sym_int.proofs.Quotients.{rising_at, falling_at}
use Rattle.sym_int.proofs.Unions.{same_part, behind, not_behind}
use Rattle.sym_int.proofs.side.line_sides.Goals as goal

pub returns-then-line-gt0-clause-at_most : goal.returns-then-line-gt0-clause-at_most
returns-then-line-gt0-clause-at_most c = same_part _ _ c.split_at.result.0 (λ x.
    let e = rising_at c.args.line.now.a c.args.line.now.b c.args.limit c.floor_quotient-last.result x _ _ _ (omega (arith, ints)) (omega (arith, ints)) (omega (arith, ints)) (c.floor_quotient-last.ensures.exact x) in
    (λ h. (h.0, e.0 h.1), λ h. (h.0, e.1 h.1))) c.split_at.ensures.before

pub returns-then-line-gt0-clause-above : goal.returns-then-line-gt0-clause-above
returns-then-line-gt0-clause-above c = same_part _ _ c.split_at.result.1 (λ x.
    let e = behind _ _ _ _ (rising_at c.args.line.now.a c.args.line.now.b c.args.limit c.floor_quotient-last.result x _ _ _ (omega (arith, ints)) (omega (arith, ints)) (omega (arith, ints)) (c.floor_quotient-last.ensures.exact x)) in
    (λ h. (h.0, e.0 h.1), λ h. (h.0, e.1 h.1))) c.split_at.ensures.after

pub returns-clause-above : goal.returns-clause-above
returns-clause-above c = same_part _ _ c.split_at-above.result.0 (λ x.
    let e = falling_at c.args.line.now.a c.args.line.now.b c.args.limit c.floor_quotient-last-2.result x _ _ _ (omega (arith, ints)) (omega (arith, ints)) (omega (arith, ints)) (c.floor_quotient-last-2.ensures.exact (neg_ℤ x)) in
    (λ h. (h.0, e.0 h.1), λ h. (h.0, e.1 h.1))) c.split_at-above.ensures.before

pub returns-clause-at_most : goal.returns-clause-at_most
returns-clause-at_most c = same_part _ _ c.split_at-above.result.1 (λ x.
    let e = falling_at c.args.line.now.a c.args.line.now.b c.args.limit c.floor_quotient-last-2.result x _ _ _ (omega (arith, ints)) (omega (arith, ints)) (omega (arith, ints)) (c.floor_quotient-last-2.ensures.exact (neg_ℤ x)) in
    let f = not_behind _ _ _ _ e in
    (λ h. (h.0, f.0 h.1), λ h. (h.0, f.1 h.1))) c.split_at-above.ensures.after
