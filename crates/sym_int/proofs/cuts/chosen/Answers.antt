use Rattle.std.proofs.Common.{arith}
use Rattle.std.proofs.lemmas.Int.{ints}
use Rattle.sym_int.proofs.Truths.{lt_true, le_true, gt_false, ge_false, eq_true, ne_false}
use Rattle.sym_int.proofs.Unions.{same_part}
use Rattle.sym_int.specs.Lines.{wide_on}
use Rattle.sym_int.proofs.cuts.chosen.Goals as goal

pub returns-in-Lt-clause-part : goal.returns-in-Lt-clause-part
returns-in-Lt-clause-part c = rw c.in-Lt.is (same_part _ _ c.sides.result.0 (λ x. let t = lt_true (wide_on c.args.wide.now x) c.args.bound _ (omega (arith, ints)) in (λ h. (h.0, t.0 h.1), λ h. (h.0, t.1 h.1))) c.sides.ensures.at_most)

pub returns-in-Le-clause-part : goal.returns-in-Le-clause-part
returns-in-Le-clause-part c = rw c.in-Le.is (same_part _ _ c.sides-in-Le.result.0 (λ x. let t = le_true (wide_on c.args.wide.now x) c.args.bound _ (omega (arith, ints)) in (λ h. (h.0, t.0 h.1), λ h. (h.0, t.1 h.1))) c.sides-in-Le.ensures.at_most)

pub returns-in-Gt-clause-part : goal.returns-in-Gt-clause-part
returns-in-Gt-clause-part c = rw c.in-Gt.is (same_part _ _ c.sides-in-Gt.result.0 (λ x. let t = gt_false (wide_on c.args.wide.now x) c.args.bound _ (omega (arith, ints)) in (λ h. (h.0, t.0 h.1), λ h. (h.0, t.1 h.1))) c.sides-in-Gt.ensures.at_most)

pub returns-in-Ge-clause-part : goal.returns-in-Ge-clause-part
returns-in-Ge-clause-part c = rw c.in-Ge.is (same_part _ _ c.sides-in-Ge.result.0 (λ x. let t = ge_false (wide_on c.args.wide.now x) c.args.bound _ (omega (arith, ints)) in (λ h. (h.0, t.0 h.1), λ h. (h.0, t.1 h.1))) c.sides-in-Ge.ensures.at_most)

pub returns-in-Eq-clause-part : goal.returns-in-Eq-clause-part
returns-in-Eq-clause-part c = rw c.in-Eq.is (same_part _ _ c.between.result (λ x. let t = eq_true (wide_on c.args.wide.now x) c.args.bound in (λ h. (h.0, t.0 (omega (arith, ints), omega (arith, ints))), λ h. let p = t.1 h.1 in (h.0, (omega (arith, ints, p.0), omega (arith, ints, p.1))))) c.between.ensures)

pub returns-in-Ne-clause-part : goal.returns-in-Ne-clause-part
returns-in-Ne-clause-part c = rw c.in-Ne.is (same_part _ _ c.between-in-Ne.result (λ x. let t = ne_false (wide_on c.args.wide.now x) c.args.bound in (λ h. (h.0, t.0 (omega (arith, ints), omega (arith, ints))), λ h. let p = t.1 h.1 in (h.0, (omega (arith, ints, p.0), omega (arith, ints, p.1))))) c.between-in-Ne.ensures)
