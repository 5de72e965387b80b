use Rattle.std.proofs.Common.{not, refl, sym, ap, ◌∙◌, arith}
use Rattle.std.proofs.lemmas.Int.{ints}
use Rattle.sym_int.proofs.Parted.{after_points, all_around, after_tells, after_order, not_twice}
use Rattle.sym_int.specs.declared.pieces.Cut.{Cut}
use Rattle.sym_int.proofs.cuts.around.Goals as goal

pub returns-clause-cover : goal.returns-clause-cover
returns-clause-cover c =
    let within = rw c.in-Some.is at c.requires in
    all_around c.args.span.now c.in-Some.part c.before-first.result.span _ within.0 within.1 c.before-first.ensures.lo c.before-first.ensures.hi (after_points c.args.span.now c.in-Some.part (not c.args.truth) c.after-after.result c.after-after.ensures)

pub returns-clause-third : goal.returns-clause-third
returns-clause-third c = rw c.in-Some.is (after_tells c.args.span.now c.in-Some.part c.args.truth c.after-after.result c.after-after.ensures)

pub returns-clause-order : goal.returns-clause-order
returns-clause-order c =
    let inside : Cut = record { span = c.in-Some.part; truth = c.args.truth } in
    after_order c.args.span.now c.in-Some.part c.args.truth c.before-first.result inside c.after-after.result (omega (arith, ints, c.before-first.ensures.hi)) (sym (not_twice c.args.truth) ∙ ap not (sym c.before-first.ensures.truth)) refl refl c.after-after.ensures
