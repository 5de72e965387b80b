use Rattle.std.proofs.Common.{arith, lit<, refl, ℤ}
use Rattle.sym_base.specs.Limits.{num_max}
use Rattle.sym_base.specs.States.{number_at}
use Rattle.sym_int.proofs.Products.{fits, shown, shown_64, shown_product, shown_line, product_size, line_size, product_apart, line_of_line}
use Rattle.sym_int.specs.Bounds.{slope_max, offset_max}
use Rattle.sym_int.specs.Lines.{offset}
use Rattle.sym_int.proofs.form.IntForm.composed.Goals as goal

pub returns-in-Const-clause-value : goal.returns-in-Const-clause-value
returns-in-Const-clause-value c = λ state.
    let n : ℤ = c.in-Const.number.value in
    rw (shown_64 n num_max c.in-Const.number.value_in (lit< tt), shown_line c.args.a n c.args.b slope_max num_max offset_max c.requires.a_in c.in-Const.number.value_in c.requires.b_in (lit< tt) (lit< tt) (lit< tt), c.in-Const.is) refl

pub returns-in-Const-clause-points : goal.returns-in-Const-clause-points
returns-in-Const-clause-points c = λ x.
    let n : ℤ = c.in-Const.number.value in
    rw (shown_64 n num_max c.in-Const.number.value_in (lit< tt), shown_line c.args.a n c.args.b slope_max num_max offset_max c.requires.a_in c.in-Const.number.value_in c.requires.b_in (lit< tt) (lit< tt) (lit< tt), c.in-Const.is) refl

pub invariant_of-result : goal.invariant_of-result
invariant_of-result c =
    let n : ℤ = c.in-Const.number.value in
    record {
      value_in =
          rw (shown_64 n num_max c.in-Const.number.value_in (lit< tt), shown_line c.args.a n c.args.b slope_max num_max offset_max c.requires.a_in c.in-Const.number.value_in c.requires.b_in (lit< tt) (lit< tt) (lit< tt))
          (omega (arith, line_size c.args.a n c.args.b slope_max num_max offset_max c.requires.a_in c.in-Const.number.value_in c.requires.b_in));
    }

pub overflow_mul-result-in-Line : goal.overflow_mul-result-in-Line
overflow_mul-result-in-Line c =
    let d : ℤ = c.in-Line.line.a in
    rw (shown_64 d slope_max c.in-Line.line.a_in (lit< tt), shown c.args.a slope_max c.requires.a_in (lit< tt), shown d slope_max c.in-Line.line.a_in (lit< tt))
    (fits _ _ (product_size c.args.a d slope_max slope_max c.requires.a_in c.in-Line.line.a_in) (lit< tt))

pub overflow_mul-result-in-Line-2 : goal.overflow_mul-result-in-Line-2
overflow_mul-result-in-Line-2 c =
    let d : ℤ = offset c.in-Line.line in
    rw (c.offset.ensures, shown c.args.a slope_max c.requires.a_in (lit< tt), shown d offset_max c.in-Line.line.b_in (lit< tt))
    (fits _ _ (product_size c.args.a d slope_max offset_max c.requires.a_in c.in-Line.line.b_in) (lit< tt))

pub overflow_add-result-in-Line : goal.overflow_add-result-in-Line
overflow_add-result-in-Line c =
    let d : ℤ = offset c.in-Line.line in
    rw (c.offset.ensures, shown_product c.args.a d slope_max offset_max c.requires.a_in c.in-Line.line.b_in (lit< tt) (lit< tt) (lit< tt), shown c.args.b offset_max c.requires.b_in (lit< tt))
    (fits _ _ (line_size c.args.a d c.args.b slope_max offset_max offset_max c.requires.a_in c.in-Line.line.b_in c.requires.b_in) (lit< tt))

pub invariant_of-result-in-Line : goal.invariant_of-result-in-Line
invariant_of-result-in-Line c =
    let d : ℤ = c.in-Line.line.a in
    let e : ℤ = offset c.in-Line.line in
    let slope = shown_product c.args.a d slope_max slope_max c.requires.a_in c.in-Line.line.a_in (lit< tt) (lit< tt) (lit< tt) in
    let whole = shown_line c.args.a e c.args.b slope_max offset_max offset_max c.requires.a_in c.in-Line.line.b_in c.requires.b_in (lit< tt) (lit< tt) (lit< tt) in
    let own = shown_64 d slope_max c.in-Line.line.a_in (lit< tt) in
    record {
      rises_or_falls = rw (own, slope) (product_apart c.args.a d c.requires.rises_or_falls c.in-Line.line.rises_or_falls);
      a_in = rw (own, slope) (omega (arith, product_size c.args.a d slope_max slope_max c.requires.a_in c.in-Line.line.a_in));
      b_in = rw (c.offset.ensures, whole) (omega (arith, line_size c.args.a e c.args.b slope_max offset_max offset_max c.requires.a_in c.in-Line.line.b_in c.requires.b_in));
    }

pub returns-in-Line-clause-value : goal.returns-in-Line-clause-value
returns-in-Line-clause-value c = λ state.
    let d : ℤ = c.in-Line.line.a in
    let e : ℤ = offset c.in-Line.line in
    let slope = shown_product c.args.a d slope_max slope_max c.requires.a_in c.in-Line.line.a_in (lit< tt) (lit< tt) (lit< tt) in
    let whole = shown_line c.args.a e c.args.b slope_max offset_max offset_max c.requires.a_in c.in-Line.line.b_in c.requires.b_in (lit< tt) (lit< tt) (lit< tt) in
    rw (shown_64 d slope_max c.in-Line.line.a_in (lit< tt), c.offset.ensures, slope, whole, c.in-Line.is) (line_of_line c.args.a c.args.b d e (number_at state c.in-Line.line.cell))

pub returns-in-Line-clause-points : goal.returns-in-Line-clause-points
returns-in-Line-clause-points c = λ x.
    let d : ℤ = c.in-Line.line.a in
    let e : ℤ = offset c.in-Line.line in
    let slope = shown_product c.args.a d slope_max slope_max c.requires.a_in c.in-Line.line.a_in (lit< tt) (lit< tt) (lit< tt) in
    let whole = shown_line c.args.a e c.args.b slope_max offset_max offset_max c.requires.a_in c.in-Line.line.b_in c.requires.b_in (lit< tt) (lit< tt) (lit< tt) in
    rw (shown_64 d slope_max c.in-Line.line.a_in (lit< tt), c.offset.ensures, slope, whole, c.in-Line.is) (line_of_line c.args.a c.args.b d e x)
