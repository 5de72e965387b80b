use Rattle.std.proofs.Common.{arith, lit<, ℤ, ◌≤◌, ◌^◌, to_z-of_z, unsigned_abs}
use Rattle.std.proofs.lemmas.Int.{ints}
use Rattle.sym_int.proofs.Products.{fits, line_size, shown, shown_64, shown_line, shown_product}
use Rattle.sym_int.specs.Bounds.{slope_max, offset_max}
use Rattle.sym_int.specs.Lines.{offset}
use Rattle.sym_int.proofs.form.Line.at.Goals as goal

pub returns : goal.returns
returns c =
    let size : unsigned_abs c.args.x ≤ 2 ^ 63 = omega (arith, ints) in
    let a : ℤ = c.args.self.now.a in
    let b : ℤ = offset c.args.self.now in
    rw (shown_64 a slope_max c.args.self.now.a_in (lit< tt), to_z-of_z c.ranges.x, c.offset.ensures)
    (shown_line a c.args.x b slope_max (2 ^ 63) offset_max c.args.self.now.a_in size c.args.self.now.b_in (lit< tt) (lit< tt) (lit< tt))

pub overflow_add-result : goal.overflow_add-result
overflow_add-result c =
    let size : unsigned_abs c.args.x ≤ 2 ^ 63 = omega (arith, ints) in
    let a : ℤ = c.args.self.now.a in
    let b : ℤ = offset c.args.self.now in
    rw (shown_64 a slope_max c.args.self.now.a_in (lit< tt), to_z-of_z c.ranges.x, c.offset.ensures, shown_product a c.args.x slope_max (2 ^ 63) c.args.self.now.a_in size (lit< tt) (lit< tt) (lit< tt), shown b offset_max c.args.self.now.b_in (lit< tt))
    (fits _ _ (line_size a c.args.x b slope_max (2 ^ 63) offset_max c.args.self.now.a_in size c.args.self.now.b_in) (lit< tt))
