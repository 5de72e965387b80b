use Rattle.std.proofs.Common.{◌≡◌, ◌+ℤ◌, ◌*ℤ◌, ◌^◌, ℕ, ℤ, pos, sym, arith, lit<, to_z}
use Rattle.std.proofs.lemmas.Int.{ints}
use Rattle.sym_int.proofs.Halves.{high_bounded, shown_32, shown_high, shown_raised}
use Rattle.sym_int.proofs.Products.{shown}
use Rattle.sym_int.specs.Bounds.{offset_max}
use Rattle.sym_int.specs.Offsets.{joined_is}
use Rattle.sym_int.proofs.form.Line.offset.Goals as goal
use mir.Syntax.{w128}

pub returns : goal.returns
returns c =
    let h : ℤ = c.args.self.now.high in
    let l : ℕ = c.args.self.now.low in
    let size = high_bounded h l c.args.self.now.low_in c.args.self.now.b_in in
    let low : to_z w128 l ≡ pos l = omega (arith, ints, c.args.self.now.low_in) in
    let whole = shown (h *ℤ pos (2 ^ 64) +ℤ pos l) offset_max (rw (joined_is h l) at c.args.self.now.b_in) (lit< tt) in
    rw (shown_32 h size, shown_high h size, shown_raised h size, low, whole) (sym (joined_is h l))
