use Rattle.std.proofs.Common.{arith, refl, lit<, ℤ, Some, ap, ◌∙◌, w64}
use Rattle.std.proofs.lemmas.Int.{ints, fits_signed_from_abs}
use Rattle.sym_base.specs.Limits.{num_max, IsNumber}
use Rattle.sym_int.proofs.Products.{shown, shown_64}
use Rattle.sym_int.proofs.Taken.{slope_of_two, offset_of_two, same_on_one}
use Rattle.sym_int.specs.Bounds.{slope_max, wide_slope_max, wide_max}
use Rattle.sym_int.proofs.wide.WideLine.taken_line.Goals as goal

pub overflow_cast-result : goal.overflow_cast-result
overflow_cast-result c =
    let e = rw (shown_64 c.args.span.now.lo num_max c.args.span.now.lo_in (lit< tt)) at c.at-value.ensures in
    let n : IsNumber c.at-value.result = rw e (c.requires c.args.span.now.lo (omega (arith, ints), omega (arith, ints))) in
    omega (arith, ints)

pub invariant_of-result : goal.invariant_of-result
invariant_of-result c =
    let e = rw (shown_64 c.args.span.now.lo num_max c.args.span.now.lo_in (lit< tt)) at c.at-value.ensures in
    let n : IsNumber c.at-value.result = rw e (c.requires c.args.span.now.lo (omega (arith, ints), omega (arith, ints))) in
    record { value_in = omega (arith, ints) }

pub returns : goal.returns
returns c =
    let e = rw (shown_64 c.args.span.now.lo num_max c.args.span.now.lo_in (lit< tt)) at c.at-value.ensures in
    let n : IsNumber c.at-value.result = rw e (c.requires c.args.span.now.lo (omega (arith, ints), omega (arith, ints))) in
    record {
      same = λ x h. omega (arith, ints) ∙ (e ∙ same_on_one c.args.self.now.a c.args.self.now.b c.args.span.now.lo c.args.span.now.hi x (omega (arith, ints)) h);
      in_range = c.requires;
      one = λ p. refl;
      more = λ p. absurd (omega (arith, ints));
    }

pub overflow_cast-self : goal.overflow_cast-self
overflow_cast-self c =
    let a : ℤ = c.args.self.now.a in
    let small = slope_of_two a c.args.self.now.b c.args.span.now.lo c.args.span.now.hi (omega (arith, ints)) c.requires in
    rw (shown a wide_slope_max c.args.self.now.a_in (lit< tt)) (fits_signed_from_abs w64 a (omega (arith, small)))

pub of-requires : goal.of-requires
of-requires c =
    let a : ℤ = c.args.self.now.a in
    let b : ℤ = c.args.self.now.b in
    let shown_a = shown a wide_slope_max c.args.self.now.a_in (lit< tt) in
    let shown_b = shown b wide_max c.args.self.now.b_in (lit< tt) in
    let small = slope_of_two a b c.args.span.now.lo c.args.span.now.hi (omega (arith, ints)) c.requires in
    let own = shown_64 a slope_max small (lit< tt) in (
      rw (shown_a, own) c.args.self.now.rises_or_falls,
      rw (shown_a, own) small,
      rw shown_b (offset_of_two a b c.args.span.now.lo c.args.span.now.hi c.args.span.now.lo_in (omega (arith, ints)) c.requires),
    )

pub returns-then-span : goal.returns-then-span
returns-then-span c =
    let a : ℤ = c.args.self.now.a in
    let b : ℤ = c.args.self.now.b in
    let small = slope_of_two a b c.args.span.now.lo c.args.span.now.hi (omega (arith, ints)) c.requires in
    let shown_a = shown a wide_slope_max c.args.self.now.a_in (lit< tt) in
    let shown_b = shown b wide_max c.args.self.now.b_in (lit< tt) in
    record {
      same = λ x h. rw (c.of.ensures.a, c.of.ensures.b, shown_a, shown_64 a slope_max small (lit< tt), shown_b) refl;
      in_range = c.requires;
      one = λ p. absurd (omega (arith, ints));
      more = λ p. ap Some c.of.ensures.cell;
    }
