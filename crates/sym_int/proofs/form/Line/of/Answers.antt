use Rattle.std.proofs.Common.{◌≤◌, ℤ, sym, subst, to_z-of_z, unsigned_abs}
use Rattle.sym_int.proofs.Halves.{high_size, shown_32, shown_high, shown_raised, shown_rest}
use Rattle.sym_int.specs.Bounds.{offset_max}
use Rattle.sym_int.specs.Offsets.{high_of, joined_again, low_below}
use Rattle.sym_int.proofs.form.Line.of.Goals as goal

pub invariant_of-result : goal.invariant_of-result
invariant_of-result c =
    let b : ℤ = c.args.b in
    let size = high_size b c.requires.2 in
    let high = shown_high (high_of b) size in
    let raised = shown_raised (high_of b) size in
    let rest = shown_rest b c.requires.2 in
    record {
      rises_or_falls = rw (to_z-of_z c.ranges.a) c.requires.0;
      a_in = rw (to_z-of_z c.ranges.a) c.requires.1;
      b_in =
          rw (to_z-of_z c.ranges.b, high, shown_32 (high_of b) size, raised, rest)
          (subst (λ (x : ℤ). unsigned_abs x ≤ offset_max) (sym (joined_again b)) c.requires.2);
      low_in = rw (to_z-of_z c.ranges.b, high, raised, rest) (low_below b);
    }

pub returns-clause-b : goal.returns-clause-b
returns-clause-b c =
    let b : ℤ = c.args.b in
    let size = high_size b c.requires.2 in
    rw (to_z-of_z c.ranges.b, shown_high (high_of b) size, shown_32 (high_of b) size, shown_raised (high_of b) size, shown_rest b c.requires.2)
    (joined_again b)
