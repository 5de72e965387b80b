use Rattle.std.proofs.Common.{◌≡◌, ◌∙◌, ℤ, ap, to_z, of_z, w64}
use Rattle.std.proofs.lemmas.Int.{to_z-of_z}
use Rattle.sym_file.specs.Making.{span_of}
use Rattle.sym_file.proofs.Made.{span_found}
use Rattle.sym_file.proofs.parts.span_of.Goals as goal

pub returns : goal.returns
returns c =
    let lo : ℤ = to_z w64 (of_z w64 c.args.lo) in
    let hi : ℤ = to_z w64 (of_z w64 c.args.hi) in
    let same_lo : lo ≡ c.args.lo = to_z-of_z w64 c.args.lo c.ranges.lo in
    let same_hi : hi ≡ c.args.hi = to_z-of_z w64 c.args.hi c.ranges.hi in
    span_found lo hi c.new.result c.new.ensures
    ∙ ap (λ (x : ℤ). span_of x hi) same_lo ∙ ap (λ (x : ℤ). span_of c.args.lo x) same_hi
