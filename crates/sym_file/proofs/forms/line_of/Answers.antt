use Rattle.std.proofs.Common.{◌≡◌, ◌∙◌, ℤ, ap, to_z, of_z}
use Rattle.std.specs.Int.{w128}
use Rattle.std.proofs.lemmas.Int.{to_z-of_z}
use Rattle.sym_file.specs.Making.{line_of}
use Rattle.sym_file.proofs.Made.{line_found}
use Rattle.sym_file.proofs.forms.line_of.Goals as goal

pub returns : goal.returns
returns c =
    let a : ℤ = to_z w128 (of_z w128 c.args.a) in
    let b : ℤ = to_z w128 (of_z w128 c.args.b) in
    let same_a : a ≡ c.args.a = to_z-of_z w128 c.args.a c.ranges.a in
    let same_b : b ≡ c.args.b = to_z-of_z w128 c.args.b c.ranges.b in
    line_found c.args.cell a b c.new.result c.new.ensures
    ∙ ap (λ (x : ℤ). line_of c.args.cell x b) same_a ∙ ap (λ (x : ℤ). line_of c.args.cell c.args.a x) same_b
