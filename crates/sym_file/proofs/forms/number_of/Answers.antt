use Rattle.std.proofs.Common.{◌≡◌, ◌∙◌, ℤ, ap, to_z, of_z, w64}
use Rattle.std.proofs.lemmas.Int.{to_z-of_z}
use Rattle.sym_file.specs.Making.{number_of}
use Rattle.sym_file.proofs.Made.{number_found}
use Rattle.sym_file.proofs.forms.number_of.Goals as goal

pub returns : goal.returns
returns c =
    let x : ℤ = to_z w64 (of_z w64 c.args.value) in
    let same : x ≡ c.args.value = to_z-of_z w64 c.args.value c.ranges.value in
    number_found x c.new.result c.new.ensures ∙ ap number_of same
