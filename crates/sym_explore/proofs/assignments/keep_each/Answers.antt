use Rattle.std.proofs.Common.{◌≡◌, ◌<◌, length, arith}
use Rattle.std.proofs.lemmas.Slice.Zip.{AllZip-map}
use Rattle.sym_path.specs.declared.path.Path.{Path}
use Rattle.sym_vector.proofs.Changes.{Changed-length, Changed-next, Changed-whole}
use Rattle.sym_explore.specs.Assigning.{with_parts}
use Rattle.sym_explore.proofs.assignments.keep_each.Goals as goal

pub paths-preserved : goal.paths-preserved
paths-preserved c =
    let R : Path → Path → Type 0 = λ old new. new ≡ with_parts old c.args.cell c.args.values.now in
    let below : c.paths.path-index < length c.paths.paths = omega (arith, Changed-length R _ _ c.paths.path-index c.paths.invariant) in
    Changed-next R _ _ c.paths.path-index c.path-item.result c.keep_copy.new.path below c.in_ok-keep_copy.ensures c.paths.invariant

pub returns : goal.returns
returns c =
    let R : Path → Path → Type 0 = λ old new. new ≡ with_parts old c.args.cell c.args.values.now in
    AllZip-map (λ (path : Path). with_parts path c.args.cell c.args.values.now) c.args.paths.now c.paths.paths (Changed-whole R _ _ c.paths.path-index c.paths-test.false c.paths.invariant)
