use Rattle.std.proofs.Common.{◌≡◌, ◌<◌, length, arith}
use Rattle.std.proofs.lemmas.Slice.Zip.{AllZip-map}
use Rattle.sym_path.specs.Changing.{with_fault}
use Rattle.sym_path.specs.declared.path.Path.{Path}
use Rattle.sym_vector.proofs.Changes.{Changed-length, Changed-next, Changed-whole}
use Rattle.sym_explore.proofs.ended_paths.fail_each.Goals as goal

pub paths-preserved : goal.paths-preserved
paths-preserved c =
    let R : Path → Path → Type 0 = λ old new. new ≡ with_fault old c.args.fault in
    let below : c.paths.path-index < length c.paths.paths = omega (arith, Changed-length R _ _ c.paths.path-index c.paths.invariant) in
    Changed-next R _ _ c.paths.path-index c.path-item.result c.fail.new.self below c.fail.ensures c.paths.invariant

pub returns : goal.returns
returns c =
    let R : Path → Path → Type 0 = λ old new. new ≡ with_fault old c.args.fault in
    AllZip-map (λ (path : Path). with_fault path c.args.fault) c.args.paths.now c.paths.paths (Changed-whole R _ _ c.paths.path-index c.paths-test.false c.paths.invariant)
