use Rattle.std.proofs.Common.{◌+◌, ◌≤◌, arith, refl, subst, sym}
use Rattle.sym_scan.specs.Parts.{AreParts}
use Rattle.sym_scan.proofs.Lists.{some_size}
use Rattle.sym_scan.proofs.PartLaws.{parts_push}
use Rattle.sym_scan.proofs.parts.parts.Goals as goal

pub parts-preserved : goal.parts-preserved
parts-preserved c =
    let left = c.parts-test.true in
    let size = c.div_ceil-size.ensures in
    let count = c.min-count.ensures in
    let least : 1 ≤ c.div_ceil-size.result = rw size (some_size c.args.chunks c.args.workers (omega arith) c.requires) in
    let some : 1 ≤ c.min-count.result = omega arith in
    record {
      within = omega arith;
      are = subst (AreParts 0 (c.parts.first + c.min-count.result)) (sym c.in_ok-push.ensures.items) (parts_push 0 c.parts.first (c.parts.first + c.min-count.result) c.parts.parts.items _ c.parts.invariant.are refl some refl);
    }
