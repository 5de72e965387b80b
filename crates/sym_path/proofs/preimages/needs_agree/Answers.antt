use Rattle.std.proofs.Common.{◌≡◌, ◌<◌, length, refl, Some, arith}
use Rattle.std.proofs.lemmas.Option.{slice_get_read, slice_get_within}
use Rattle.std.specs.Prelude.{slice_get}
use Rattle.sym_path.specs.Pulling.{OthersAgree}
use Rattle.sym_path.proofs.Lists.{below_next}
use Rattle.sym_path.proofs.preimages.needs_agree.Goals as goal

pub cells-preserved : goal.cells-preserved
cells-preserved c =
    let forms = c.args.forms.now in
    let needs = c.args.needs.now in
    let f : slice_get forms c.cells.index ≡ Some c.index-forms-index.result = slice_get_read forms (length forms) c.cells.index c.index-forms-index.result refl c.cells-test.true c.index-forms-index.is in
    let n : slice_get needs c.cells.index ≡ Some c.index-needs-index.result = slice_get_read needs (length forms) c.cells.index c.index-needs-index.result c.requires c.cells-test.true c.index-needs-index.is in
    (c.requires, below_next (OthersAgree c.args.cell forms needs) forms needs c.cells.index c.index-forms-index.result c.index-needs-index.result f n (c.others_agree.ensures.0 c.if-not-others_agree.false) c.cells.invariant.1)

pub returns : goal.returns
returns c = (
  λ t d f need e g.
      let within : d < length c.args.forms.now = slice_get_within c.args.forms.now d f e in
      let below : d < c.cells.index = omega (arith, c.cells-test.false) in
      c.cells.invariant.1 d f need below e g,
  λ h. refl,
)
