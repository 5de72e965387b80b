use Rattle.std.proofs.Common.{◌≡◌, length, refl, Some}
use Rattle.std.proofs.lemmas.Option.{slice_get_read}
use Rattle.std.specs.Prelude.{slice_get}
use Rattle.sym_path.proofs.Followed.{agrees_here, facts_next, facts_whole, none_below}
use Rattle.sym_path.proofs.succession.facts_left.Goals as goal

pub cells-init : goal.cells-init
cells-init c = none_below c.args.forms.now c.args.needs.now c.args.cell c.args.facts c.args.facts refl

pub facts_passed-requires : goal.facts_passed-requires
facts_passed-requires c =
    let forms = c.args.forms.now in
    let needs = c.args.needs.now in
    let f : slice_get forms c.cells.index ≡ Some c.index-forms-index.result = slice_get_read forms (length forms) c.cells.index c.index-forms-index.result refl c.cells-test.true c.index-forms-index.is in
    let n : slice_get needs c.cells.index ≡ Some c.index-needs-index.result = slice_get_read needs (length forms) c.cells.index c.index-needs-index.result c.requires.lengths c.cells-test.true c.index-needs-index.is in
    agrees_here forms needs c.args.cell c.args.facts c.cells.facts c.cells.index c.cells.invariant c.index-forms-index.result c.index-needs-index.result f n c.requires.left

pub cells-preserved : goal.cells-preserved
cells-preserved c =
    let forms = c.args.forms.now in
    let needs = c.args.needs.now in
    let f : slice_get forms c.cells.index ≡ Some c.index-forms-index.result = slice_get_read forms (length forms) c.cells.index c.index-forms-index.result refl c.cells-test.true c.index-forms-index.is in
    let n : slice_get needs c.cells.index ≡ Some c.index-needs-index.result = slice_get_read needs (length forms) c.cells.index c.index-needs-index.result c.requires.lengths c.cells-test.true c.index-needs-index.is in
    facts_next forms needs c.args.cell c.args.facts c.cells.facts c.cells.index c.cells.invariant c.in_ok-facts.facts c.index-forms-index.result c.index-needs-index.result f n c.in_ok-facts.ensures

pub returns : goal.returns
returns c = facts_whole c.args.forms.now c.args.needs.now c.args.cell c.args.facts c.cells.facts c.cells.index c.cells.invariant c.cells-test.false
