use Rattle.std.proofs.Common.{◌∙◌, arith}
use Rattle.sym_path.proofs.FollowingNarrowed.{narrowed_none, narrowed_length, narrowed_can, narrowed_next, narrowed_whole}
use Rattle.sym_path.proofs.succession.narrow_all.Goals as goal

pub cells-init : goal.cells-init
cells-init c = narrowed_none c.args.needs.now c.args.when.now c.args.forms c.requires.taken

pub narrow_at-requires-clause-lengths : goal.narrow_at-requires-clause-lengths
narrow_at-requires-clause-lengths c = narrowed_length c.args.needs.now c.args.when.now c.args.forms c.requires.taken c.cells.index c.cells.when c.cells.forms c.cells.invariant ∙ c.requires.lengths

pub narrow_at-requires-clause-left : goal.narrow_at-requires-clause-left
narrow_at-requires-clause-left c =
    let test = c.cells-test.true in
    let parts = c.requires.parts in
    narrowed_can c.args.needs.now c.args.when.now c.args.forms c.requires.taken c.cells.index c.cells.when c.cells.forms c.cells.invariant (omega (arith, test, parts)) c.requires.left c.requires.numbers

pub cells-preserved : goal.cells-preserved
cells-preserved c = narrowed_next c.args.needs.now c.args.when.now c.args.forms c.requires.taken c.cells.index c.cells.when c.cells.forms c.cells.invariant c.narrow_at.new.when c.in_ok-forms.forms c.in_ok-forms.ensures

pub returns : goal.returns
returns c =
    let test = c.cells-test.false in
    let parts = c.requires.parts in
    narrowed_whole c.args.needs.now c.args.when.now c.args.forms c.requires.taken c.cells.index c.cells.when c.cells.forms c.cells.invariant (omega (arith, test, parts))
