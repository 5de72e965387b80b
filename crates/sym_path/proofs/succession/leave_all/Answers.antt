use Rattle.std.proofs.Common.{arith}
use Rattle.sym_path.proofs.FollowingLeft.{left_none, left_can, left_next, left_whole}
use Rattle.sym_path.proofs.succession.leave_all.Goals as goal

pub cells-init : goal.cells-init
cells-init c = left_none c.args.forms.now c.args.needs.now c.args.when.now

pub leave_at-requires-clause-left : goal.leave_at-requires-clause-left
leave_at-requires-clause-left c =
    let test = c.cells-test.true in
    let parts = c.requires.parts in
    left_can c.args.forms.now c.args.needs.now c.args.when.now c.cells.index c.cells.when c.cells.invariant (omega (arith, test, parts)) c.requires.left

pub cells-preserved : goal.cells-preserved
cells-preserved c = left_next c.args.forms.now c.args.needs.now c.args.when.now c.cells.index c.cells.when c.leave_at.new.when c.cells.invariant c.in_ok-leave_at.ensures

pub returns : goal.returns
returns c =
    let test = c.cells-test.false in
    let parts = c.requires.parts in
    left_whole c.args.forms.now c.args.needs.now c.args.when.now c.cells.index c.cells.when c.cells.invariant (omega (arith, test, parts))
