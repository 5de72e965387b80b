use Rattle.std.proofs.Common.{◌≡◌, Some, true, refl, sym, ap, ◌∙◌}
use Rattle.std.specs.Prelude.{slice_get}
use Rattle.sym_path.specs.Leading.{is_list}
use Rattle.sym_path.proofs.ListsOut.{list_moved, no_list_out}
use Rattle.sym_path.proofs.outcomes.list_out.Goals as goal

pub returns-then-not-has_list : goal.returns-then-not-has_list
returns-then-not-has_list c = no_list_out c.args.state.now c.args.index (slice_get c.args.state.now.cells c.args.index) (cc) refl

pub returns : goal.returns
returns c =
    let at : slice_get c.args.state.now.cells c.args.index ≡ Some c.in-Some.list = cc in
    let list : is_list (Some c.in-Some.list) ≡ true = sym (ap is_list at) ∙ (cc) in
    list_moved c.args.state.now (record { cells = c.replace.new.self }) c.args.index c.in-Some.list list at c.replace.ensures.new
