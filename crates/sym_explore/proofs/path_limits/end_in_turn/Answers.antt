use Rattle.std.proofs.Common.{◌++◌, true, sym, ◌∙◌}
use Rattle.sym_explore.specs.Limiting.{chosen}
use Rattle.sym_explore.proofs.InTurn.{settled_some}
use Rattle.sym_explore.proofs.path_limits.end_in_turn.Goals as goal

pub returns-in-Some : goal.returns-in-Some
returns-in-Some c = λ some.
    settled_some c.turn_after.result (chosen true c.args.paths.now ++ c.args.others.now)
    (sym c.is_some.ensures ∙ some)
    (c.turn_after.ensures (chosen true c.args.paths.now) c.in-Some.ensures)
