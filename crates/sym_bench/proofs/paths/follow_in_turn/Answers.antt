use Rattle.std.proofs.Common.{List, sym, subst}
use Rattle.std.proofs.lemmas.List.Elements.{All-push}
use Rattle.sym_check.specs.Checking.CheckedScripts.{checked_plan}
use Rattle.sym_path.specs.declared.path.Path.{Path}
use Rattle.sym_path.specs.Fitting.{PathFits, SegmentFits}
use Rattle.sym_bench.proofs.paths.follow_in_turn.Goals as goal

pub turns-preserved : goal.turns-preserved
turns-preserved g c =
    let p = checked_plan c.args.checked.now in
    subst (λ (ps : List Path). SegmentFits p ps) (sym c.in_ok-push.ensures.items)
    (All-push (PathFits p) c.turns.paths.items c.in_ok-path_over.field-0 c.turns.invariant c.in_ok-path_over.ensures)
