use Rattle.std.proofs.Common.{List, length, rules, subst, sym}
use Rattle.std.proofs.lemmas.Iterator.Adapters.{YieldsList-from_vec}
use Rattle.std.proofs.lemmas.Iterator.Consumers.{YieldsList-turn}
use Rattle.std.proofs.lemmas.List.Elements.{All-push}
use Rattle.sym_check.specs.Checking.CheckedScripts.{checked_plan}
use Rattle.sym_path.specs.declared.path.Path.{Path}
use Rattle.sym_path.specs.Fitting.{PathFits, SegmentFits}
use Rattle.sym_bench.proofs.paths.follow_all.Goals as goal

pub followed_by-requires-clause-first : goal.followed_by-requires-clause-first
followed_by-requires-clause-first c =
    let turn = YieldsList-turn (YieldsList-from_vec {s = c.into_iter-path-iterator.result} c.args.paths.items (search rules) (search rules)) c.paths.yielded c.paths.path-iterator c.paths.yielded_by c.next.result c.next.new.self c.in-Some.path c.in-Some.is c.next.ensures.steps in
    subst (PathFits (checked_plan c.args.checked.now)) (sym turn.1) (c.requires.first (length c.paths.yielded) c.in-Some.path turn.0)

pub paths-preserved : goal.paths-preserved
paths-preserved c =
    let p = checked_plan c.args.checked.now in
    let followed = rw c.in-Some-2.is at c.in_ok-path.ensures.path in
    subst (λ (ps : List Path). SegmentFits p ps) (sym c.in_ok-push-in-Some-2.ensures.items)
    (All-push (PathFits p) c.paths.both.items c.in-Some-2.path c.paths.invariant followed.fits)
