use Rattle.std.proofs.Common.{◌≡◌, ◌∙◌, [], ◌∷◌, ◌++◌, List, length, map, rules, refl, sym, ap, subst}
use Rattle.std.proofs.lemmas.Iterator.Adapters.{YieldsList-from_vec}
use Rattle.std.proofs.lemmas.Iterator.Consumers.{YieldsList-turn}
use Rattle.std.specs.List.{All, AllZip}
use Rattle.sym_path.specs.declared.path.Path.{Path}
use Rattle.sym_known.specs.Closing.{CanBeClosed, IsClosed}
use Rattle.sym_known.specs.Holding.{KnownPath}
use Rattle.sym_known.specs.Placing.{known_in}
use Rattle.sym_known.proofs.Closed.{can_at, closed_push}
use Rattle.sym_known.proofs.plain_paths.close_all.Goals as goal

pub closed-requires-clause-can : goal.closed-requires-clause-can
closed-requires-clause-can c =
    let turn = YieldsList-turn (YieldsList-from_vec {s = c.into_iter-one-iterator.result} c.args.placed.items (search rules) (search rules)) c.paths.yielded c.paths.one-iterator c.paths.yielded_by c.next.result c.next.new.self c.in-Some.one c.in-Some.is c.next.ensures.steps in
    can_at c.args.outcomes.now c.args.placed.items (length c.paths.yielded) c.in-Some.one turn.0 turn.1 c.requires.can

pub paths-preserved : goal.paths-preserved
paths-preserved c = closed_push c.args.outcomes.now c.paths.yielded c.in-Some.one c.paths.paths.items c.push.new.self.items c.in_ok-closed.field-0 c.in_ok-closed.ensures c.in_ok-push.ensures.items c.paths.invariant
