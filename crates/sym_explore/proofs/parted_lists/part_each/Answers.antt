use Rattle.std.proofs.Common.{◌≡◌, ◌++◌, [], List, drop, take, ap, ◌∙◌}
use Rattle.sym_check.specs.Plan.ScriptPlans.{script_plan}
use Rattle.sym_path.specs.declared.path.Path.{Path}
use Rattle.sym_explore.specs.Branches.{AreGoing, paths_false, paths_true}
use Rattle.sym_explore.specs.Evaluating.{cell_branches, holds_at, tried_on_cell}
use Rattle.sym_explore.specs.Parting.{AreFewParts, AreParts}
use Rattle.sym_explore.proofs.ComparedPaths.{on_ok, on_ok_both}
use Rattle.sym_explore.proofs.PartedInPlace.{falses_go, few_parts, goes_on_all, split_parts, trues_go}
use Rattle.sym_explore.proofs.parted_lists.part_each.Goals as goal

pub returns-clause-exact : goal.returns-clause-exact
returns-clause-exact c = λ n.
    let p = script_plan c.args.plan.now in
    let q = c.args.condition.now in
    let old : List Path = c.args.lists.now.paths.items in
    let count = c.in_ok-count.count in
    let paths : List Path = c.split_each.new.paths.items in
    let pieces = c.split_each.new.pieces.items in
    let new : List Path = c.put_all.new.trues.items in
    let before : List Path = c.args.falses.now.items in
    let after : List Path = c.put_all.new.falses.items in
    on_ok_both c.put_all.result (new ≡ c.move_from.new.paths.items ++ paths_true pieces) (after ≡ c.move_from.new.to.items ++ paths_false pieces) (AreParts p (tried_on_cell p c.args.args.now q n) old new before after [] [])
    (λ t f. split_parts p n (holds_at p c.args.args.now q) old (take count paths) (drop count paths) c.clear.new.self.items pieces c.clear.ensures.items (c.in_ok-count.ensures.exact n) new before after
    (t ∙ ap (λ (ps : List Path). ps ++ paths_true pieces) c.in_ok-move_from.ensures.paths)
    (f ∙ ap (λ (ps : List Path). ps ++ paths_false pieces) c.in_ok-move_from.ensures.to)
    (goes_on_all p old c.requires.going))
    c.put_all.ensures.trues c.put_all.ensures.falses

pub returns-clause-few : goal.returns-clause-few
returns-clause-few c =
    let q = c.args.condition.now in
    let old : List Path = c.args.lists.now.paths.items in
    let count = c.in_ok-count.count in
    let paths : List Path = c.split_each.new.paths.items in
    let pieces = c.split_each.new.pieces.items in
    let new : List Path = c.put_all.new.trues.items in
    let before : List Path = c.args.falses.now.items in
    let after : List Path = c.put_all.new.falses.items in
    on_ok_both c.put_all.result (new ≡ c.move_from.new.paths.items ++ paths_true pieces) (after ≡ c.move_from.new.to.items ++ paths_false pieces) (AreFewParts (cell_branches q) old new before after [] [])
    (λ t f. few_parts (cell_branches q) old (take count paths) (drop count paths) c.clear.new.self.items pieces c.clear.ensures.items c.in_ok-count.ensures.few new before after
    (t ∙ ap (λ (ps : List Path). ps ++ paths_true pieces) c.in_ok-move_from.ensures.paths)
    (f ∙ ap (λ (ps : List Path). ps ++ paths_false pieces) c.in_ok-move_from.ensures.to))
    c.put_all.ensures.trues c.put_all.ensures.falses

pub returns-clause-going : goal.returns-clause-going
returns-clause-going c =
    let p = script_plan c.args.plan.now in
    let count = c.in_ok-count.count in
    let paths : List Path = c.split_each.new.paths.items in
    let pieces = c.split_each.new.pieces.items in
    let new : List Path = c.put_all.new.trues.items in
    on_ok c.put_all.result (new ≡ c.move_from.new.paths.items ++ paths_true pieces) (AreGoing p new)
    (λ t. trues_go p count paths pieces c.in_ok-count.ensures.going c.in_ok-count.ensures.pieces new (t ∙ ap (λ (ps : List Path). ps ++ paths_true pieces) c.in_ok-move_from.ensures.paths))
    c.put_all.ensures.trues

pub returns-clause-falses : goal.returns-clause-falses
returns-clause-falses c =
    let p = script_plan c.args.plan.now in
    let count = c.in_ok-count.count in
    let paths : List Path = c.split_each.new.paths.items in
    let pieces = c.split_each.new.pieces.items in
    let after : List Path = c.put_all.new.falses.items in
    on_ok c.put_all.result (after ≡ c.move_from.new.to.items ++ paths_false pieces) (AreGoing p after)
    (λ f. falses_go p count paths pieces c.in_ok-count.ensures.going c.in_ok-count.ensures.pieces c.args.falses.now.items after c.requires.falses (f ∙ ap (λ (ps : List Path). ps ++ paths_false pieces) c.in_ok-move_from.ensures.to))
    c.put_all.ensures.falses
