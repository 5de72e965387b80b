use Rattle.std.proofs.Common.{◌≡◌, ◌≢◌, ◌<◌, ◌≤◌, ◌-◌, ◌+◌, sym, ◌∙◌, subst, arith}
use Rattle.sym_board.specs.Tree.{number, seek, place, spot, Place}
use Rattle.sym_board.specs.declared.tree.Spot.{Spot}
use Rattle.sym_board.proofs.Nodes.Seeking.{seek_found, seek_top, level_left, level_right, level_last}
use Rattle.sym_board.proofs.tree.find.Goals.{then-node-here, else-node-here}
use Rattle.sym_board.proofs.tree.find.Goals as goal

pub levels-init : goal.levels-init
levels-init c = record { within = (omega arith, omega arith, omega arith); way = seek_top c.args.leaves c.args.node }

pub returns-then-here-node-clause-found : goal.returns-then-here-node-clause-found
returns-then-here-node-clause-found c = let p : Place = spot c.levels.at.lo c.levels.at.hi c.levels.at.above c.levels.at.is_left in
    sym (seek_found (8 - c.levels._level) p c.args.node (sym c.number_of-here.ensures ∙ c.if-here-node.true)) ∙ c.levels.invariant.way

pub levels-preserved : goal.levels-preserved
levels-preserved c = let at : Spot = c.levels.at in let ne : number at.lo at.hi ≢ c.args.node = λ e. c.if-here-node.false (c.number_of-here.ensures ∙ e) in
    elim c.if-node-here.branch [
      | then-node-here w ↦ subst (λ (x : Spot). record { within : (x.lo ≤ x.hi) × (0 < x.hi) × (x.hi ≤ 64); way : seek (8 - (c.levels._level + 1)) (spot x.lo x.hi x.above x.is_left) c.args.node ≡ place c.args.leaves c.args.node }) (sym w.at-is)
          (record { within = (omega arith, omega arith, omega arith); way = level_left c.levels._level c.args.leaves c.args.node at.lo at.hi at.above at.is_left (omega arith) ne (let lt = w.if-node-here.true in let e = c.number_of-here.ensures in omega arith) c.levels.invariant.way })
      | else-node-here w ↦ subst (λ (x : Spot). record { within : (x.lo ≤ x.hi) × (0 < x.hi) × (x.hi ≤ 64); way : seek (8 - (c.levels._level + 1)) (spot x.lo x.hi x.above x.is_left) c.args.node ≡ place c.args.leaves c.args.node }) (sym w.at-is)
          (record { within = (omega arith, omega arith, omega arith); way = level_right c.levels._level c.args.leaves c.args.node at.lo at.hi at.above at.is_left (omega arith) ne (let lt = w.if-node-here.false in let e = c.number_of-here.ensures in omega arith) c.levels.invariant.way })
    ]

pub returns-clause-found : goal.returns-clause-found
returns-clause-found c = level_last c.levels._level c.args.leaves c.args.node c.levels.at.lo c.levels.at.hi c.levels.at.above c.levels.at.is_left (omega arith) c.levels.invariant.way
