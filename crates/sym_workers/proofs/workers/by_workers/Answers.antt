use Rattle.std.proofs.Common.{rules, sym, subst}
use Rattle.std.proofs.iter.Serving.{serving}
use denote.Param.Send.{sendable}
use Rattle.sym_board.specs.Passes.{IsNewPassOf, board_leaves}
use Rattle.sym_workers.specs.Pieces.{StandsBetween}
use Rattle.sym_workers.proofs.Stretched.{of_all}
use Rattle.sym_workers.proofs.workers.by_workers.Goals as goal

pub map_vec-requires-after_bounds : goal.map_vec-requires-after_bounds
map_vec-requires-after_bounds g c κs within = λ i x near is.
    let board = c.in_ok-made.made.board in
    let new : IsNewPassOf board x.pass = subst (λ w. IsNewPassOf board w.pass) (sym is) (c.in_ok-numbered.ensures.each i x near) in
    ((new, c.in_ok-made.ensures.board), first_of (search rules, search sendable depth 60 fits 20000, grind serving))

pub returns-in-Some : goal.returns-in-Some
returns-in-Some g c =
    let L = g.S.LendsStretches in
    let s = c.args.stretches.now in
    let board = c.in_ok-made.made.board in
    let over = c.in_ok-made.ensures.board in
    let run = c.in-Some.run' in
    let P : g.row.S.Denot → Type 0 = λ x. StandsBetween (L.lent x) (L.size x) 0 (board_leaves board) run in
    of_all (L.lent s) (L.size s) (board_leaves board) run over.stretches (subst P (sym over.input) c.in-Some.ensures.some)
