use Rattle.sym_workers.proofs.Stretched.{fits_of, joined, tight_of}
use Rattle.sym_workers.proofs.piece.RunPiecePiece.join.Goals as goal

pub join-requires-clause-left : goal.join-requires-clause-left
join-requires-clause-left g c =
    fits_of c.work-work.result.now (g.S.LendsStretches.lent c.args.input.now) _ _ c.args.self.run c.work-work.ensures c.requires.3

pub join-requires-clause-right : goal.join-requires-clause-right
join-requires-clause-right g c =
    fits_of c.work-work.result.now (g.S.LendsStretches.lent c.args.input.now) _ _ c.args.right.run c.work-work.ensures c.requires.4

pub join-requires-clause-tight : goal.join-requires-clause-tight
join-requires-clause-tight g c = λ a b.
    let work = c.work-work.result.now in
    let lent = g.S.LendsStretches.lent c.args.input.now in (
      tight_of work lent _ _ c.args.self.run c.work-work.ensures c.requires.3 a,
      tight_of work lent _ _ c.args.right.run c.work-work.ensures c.requires.4 b,
    )

pub returns : goal.returns
returns g c = λ lo mid hi l r.
    let run = c.in_ok-run.run' in
    joined c.work-work.result.now (g.S.LendsStretches.lent c.args.input.now) run c.args.self.run c.args.right.run c.work-work.ensures c.in_ok-run.ensures.chunks c.in_ok-run.ensures.stands _ _ _ l r
