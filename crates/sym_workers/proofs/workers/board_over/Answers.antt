use Rattle.std.proofs.Common.{◌≡◌, ◌∙◌, ℕ, ap, sym, length}
use Rattle.std.specs.Int.{div_ceil}
use Rattle.sym_board.specs.Passes.{board_leaves}
use Rattle.sym_files.specs.declared.rounds.Work.{Work}
use Rattle.sym_workers.proofs.Stretched.{stretched}
use Rattle.sym_workers.proofs.workers.board_over.Goals as goal

pub returns-clause-board : goal.returns-clause-board
returns-clause-board g c =
    let work = g.S.LendsStretches.lent c.args.stretches.now in
    let each = g.S.LendsStretches.size c.args.stretches.now in
    let chunks : c.len-chunks.result ≡ length work.chunks = c.len-chunks.ensures ∙ ap (λ (w : Work). length w.chunks) c.work-work.ensures in
    let leaves : board_leaves c.in_ok-made.made.board ≡ div_ceil (length work.chunks) each =
    c.in_ok-made.ensures.sizes.0 ∙ c.div_ceil-leaves.ensures ∙ ap (λ (n : ℕ). div_ceil n c.chunks_each-each.result) chunks ∙ ap (λ (n : ℕ). div_ceil (length work.chunks) n) c.chunks_each-each.ensures in
    record {
      input = sym c.in_ok-made.ensures.input;
      stretches = stretched (length work.chunks) each _ c.requires.some leaves;
      few = c.requires.few;
      round = c.requires.round;
    }
