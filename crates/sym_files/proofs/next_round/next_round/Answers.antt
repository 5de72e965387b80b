use Rattle.std.proofs.Common.{◌∙◌, sym, ap, subst, arith, length, length-append, [], ◌∷◌}
use Rattle.sym_table.specs.declared.header.Header.{Header}
use Rattle.sym_table.specs.Rows.{FitsHeader}
use Rattle.sym_files.proofs.Walks.{cut_push, fit_push}
use Rattle.sym_files.proofs.RowsFull.{rows_push, full_push}
use Rattle.sym_files.proofs.next_round.next_round.Goals as goal

pub chunks-preserved : goal.chunks-preserved
chunks-preserved c =
    let is = c.chunks.invariant in
    let all = c.push.new.self in
    let pushed = c.in_ok-push-in-Some.ensures.ok in
    record {
      cut =
          cut_push c.args.cutter.now c.chunks.cutter c.next_over.new.self c.chunks.chunks all c.in_ok-chunk.field-0 c.in-Some.chunk c.in-Some.is pushed
          is.cut is.header c.in_ok-chunk.ensures.cuts;
      count = omega (arith, ap length pushed, is.count, length-append c.chunks.chunks (c.in-Some.chunk ∷ []));
      fit = λ fields fits.
          let P : Header → Type 0 = λ h. FitsHeader fields h in
          fit_push fields c.chunks.chunks all c.in_ok-chunk.field-0 c.in-Some.chunk c.in-Some.is pushed (is.fit fields fits)
          (c.in_ok-chunk.ensures.fits fields (subst P (sym is.header) fits));
      header = c.next_over.ensures.header ∙ is.header;
      chunk = c.next_over.ensures.chunk ∙ is.chunk;
      rows =
          rows_push c.chunks.cutter c.next_over.new.self c.chunks._number c.args.cutter.now.chunk c.chunks.chunks all c.in_ok-chunk.field-0 c.in-Some.chunk c.in-Some.is pushed
          is.chunk is.rows c.in_ok-chunk.ensures.cuts;
      full =
          full_push c.chunks.cutter c.next_over.new.self c.chunks._number c.args.cutter.now.chunk c.chunks.chunks all c.in_ok-chunk.field-0 c.in-Some.chunk c.in-Some.is pushed
          is.chunk is.full c.in_ok-chunk.ensures.cuts;
    }
