use Rattle.std.proofs.Common.{◌∙◌, sym, ap, subst, arith, length, length-append, [], ◌∷◌, All, List, Option}
use Rattle.std.proofs.lemmas.List.Elements.{All-push}
use Rattle.std.specs.Prelude.{IfSome}
use Rattle.sym_table.specs.declared.chunk.Chunk.{Chunk}
use Rattle.sym_table.specs.declared.header.Header.{Header}
use Rattle.sym_table.specs.Rows.{FitsChunk, FitsHeader}
use Rattle.sym_bench.proofs.rounds.next_round.Goals as goal

pub chunks-preserved : goal.chunks-preserved
chunks-preserved c =
    let is = c.chunks.invariant in
    let pushed = c.in_ok-push-in-Some.ensures.ok in
    record {
      count = omega (arith, ap length pushed, is.count, length-append c.chunks.chunks (c.in-Some.chunk ∷ []));
      fit = λ fields fits.
          let P : Header → Type 0 = λ h. FitsHeader fields h in
          let Q : Option Chunk → Type 0 = λ o. IfSome o (λ k. FitsChunk fields k) in
          let R : List Chunk → Type 0 = λ all. All (FitsChunk fields) all in
          subst R (sym pushed)
          (All-push (FitsChunk fields) c.chunks.chunks c.in-Some.chunk (is.fit fields fits)
          (subst Q c.in-Some.is (c.in_ok-chunk.ensures.fits fields (subst P (sym is.header) fits))));
      header = c.next_over.ensures.header ∙ is.header;
    }
