use Rattle.std.proofs.Common.{sym, subst, All, List, Option}
use Rattle.std.proofs.lemmas.List.Elements.{All-push}
use Rattle.std.specs.Prelude.{IfSome}
use Rattle.sym_check.specs.Checking.CheckedScripts.{checked_plan}
use Rattle.sym_table.specs.declared.chunk.Chunk.{Chunk}
use Rattle.sym_table.specs.Rows.{FitsChunk}
use Rattle.sym_given.proofs.logs.push_chunk.Goals as goal

pub returns-in_ok-push-clause-fit : goal.returns-in_ok-push-clause-fit
returns-in_ok-push-clause-fit c =
    let fields = (checked_plan c.args.checked.now).fields in
    let P : List Chunk → Type 0 = λ all. All (FitsChunk fields) all in
    let Q : Option Chunk → Type 0 = λ o. IfSome o (λ k. FitsChunk fields k) in
    subst P (sym c.in_ok-push.ensures.items)
    (All-push (FitsChunk fields) c.args.chunks.now.items c.in-Some.chunk c.requires.fit
    (subst Q c.in-Some.is (c.in_ok-chunk.ensures.fits fields c.requires.header)))
