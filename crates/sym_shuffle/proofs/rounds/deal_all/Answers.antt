use Rattle.std.proofs.Common.{◌∙◌, arith, List, Result, length, sym}
use Rattle.std.specs.Prelude.{slice_index_or}
use Rattle.sym_base.specs.declared.values.memory.NoMemory.{NoMemory}
use Rattle.sym_check.specs.Checking.CheckedScripts.{checked_plan}
use Rattle.sym_shuffle.specs.Parts.{IsPartDealt}
use Rattle.sym_shuffle.specs.declared.dealt.Dealt.{Dealt}
use Rattle.sym_shuffle.proofs.CutChunks.{cut, cut_all, cut_each, enough}
use Rattle.sym_shuffle.proofs.rounds.deal_all.Goals as goal

pub returns : goal.returns
returns g c =
    let p = checked_plan (g.S.LendsGroups.by c.args.lender.now) in
    let marks = g.S.LendsGroups.read c.args.lender.now in
    let groups = g.S.LendsGroups.among c.args.lender.now in
    let chunks = c.args.chunks.now in
    let all : List (Result Dealt NoMemory) = c.in_ok-dealt.dealt.items in
    record {
      parts = cut c.args.each (length all) chunks;
      all = cut_all c.args.each (length all) chunks (enough (length all) (length chunks) c.args.each c.requires.each (sym c.in_ok-dealt.dealt.ok.0 ∙ c.in_ok-dealt.ensures.len ∙ c.div_ceil-count.ensures));
      each =
          cut_each c.args.each (IsPartDealt p marks groups) all chunks
          (λ n d lt. (c.in_ok-dealt.ensures.each n d (omega (arith, lt, c.in_ok-dealt.dealt.ok.0, c.in_ok-dealt.ensures.len))).call.met);
    }
