use Rattle.sym_check.specs.Checking.CheckedScripts.{checked_plan}
use Rattle.sym_passes.proofs.Folds.{round_folded}
use Rattle.sym_passes.proofs.folded_rounds.FoldedSequentialRounds.take_round.Goals as goal

pub returns : goal.returns
returns c = record {
  takes =
      round_folded (checked_plan c.args.work.now.checked) c.args.work.now.chunks c.as_slice.result.now c.args.self.now c.fold_chunks.new.folded c.fold_chunks.result
      c.as_slice.ensures c.fold_chunks.ensures;
}
