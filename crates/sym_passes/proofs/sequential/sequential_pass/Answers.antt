use Rattle.std.proofs.Common.{[]}
use Rattle.sym_passes.proofs.sequential.sequential_pass.Goals as goal

pub returns-clause-passed : goal.returns-clause-passed
returns-clause-passed g c =
    let all = c.in_ok-each_round_in_turn.ensures.taken in
    record {
      files = all.files;
      may = all.may;
      records = all.records;
      fine = all.fine;
      stands = all.stands.1 [] c.new-folded.ensures;
    }
