use Rattle.std.specs.Option.{unwrap_or}
use Rattle.sym_check.specs.Checking.CheckedScripts.{checked_plan}
use Rattle.sym_engine_tests.proofs.Noting.{round_read}
use Rattle.sym_engine_tests.proofs.rounds.NotedRounds.take.Goals as goal

pub returns-clause-takes : goal.returns-clause-takes
returns-clause-takes g c =
    let old = c.args.self.now in
    round_read (checked_plan c.args.work.now.checked) (unwrap_or old.one) c.args.work.now.chunks c.as_slice-chunks.result.now old (record old { rounds = c.push.new.self })
    c.read_chunks.result c.as_slice-chunks.ensures c.read_chunks.ensures
