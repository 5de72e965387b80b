use Rattle.sym_check.specs.Checking.CheckedScripts.{checked_plan}
use Rattle.sym_engine_tests.proofs.Noting.{round_read}
use Rattle.sym_engine_tests.proofs.working.MadeRounds.take.Goals as goal

pub returns-clause-takes : goal.returns-clause-takes
returns-clause-takes g c =
    let old = c.args.self.now in
    round_read (checked_plan c.args.work.now.checked) (λ row. row) c.args.work.now.chunks c.as_slice.result.now old (record old { runs = c.push.new.self })
    c.read_chunks.result c.as_slice.ensures c.read_chunks.ensures
