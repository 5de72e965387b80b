use Rattle.sym_check.specs.Checking.CheckedScripts.{checked_plan}
use Rattle.sym_files.specs.Rounds.{round_records, stands_by}
use Rattle.sym_files.specs.Telling.{tells_by}
use Rattle.sym_files.proofs.ToldRows.{round_tells}
use Rattle.sym_files.proofs.ways.take_round.Goals as goal

pub returns-clause-tells : goal.returns-clause-tells
returns-clause-tells g c = λ start before at.
    let p = checked_plan c.args.work.now.checked in
    round_tells (tells_by g.R.Rounds.told p start) (stands_by g.R.Rounds.stands p c.args.work.now.limit) (round_records p (g.R.Rounds.shown c.args.rounds.now) c.args.work.now.chunks) before
    c.args.rounds.now c.take.new.self c.take.result c.take.ensures.takes (c.take.ensures.tells start before at)
