use Rattle.std.proofs.Common.{List}
use Rattle.sym_base.specs.declared.values.record.Record.{Record}
use Rattle.sym_check.specs.Checking.CheckedScripts.{checked_plan}
use Rattle.sym_files.specs.Rounds.{round_records}
use Rattle.sym_files.proofs.PlainRows.{plain_round}
use Rattle.sym_files.proofs.ToldRows.{untold_round}
use Rattle.sym_files.proofs.ways.AloneWay.take_on.Goals as goal

pub returns-clause-takes : goal.returns-clause-takes
returns-clause-takes g c =
    let p = checked_plan c.args.work.now.checked in
    plain_round (λ x (records : List Record). g.R.SequentialRounds.stands x p records) p c.args.work.now.chunks c.args.rounds.now c.take_round.new.self c.in_ok-took.took c.then_cut.result
    c.in_ok-took.ensures.takes c.then_cut.ensures.took

pub returns-clause-tells : goal.returns-clause-tells
returns-clause-tells g c = λ start before at.
    let p = checked_plan c.args.work.now.checked in
    untold_round (λ x (records : List Record). g.R.SequentialRounds.stands x p records) (round_records p (λ row. row) c.args.work.now.chunks) before c.take_round.new.self
    c.args.rounds.now c.take_round.new.self c.then_cut.result
    (plain_round (λ x (records : List Record). g.R.SequentialRounds.stands x p records) p c.args.work.now.chunks c.args.rounds.now c.take_round.new.self c.in_ok-took.took c.then_cut.result
    c.in_ok-took.ensures.takes c.then_cut.ensures.took)
