use Rattle.std.proofs.Common.{[], ap, subst}
use Rattle.sym_check.specs.Checking.CheckedScripts.{checked_plan}
use Rattle.sym_table.specs.Reading.{Row}
use Rattle.sym_files.specs.FileRecords.{rules_of}
use Rattle.sym_files.specs.FirstProblems.{AllFine}
use Rattle.sym_passes.proofs.AppliedRuns.{begun}
use Rattle.sym_passes.proofs.whole_pass.pass.Goals as goal

pub each_round-requires-clause-stands : goal.each_round-requires-clause-stands
each_round-requires-clause-stands g c κs within =
    let options = c.requires.options in
    let is = c.new-rounds.ensures in
    let rounds = c.new-rounds.result in (
      [],
      begun (checked_plan c.args.checked.now) rounds.workers c.args.options.now.workers rounds.groups is.workers (record { some = options.some_workers; most = options.most_workers }) is.groups,
    )

pub returns-clause-passed : goal.returns-clause-passed
returns-clause-passed g c =
    let options = c.requires.options in
    let is = c.new-rounds.ensures in
    let rounds = c.new-rounds.result in
    let all = c.in_ok-each_round.ensures.taken in
    let P : (Row → Row) → Type 0 = λ shown. AllFine (checked_plan c.args.checked.now) (rules_of c.args.options.now.max_bytes shown) 1 all.files all.records in
    record {
      files = all.files;
      may = all.may;
      records = all.records;
      fine = subst P (ap g.G.Gate.shown is.gate) all.fine;
      stands = (all.stands.1 [] (begun (checked_plan c.args.checked.now) rounds.workers c.args.options.now.workers rounds.groups
          is.workers (record { some = options.some_workers; most = options.most_workers }) is.groups)).1.passed;
    }
