use Rattle.std.proofs.Common.{refl}
use Rattle.std.proofs.lemmas.Result.{on_ok_weaker}
use Rattle.sym_base.specs.declared.values.record.Record.{Record}
use Rattle.sym_check.specs.Checking.CheckedScripts.{checked_plan}
use Rattle.sym_run.proofs.UnreadWords.{is_as_good, is_record}
use Rattle.sym_run.proofs.unread.empty_unread.Goals as goal

pub returns-clause-of_script : goal.returns-clause-of_script
returns-clause-of_script c =
    let new : Record = record { no = c.args.rec.now.no; fields = c.empty_words.new.values } in
    on_ok_weaker c.empty_words.result (is_record (checked_plan c.args._checked.now) c.args.rec.now new c.args.reads.now c.requires.rec) c.empty_words.ensures

pub returns-clause-as_good : goal.returns-clause-as_good
returns-clause-as_good c =
    let new : Record = record { no = c.args.rec.now.no; fields = c.empty_words.new.values } in
    on_ok_weaker c.empty_words.result (is_as_good (checked_plan c.args._checked.now) c.args.rec.now new c.args.reads.now c.requires.reads refl) c.empty_words.ensures
