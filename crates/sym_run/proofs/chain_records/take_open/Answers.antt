use Rattle.sym_check.specs.Checking.CheckedScripts.{checked_plan}
use Rattle.sym_run.specs.Opened.{KnownChainFits, KnownChainIsTight}
use Rattle.sym_run.proofs.TakenRecords.{taken_stepped}
use Rattle.sym_run.proofs.chain_records.take_open.Goals as goal

pub returns-in_ok-step-in-Known : goal.returns-in_ok-step-in-Known
returns-in_ok-step-in-Known c =
    let p = checked_plan c.args.settings.now.checked.now in
    let fits : KnownChainFits p c.in-Known.field-0 c.in-Known.known = rw c.in-Known.is at c.requires.fits in
    let tight : KnownChainIsTight p c.args.settings.now.limit c.in-Known.field-0 c.in-Known.known = rw c.in-Known.is at c.requires.tight in
    rw c.in-Known.is (taken_stepped p c.args.settings.now.limit c.args.rec.now c.in-Known.field-0 c.in-Known.known c.step.new.self fits tight
    c.in_ok-step-in-Known.ensures.paths c.in_ok-step-in-Known.ensures.fits c.in_ok-step-in-Known.ensures.stands)
