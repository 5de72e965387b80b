use Rattle.sym_check.specs.Checking.CheckedScripts.{checked_plan}
use Rattle.sym_table.specs.FileRows.{file_rows}
use Rattle.sym_files.proofs.Opened.{opened, unopened}
use Rattle.sym_files.proofs.one_file.open_file.Goals as goal

pub returns-in-Ok-clause-opens : goal.returns-in-Ok-clause-opens
returns-in-Ok-clause-opens c =
    let is = c.in-Ok.ensures in
    λ shown. opened (checked_plan c.args.checked.now) shown c.args.file c.args.first_no (file_rows c.args.bytes.now) c.in-Ok.cutter is.opens is.numbers is.fits

pub returns-in-Err-Fault-clause-opens : goal.returns-in-Err-Fault-clause-opens
returns-in-Err-Fault-clause-opens c =
    let is = c.in-Err-Fault in
    λ shown. unopened (checked_plan c.args.checked.now) shown c.args.file c.args.first_no (file_rows c.args.bytes.now) is.field-0 is.fault is.field-0-is is.ensures.opens
