use Rattle.std.proofs.Common.{Result, Ok, Err, ap, refl}
use Rattle.sym_check.specs.Checking.CheckedScripts.{checked_plan}
use Rattle.sym_table.specs.FileRows.{file_rows}
use Rattle.sym_files.specs.declared.error.PassErr.{PassErr}
use Rattle.sym_files.specs.declared.error.PassErr.TheVariants as pass_err
use Rattle.sym_files.specs.declared.rounds.Took.TheVariants as took
use Rattle.sym_files.specs.FileRecords.{shown_rows, row_records}
use Rattle.sym_files.specs.Rounds.{stands_by}
use Rattle.sym_files.specs.Taking.{TakesFile, full_round, rows_left}
use Rattle.sym_files.specs.Telling.{TellsFile, tells_by}
use Rattle.sym_files.proofs.ToldRows.{rows_per, some_per}
use Rattle.sym_files.proofs.ToldFiles.{file_told, file_told_bad, file_told_refused, file_unopened}
use Rattle.sym_files.proofs.Walks.{fails_as, is_some, left_of, rows_as}
use Rattle.sym_files.proofs.Opened.{file_taken, file_bad, head_stops}
use Rattle.sym_files.proofs.one_file.take_file.Goals as goal

pub returns-in_err-cutter-clause-takes : goal.returns-in_err-cutter-clause-takes
returns-in_err-cutter-clause-takes g c =
    let p = checked_plan c.args.work.now.checked in
    let stood = stands_by g.W.Way.stands p c.args.work.now.limit in
    let first = c.args.course.now.next_no in
    let shown = g.W.Way.shown c.args.rounds.now in
    let rows = file_rows c.args.bytes.now in
    let why = c.in_err-cutter.field-0.0 in
    let now = c.args.rounds.now in
    let P : Result (Unit {0}) PassErr → Type 0 = λ r. TakesFile stood (row_records p c.args.course.now.file first (shown_rows shown rows)) first first now now r in
    fails_as c.from_residual.result why P c.from_residual.ensures.1
    (head_stops stood p shown c.args.course.now.file first first rows now now why (c.in_err-cutter.ensures.opens shown))

pub take_rounds-requires-clause-left : goal.take_rounds-requires-clause-left
take_rounds-requires-clause-left g c =
    let is = c.in_ok-cutter.ensures.opens (g.W.Way.shown c.args.rounds.now) in is_some c.in_ok-cutter.cutter.left is.left is.has

pub take_rounds-requires-clause-fits : goal.take_rounds-requires-clause-fits
take_rounds-requires-clause-fits g c = (c.in_ok-cutter.ensures.opens (g.W.Way.shown c.args.rounds.now)).fits

pub returns-in-Done-clause-takes : goal.returns-in-Done-clause-takes
returns-in-Done-clause-takes g c =
    let p = checked_plan c.args.work.now.checked in
    let stood = stands_by g.W.Way.stands p c.args.work.now.limit in
    let shown = g.W.Way.shown c.args.rounds.now in
    let cut = c.in_ok-cutter.cutter in
    let is = c.in_ok-cutter.ensures.opens shown in
    file_taken stood p shown c.args.course.now.file c.args.course.now.next_no c.take_rounds.new.cutter.next_no c.next_no-course.result (file_rows c.args.bytes.now) c.in_ok-cutter.cutter
    c.args.rounds.now c.take_rounds.new.rounds c.next_no-course.ensures is
    (rows_as stood p cut.header cut.next_no c.take_rounds.new.cutter.next_no shown (rows_left cut) is.left c.args.rounds.now c.take_rounds.new.rounds c.in_ok-take_rounds.field-0 took.Done
    (left_of cut.left is.left is.has) c.in-Done.is c.in_ok-take_rounds.ensures.takes)

pub returns-clause-takes : goal.returns-clause-takes
returns-clause-takes g c =
    let p = checked_plan c.args.work.now.checked in
    let stood = stands_by g.W.Way.stands p c.args.work.now.limit in
    let shown = g.W.Way.shown c.args.rounds.now in
    let cut = c.in_ok-cutter.cutter in
    let is = c.in_ok-cutter.ensures.opens shown in
    file_bad p shown c.args.course.now.file c.args.course.now.next_no (file_rows c.args.bytes.now) c.in_ok-cutter.cutter c.in-Bad.bad is
    (rows_as stood p cut.header cut.next_no c.take_rounds.new.cutter.next_no shown (rows_left cut) is.left c.args.rounds.now c.take_rounds.new.rounds c.in_ok-take_rounds.field-0 (took.Bad c.in-Bad.bad)
    (left_of cut.left is.left is.has) c.in-Bad.is c.in_ok-take_rounds.ensures.takes)

pub returns-in_err-cutter-clause-tells : goal.returns-in_err-cutter-clause-tells
returns-in_err-cutter-clause-tells g c = λ start before at.
    let p = checked_plan c.args.work.now.checked in
    let told = tells_by g.W.Way.told p start in
    let first = c.args.course.now.next_no in
    let shown = g.W.Way.shown c.args.rounds.now in
    let per = full_round c.args.course.now.chunk in
    let rows = file_rows c.args.bytes.now in
    let why = c.in_err-cutter.field-0.0 in
    let now = c.args.rounds.now in
    let P : Result (Unit {0}) PassErr → Type 0 = λ r. TellsFile told p per c.args.course.now.file first (shown_rows shown rows) before now r in
    fails_as c.from_residual.result why P c.from_residual.ensures.1
    (file_unopened told p shown per c.args.course.now.file first rows before now why (c.in_err-cutter.ensures.opens shown) at)

pub returns-in_err-take_rounds-clause-tells : goal.returns-in_err-take_rounds-clause-tells
returns-in_err-take_rounds-clause-tells g c = λ start before at.
    let p = checked_plan c.args.work.now.checked in
    let told = tells_by g.W.Way.told p start in
    let first = c.args.course.now.next_no in
    let shown = g.W.Way.shown c.args.rounds.now in
    let per = full_round c.args.course.now.chunk in
    let rows = file_rows c.args.bytes.now in
    let cut = c.in_ok-cutter.cutter in
    let is = c.in_ok-cutter.ensures.opens shown in
    let e = c.in_err-take_rounds.field-0.0 in
    let new = c.take_rounds.new.rounds in
    let P : Result (Unit {0}) PassErr → Type 0 = λ r. TellsFile told p per c.args.course.now.file first (shown_rows shown rows) before new r in
    fails_as c.from_residual-in_err-take_rounds.result pass_err.NoMemory P c.from_residual-in_err-take_rounds.ensures.1
    (file_told_refused told p shown per c.args.course.now.file first rows before new cut (rows_left cut) e is (left_of cut.left is.left is.has) (some_per c.args.course.now.chunk c.requires.some)
    (rows_per told p cut.header shown (full_round cut.chunk) per cut.next_no (rows_left cut) before new (Err e) (Err e) (ap full_round c.in_ok-cutter.ensures.chunk) refl
    (c.in_err-take_rounds.ensures.tells start before at)))

pub returns-in-Done-clause-tells : goal.returns-in-Done-clause-tells
returns-in-Done-clause-tells g c = λ start before at.
    let p = checked_plan c.args.work.now.checked in
    let told = tells_by g.W.Way.told p start in
    let shown = g.W.Way.shown c.args.rounds.now in
    let per = full_round c.args.course.now.chunk in
    let cut = c.in_ok-cutter.cutter in
    let is = c.in_ok-cutter.ensures.opens shown in
    let new = c.take_rounds.new.rounds in
    file_told told p shown per c.args.course.now.file c.args.course.now.next_no (file_rows c.args.bytes.now) before new cut (rows_left cut) is (left_of cut.left is.left is.has)
    (rows_per told p cut.header shown (full_round cut.chunk) per cut.next_no (rows_left cut) before new (Ok c.in_ok-take_rounds.field-0) (Ok took.Done)
    (ap full_round c.in_ok-cutter.ensures.chunk) (ap Ok c.in-Done.is) (c.in_ok-take_rounds.ensures.tells start before at))

pub returns-clause-tells : goal.returns-clause-tells
returns-clause-tells g c = λ start before at.
    let p = checked_plan c.args.work.now.checked in
    let stood = stands_by g.W.Way.stands p c.args.work.now.limit in
    let told = tells_by g.W.Way.told p start in
    let shown = g.W.Way.shown c.args.rounds.now in
    let per = full_round c.args.course.now.chunk in
    let cut = c.in_ok-cutter.cutter in
    let is = c.in_ok-cutter.ensures.opens shown in
    let new = c.take_rounds.new.rounds in
    file_told_bad told p shown per c.args.course.now.file c.args.course.now.next_no (file_rows c.args.bytes.now) before new cut (rows_left cut) c.in-Bad.bad is (left_of cut.left is.left is.has)
    (rows_as stood p cut.header cut.next_no c.take_rounds.new.cutter.next_no shown (rows_left cut) (rows_left cut) c.args.rounds.now new c.in_ok-take_rounds.field-0 (took.Bad c.in-Bad.bad)
    refl c.in-Bad.is c.in_ok-take_rounds.ensures.takes)
    (rows_per told p cut.header shown (full_round cut.chunk) per cut.next_no (rows_left cut) before new (Ok c.in_ok-take_rounds.field-0) (Ok (took.Bad c.in-Bad.bad))
    (ap full_round c.in_ok-cutter.ensures.chunk) (ap Ok c.in-Bad.is) (c.in_ok-take_rounds.ensures.tells start before at))
