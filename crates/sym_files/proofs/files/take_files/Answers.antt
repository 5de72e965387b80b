use Rattle.std.proofs.Common.{◌≡◌, ◌∙◌, ◌≤◌, ℕ, refl, ap, arith, map, length, Result, Ok, Err}
use Rattle.std.specs.Result.{IfErr}
use Rattle.std.proofs.lemmas.List.{length-map}
use Rattle.std.specs.String.{string_bytes}
use Rattle.sym_check.specs.Checking.CheckedScripts.{checked_plan}
use Rattle.sym_files.specs.declared.error.PassErr.{PassErr}
use Rattle.sym_files.specs.declared.error.PassErr.TheVariants as pass_err
use Rattle.sym_files.specs.FileRecords.{row_records, rows_by, rules_of}
use Rattle.sym_files.specs.FileRounds.{UntilStop, named_files}
use Rattle.sym_files.specs.Taking.{full_round}
use Rattle.sym_files.specs.Telling.{TellsAnywhere, tells_by}
use Rattle.sym_files.specs.Telling as point
use Rattle.sym_files.proofs.ToldRows.{between_as}
use Rattle.sym_files.proofs.ToldFiles.{all_told, file_told_as, next_by, of_some, told_files_begin, told_files_on, unread_told, untaken_told}
use Rattle.sym_files.specs.Passing.{StopsFrom}
use Rattle.sym_files.specs.Rounds.{stands_by}
use Rattle.sym_files.proofs.Walks.{fails_as}
use Rattle.sym_files.proofs.Opened.{file_as}
use Rattle.sym_table.specs.FileRows.{file_rows}
use Rattle.sym_files.proofs.FileByFile.{pass_begins, pass_on, number_few, unread_stops, untaken_stops, name_at, may_as, unread_as}
use Rattle.sym_files.proofs.files.take_files.Goals as goal

pub files-init : goal.files-init
files-init g c =
    let p = checked_plan c.args.checked.now in
    record {
      passing =
          pass_begins (stands_by g.W.Way.stands p c.args.log.now.options.now.limit) p (rules_of c.args.log.now.options.now.max_bytes (g.W.Way.shown c.args.rounds.now))
          (g.F.Store.holds c.args.files.now) (map string_bytes c.args.log.now.names.now) c.args.log.now.first c.args.rounds.now;
      told = λ start at.
          told_files_begin (tells_by g.W.Way.told p start)
          (named_files p (rules_of c.args.log.now.options.now.max_bytes (g.W.Way.shown c.args.rounds.now)) c.args.log.now.options.now.chunk (g.F.Store.holds c.args.files.now) (map string_bytes c.args.log.now.names.now) c.args.log.now.first)
          c.args.rounds.now at;
      few = omega arith;
      chunk = refl;
      checked = c.in_ok-copy.ensures.plan;
      limit = refl;
      shown = refl;
      same = refl;
      later = λ other. omega arith;
    }

pub files-preserved : goal.files-preserved
files-preserved g c =
    let p = checked_plan c.args.checked.now in
    let limit = c.args.log.now.options.now.limit in
    let stood = stands_by g.W.Way.stands p limit in
    let shown = g.W.Way.shown c.args.rounds.now in
    let rules = rules_of c.args.log.now.options.now.max_bytes shown in
    let holds = g.F.Store.holds c.args.files.now in
    let names = map string_bytes c.args.log.now.names.now in
    let k = c.files.file in
    let name = c.as_str.result.now in
    let bytes = c.as_slice-bytes.result.now in
    let is = c.files.invariant in
    let first = c.files.course.next_no in
    let next = c.take_file.new.course.next_no in
    let at = name_at string_bytes c.args.log.now.names.now k c.index-names-file.result name c.files-test.true c.index-names-file.is c.as_str.ensures.value in
    let may = may_as (g.F.Store.holds c.files.files) holds name c.in_ok-bytes.bytes.items bytes is.same c.as_slice-bytes.ensures.value c.in_ok-bytes.ensures.read in
    let size : length bytes ≤ c.args.log.now.options.now.max_bytes = rw c.as_slice-bytes.ensures.value c.in_ok-bytes.ensures.fits in
    let takes =
    file_as {A = Unit {0}} g.W.Way.stands (checked_plan c.files.work.checked) p c.files.work.limit limit (g.W.Way.shown c.files.rounds) shown k first next (file_rows bytes)
    c.files.rounds c.take_file.new.rounds (Ok tt) is.checked is.limit is.shown c.in_ok-take_file.ensures.takes in
    let few = number_few stood p rules k first next c.files.rounds c.take_file.new.rounds bytes size takes in
    record {
      passing = pass_on stood p rules holds names c.args.log.now.first k first next c.args.rounds.now c.files.rounds c.take_file.new.rounds name bytes is.passing at may size takes;
      told = λ start stood_at.
          let t = is.told start stood_at in
          let told_file =
          file_told_as g.W.Way.told (checked_plan c.files.work.checked) p start (g.W.Way.shown c.files.rounds) shown (full_round c.files.course.chunk) (full_round c.args.log.now.options.now.chunk) k first
          (file_rows bytes) t.rounds c.take_file.new.rounds (Ok tt) is.checked is.shown (ap full_round is.chunk)
          (c.in_ok-take_file.ensures.tells start t.rounds (between_as g.W.Way.told (checked_plan c.files.work.checked) p start t.rounds c.files.rounds is.checked t.told_of)) in
          told_files_on (tells_by g.W.Way.told p start) (named_files p rules c.args.log.now.options.now.chunk holds names c.args.log.now.first) k first next c.files.rounds c.take_file.new.rounds name bytes
          t at may size told_file (next_by first next (row_records p k first (rows_by rules bytes)) takes.records told_file.rounds takes.next_is takes.are told_file.read_as);
      few = omega (arith, few, is.few, c.requires.options.most_bytes);
      chunk = c.take_file.ensures.chunk ∙ is.chunk;
      checked = c.take_file.ensures.checked ∙ is.checked;
      limit = c.take_file.ensures.same ∙ is.limit;
      shown = c.take_file.ensures.shown ∙ is.shown;
      same = c.in_ok-bytes.ensures.same ∙ is.same;
      later = λ other. omega (arith, c.in_ok-bytes.ensures.later other, is.later other);
    }

pub returns-in_err-bytes-clause-stopped : goal.returns-in_err-bytes-clause-stopped
returns-in_err-bytes-clause-stopped g c =
    let p = checked_plan c.args.checked.now in
    let stood = stands_by g.W.Way.stands p c.args.log.now.options.now.limit in
    let rules = rules_of c.args.log.now.options.now.max_bytes (g.W.Way.shown c.args.rounds.now) in
    let holds = g.F.Store.holds c.args.files.now in
    let names = map string_bytes c.args.log.now.names.now in
    let before = g.F.Store.faults c.args.files.now in
    let during = g.F.Store.faults c.files.files in
    let after = g.F.Store.faults c.read_file.new.files in
    let k = c.files.file in
    let name = c.as_str.result.now in
    let at = name_at string_bytes c.args.log.now.names.now k c.index-names-file.result name c.files-test.true c.index-names-file.is c.as_str.ensures.value in
    let why = c.in_err-bytes.field-0.0 in
    let unread = unread_as c.args.log.now.options.now.max_bytes k (g.F.Store.holds c.files.files) holds name (during name) (after name) why c.files.invariant.same c.in_err-bytes.ensures.unread in
    let P : Result ℕ PassErr → Type 0 = λ r. IfErr r (StopsFrom c.args.log.now.first p rules holds names before after) in
    fails_as c.from_residual-in_err-bytes.result why P c.from_residual-in_err-bytes.ensures.1
    (unread_stops stood p rules holds names before during after c.args.log.now.first k c.files.course.next_no c.args.rounds.now c.files.rounds name why c.files.invariant.passing at (c.files.invariant.later name) unread)

pub returns-in_err-take_file-clause-stopped : goal.returns-in_err-take_file-clause-stopped
returns-in_err-take_file-clause-stopped g c =
    let p = checked_plan c.args.checked.now in
    let limit = c.args.log.now.options.now.limit in
    let stood = stands_by g.W.Way.stands p limit in
    let shown = g.W.Way.shown c.args.rounds.now in
    let rules = rules_of c.args.log.now.options.now.max_bytes shown in
    let holds = g.F.Store.holds c.args.files.now in
    let names = map string_bytes c.args.log.now.names.now in
    let before = g.F.Store.faults c.args.files.now in
    let after = g.F.Store.faults c.read_file.new.files in
    let k = c.files.file in
    let name = c.as_str.result.now in
    let bytes = c.as_slice-bytes.result.now in
    let is = c.files.invariant in
    let first = c.files.course.next_no in
    let next = c.take_file.new.course.next_no in
    let why = c.in_err-take_file.field-0.0 in
    let at = name_at string_bytes c.args.log.now.names.now k c.index-names-file.result name c.files-test.true c.index-names-file.is c.as_str.ensures.value in
    let may = may_as (g.F.Store.holds c.files.files) holds name c.in_ok-bytes.bytes.items bytes is.same c.as_slice-bytes.ensures.value c.in_ok-bytes.ensures.read in
    let size : length bytes ≤ c.args.log.now.options.now.max_bytes = rw c.as_slice-bytes.ensures.value c.in_ok-bytes.ensures.fits in
    let takes =
    file_as {A = Unit {0}} g.W.Way.stands (checked_plan c.files.work.checked) p c.files.work.limit limit (g.W.Way.shown c.files.rounds) shown k first next (file_rows bytes)
    c.files.rounds c.take_file.new.rounds (Err why) is.checked is.limit is.shown c.in_err-take_file.ensures.takes in
    let P : Result ℕ PassErr → Type 0 = λ r. IfErr r (StopsFrom c.args.log.now.first p rules holds names before after) in
    fails_as c.from_residual-in_err-take_file.result why P c.from_residual-in_err-take_file.ensures.1
    (untaken_stops stood p rules holds names before after c.args.log.now.first k first next c.args.rounds.now c.files.rounds c.take_file.new.rounds name bytes why is.passing at may size takes)

pub returns-in_err-copy-clause-told_until : goal.returns-in_err-copy-clause-told_until
returns-in_err-copy-clause-told_until g c = λ start at.
    let p = checked_plan c.args.checked.now in
    let told = tells_by g.W.Way.told p start in
    let rules = rules_of c.args.log.now.options.now.max_bytes (g.W.Way.shown c.args.rounds.now) in
    let w = named_files p rules c.args.log.now.options.now.chunk (g.F.Store.holds c.args.files.now) (map string_bytes c.args.log.now.names.now) c.args.log.now.first in
    let now = c.args.rounds.now in
    let P : Result ℕ PassErr → Type 0 = λ r. IfErr r (UntilStop w (told now point.between) (told now point.at_bad) (TellsAnywhere told now)) in
    fails_as c.from_residual.result pass_err.NoMemory P c.from_residual.ensures.1
    (of_some told w 0 c.args.log.now.first now (told_files_begin told w now at))

pub returns-in_err-bytes-clause-told_until : goal.returns-in_err-bytes-clause-told_until
returns-in_err-bytes-clause-told_until g c = λ start at.
    let p = checked_plan c.args.checked.now in
    let told = tells_by g.W.Way.told p start in
    let rules = rules_of c.args.log.now.options.now.max_bytes (g.W.Way.shown c.args.rounds.now) in
    let w = named_files p rules c.args.log.now.options.now.chunk (g.F.Store.holds c.args.files.now) (map string_bytes c.args.log.now.names.now) c.args.log.now.first in
    let now = c.files.rounds in
    let name = c.as_str.result.now in
    let why = c.in_err-bytes.field-0.0 in
    let P : Result ℕ PassErr → Type 0 = λ r. IfErr r (UntilStop w (told now point.between) (told now point.at_bad) (TellsAnywhere told now)) in
    fails_as c.from_residual-in_err-bytes.result why P c.from_residual-in_err-bytes.ensures.1
    (unread_told told w c.files.file c.files.course.next_no c.args.log.now.options.now.max_bytes (g.F.Store.faults c.files.files name) (g.F.Store.faults c.read_file.new.files name)
    (g.F.Store.holds c.files.files name) now why (c.files.invariant.told start at) c.in_err-bytes.ensures.unread)

pub returns-in_err-take_file-clause-told_until : goal.returns-in_err-take_file-clause-told_until
returns-in_err-take_file-clause-told_until g c = λ start stood_at.
    let p = checked_plan c.args.checked.now in
    let limit = c.args.log.now.options.now.limit in
    let stood = stands_by g.W.Way.stands p limit in
    let shown = g.W.Way.shown c.args.rounds.now in
    let rules = rules_of c.args.log.now.options.now.max_bytes shown in
    let holds = g.F.Store.holds c.args.files.now in
    let names = map string_bytes c.args.log.now.names.now in
    let k = c.files.file in
    let name = c.as_str.result.now in
    let bytes = c.as_slice-bytes.result.now in
    let is = c.files.invariant in
    let first = c.files.course.next_no in
    let next = c.take_file.new.course.next_no in
    let why = c.in_err-take_file.field-0.0 in
    let at = name_at string_bytes c.args.log.now.names.now k c.index-names-file.result name c.files-test.true c.index-names-file.is c.as_str.ensures.value in
    let may = may_as (g.F.Store.holds c.files.files) holds name c.in_ok-bytes.bytes.items bytes is.same c.as_slice-bytes.ensures.value c.in_ok-bytes.ensures.read in
    let size : length bytes ≤ c.args.log.now.options.now.max_bytes = rw c.as_slice-bytes.ensures.value c.in_ok-bytes.ensures.fits in
    let t = is.told start stood_at in
    let told_file =
    file_told_as g.W.Way.told (checked_plan c.files.work.checked) p start (g.W.Way.shown c.files.rounds) shown (full_round c.files.course.chunk) (full_round c.args.log.now.options.now.chunk) k first
    (file_rows bytes) t.rounds c.take_file.new.rounds (Err why) is.checked is.shown (ap full_round is.chunk)
    (c.in_err-take_file.ensures.tells start t.rounds (between_as g.W.Way.told (checked_plan c.files.work.checked) p start t.rounds c.files.rounds is.checked t.told_of)) in
    let told = tells_by g.W.Way.told p start in
    let w = named_files p rules c.args.log.now.options.now.chunk holds names c.args.log.now.first in
    let later = c.take_file.new.rounds in
    let P : Result ℕ PassErr → Type 0 = λ r. IfErr r (UntilStop w (told later point.between) (told later point.at_bad) (TellsAnywhere told later)) in
    fails_as c.from_residual-in_err-take_file.result why P c.from_residual-in_err-take_file.ensures.1
    (untaken_told told w k first c.files.rounds later name bytes why t at may size told_file)

pub returns-clause-told : goal.returns-clause-told
returns-clause-told g c = λ start at.
    let p = checked_plan c.args.checked.now in
    let names = c.args.log.now.names.now in
    let rules = rules_of c.args.log.now.options.now.max_bytes (g.W.Way.shown c.args.rounds.now) in
    let w = named_files p rules c.args.log.now.options.now.chunk (g.F.Store.holds c.args.files.now) (map string_bytes names) c.args.log.now.first in
    let k = c.files.file in
    let all : k ≡ length (map string_bytes names) = omega (arith, c.files-test.false, c.files.auto.file-end, length-map names string_bytes) in
    all_told (tells_by g.W.Way.told p start) w k c.files.course.next_no c.files.rounds all (c.files.invariant.told start at)
