use Rattle.std.proofs.Common.{◌∙◌, ◌≤◌, [], refl, sym, subst, arith, map, length, Result}
use Rattle.std.specs.Result.{IfErr}
use Rattle.std.specs.String.{string_bytes}
use Rattle.std.proofs.lemmas.List.{length-map}
use Rattle.std.proofs.lemmas.List.Elements.{All-nil}
use Rattle.sym_check.specs.Checking.CheckedScripts.{checked_plan}
use Rattle.sym_files.proofs.FileByFile.{may_as, name_at}
use Rattle.sym_file.specs.SavedTexts.{printed}
use Rattle.sym_run.specs.Applying.{AreValid}
use Rattle.sym_reduce.specs.declared.error.ReduceErr.{ReduceErr}
use Rattle.sym_file.specs.TakenTexts.{Pairs}
use Rattle.sym_reduce.specs.Reducing.{StopsReduce}
use Rattle.sym_reduce.proofs.Files.{begins, ends, fails_as, goes_on, unread_as, unread_stops, untaken_stops}
use Rattle.sym_reduce.proofs.Led.{reduced_kinds}
use Rattle.sym_reduce.proofs.run_files.reduce_files.Goals as goal

pub files-init : goal.files-init
files-init g c =
    let p = checked_plan c.args.checked.now in
    record {
      reducing = begins (printed c.args.checked.now) p c.args.max_bytes (g.F.Store.holds c.args.files.now) (map string_bytes c.args.names.now) c.new-totals.result c.new-totals.ensures;
      valid = subst (AreValid p) (sym c.new-totals.ensures) (All-nil _);
      same = refl;
      later = λ other. omega arith;
    }

pub files-preserved : goal.files-preserved
files-preserved g c =
    let p = checked_plan c.args.checked.now in
    let holds = g.F.Store.holds c.args.files.now in
    let names = map string_bytes c.args.names.now in
    let k = c.files.file in
    let name = c.as_str.result.now in
    let bytes = c.as_slice.result.now in
    let is = c.files.invariant in
    let at = name_at string_bytes c.args.names.now k c.index-names-file.result name c.files-test.true c.index-names-file.is c.as_str.ensures.value in
    let may = may_as (g.F.Store.holds c.files.files) holds name c.in_ok-bytes.bytes.items bytes is.same c.as_slice.ensures.value c.in_ok-bytes.ensures.read in
    let size : length bytes ≤ c.args.max_bytes = rw c.as_slice.ensures.value c.in_ok-bytes.ensures.fits in
    let takes = c.in_ok-step.ensures.takes in
    record {
      reducing = goes_on (printed c.args.checked.now) p c.args.max_bytes holds names k c.files.next c.in_ok-step.step.next c.files.totals c.in_ok-step.step.totals name bytes takes.0 is.reducing at may size takes.1 takes.2;
      valid = c.in_ok-step.ensures.valid;
      same = c.in_ok-bytes.ensures.same ∙ is.same;
      later = λ other. omega (arith, c.in_ok-bytes.ensures.later other, is.later other);
    }

pub returns-in_err-bytes-clause-stopped : goal.returns-in_err-bytes-clause-stopped
returns-in_err-bytes-clause-stopped g c =
    let p = checked_plan c.args.checked.now in
    let script = printed c.args.checked.now in
    let holds = g.F.Store.holds c.args.files.now in
    let names = map string_bytes c.args.names.now in
    let before = g.F.Store.faults c.args.files.now in
    let during = g.F.Store.faults c.files.files in
    let after = g.F.Store.faults c.read_file.new.files in
    let k = c.files.file in
    let name = c.as_str.result.now in
    let at = name_at string_bytes c.args.names.now k c.index-names-file.result name c.files-test.true c.index-names-file.is c.as_str.ensures.value in
    let why = c.in_err-bytes.field-0.0 in
    let unread = unread_as c.args.max_bytes k (g.F.Store.holds c.files.files) holds name (during name) (after name) why c.files.invariant.same c.in_err-bytes.ensures.unread in
    let P : Result Pairs ReduceErr → Type 0 = λ r. IfErr r (StopsReduce script p c.args.max_bytes holds names before after) in
    fails_as c.from_residual.result why P c.from_residual.ensures.1
    (unread_stops script p c.args.max_bytes holds names before during after k c.files.next c.files.totals name why c.files.invariant.reducing at (c.files.invariant.later name) unread)

pub returns-in_err-step-clause-stopped : goal.returns-in_err-step-clause-stopped
returns-in_err-step-clause-stopped g c =
    let p = checked_plan c.args.checked.now in
    let script = printed c.args.checked.now in
    let holds = g.F.Store.holds c.args.files.now in
    let names = map string_bytes c.args.names.now in
    let before = g.F.Store.faults c.args.files.now in
    let after = g.F.Store.faults c.read_file.new.files in
    let k = c.files.file in
    let name = c.as_str.result.now in
    let bytes = c.as_slice.result.now in
    let is = c.files.invariant in
    let why = c.in_err-step.field-0.0 in
    let at = name_at string_bytes c.args.names.now k c.index-names-file.result name c.files-test.true c.index-names-file.is c.as_str.ensures.value in
    let may = may_as (g.F.Store.holds c.files.files) holds name c.in_ok-bytes.bytes.items bytes is.same c.as_slice.ensures.value c.in_ok-bytes.ensures.read in
    let size : length bytes ≤ c.args.max_bytes = rw c.as_slice.ensures.value c.in_ok-bytes.ensures.fits in
    let P : Result Pairs ReduceErr → Type 0 = λ r. IfErr r (StopsReduce script p c.args.max_bytes holds names before after) in
    fails_as c.from_residual-in_err-step.result why P c.from_residual-in_err-step.ensures.1
    (untaken_stops script p c.args.max_bytes holds names before after k c.files.next c.files.totals name bytes why is.reducing at may size c.in_err-step.ensures.takes)

pub returns-clause-reduced : goal.returns-clause-reduced
returns-clause-reduced g c =
    let few : length (map string_bytes c.args.names.now) ≤ c.files.file = simp length-map (omega arith) in
    ends (printed c.args.checked.now) (checked_plan c.args.checked.now) c.args.max_bytes (g.F.Store.holds c.args.files.now) (map string_bytes c.args.names.now) c.files.file
    c.files.next c.files.totals c.files.invariant.reducing few

pub returns-clause-keys : goal.returns-clause-keys
returns-clause-keys g c =
    let p = checked_plan c.args.checked.now in
    let script = printed c.args.checked.now in
    let few : length (map string_bytes c.args.names.now) ≤ c.files.file = simp length-map (omega arith) in
    let all =
    ends script p c.args.max_bytes (g.F.Store.holds c.args.files.now) (map string_bytes c.args.names.now) c.files.file c.files.next c.files.totals
    c.files.invariant.reducing few in
    reduced_kinds p script c.args.max_bytes 1 [] all.files all.end c.files.totals (All-nil _) all.reduced
