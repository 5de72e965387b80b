use Rattle.std.proofs.Common.{◌∙◌, ◌≤◌, ◌<◌, ◌^◌, ℕ, refl, subst, sym, arith, map, length, Result}
use Rattle.std.specs.Result.{IfErr}
use Rattle.std.specs.String.{string_bytes}
use Rattle.std.proofs.lemmas.List.{length-map}
use Rattle.sym_check.specs.Checking.CheckedScripts.{checked_plan}
use Rattle.sym_check.specs.Plan.WellFormed.{IsWellFormed}
use Rattle.sym_files.proofs.FileByFile.{may_as, name_at}
use Rattle.sym_file.specs.SavedTexts.{printed}
use Rattle.sym_run.specs.declared.saved.Saved.{Saved}
use Rattle.sym_reduce.specs.declared.error.ReduceErr.{ReduceErr}
use Rattle.sym_reduce.specs.Joining.{StopsJoin}
use Rattle.sym_reduce.proofs.Files.{fails_as, unread_as}
use Rattle.sym_reduce.proofs.JoiningFiles.{all_joined, joining_on, none_at_end, unjoined_stops, unread_stops}
use Rattle.sym_reduce.proofs.joins.join_rest.Goals as goal

pub files-init : goal.files-init
files-init g c = record { joining = c.requires.joining; able = c.requires.joinable; same = refl; later = λ other. omega arith }

pub files-preserved : goal.files-preserved
files-preserved g c =
    let p = checked_plan c.args.checked.now in
    let formed : IsWellFormed p = subst IsWellFormed c.plan-plan.ensures.same c.plan-plan.ensures.well_formed in
    let holds = g.F.Store.holds c.args.files.now in
    let names = map string_bytes c.args.names.now in
    let k = c.files.file in
    let name = c.as_str.result.now in
    let bytes = c.as_slice.result.now in
    let is = c.files.invariant in
    let at = name_at string_bytes c.args.names.now k c.index-names-file.result name c.files-test.true c.index-names-file.is c.as_str.ensures.value in
    let may = may_as (g.F.Store.holds c.files.files) holds name c.in_ok-bytes.bytes.items bytes is.same c.as_slice.ensures.value c.in_ok-bytes.ensures.read in
    let size : length bytes ≤ c.args.options.max_bytes = rw c.as_slice.ensures.value c.in_ok-bytes.ensures.fits in
    let file = c.in_ok-more.ensures.joins in
    record {
      joining = joining_on (printed c.args.checked.now) p c.args.options.max_bytes c.args.options.limit formed holds names k c.files.joined name bytes file.saved c.in_ok-more.more is.joining at may size file.is file.follows
          c.in_ok-more.ensures.joinable file.joins;
      able = c.in_ok-more.ensures.joinable;
      same = c.in_ok-bytes.ensures.same ∙ is.same;
      later = λ other. omega (arith, c.in_ok-bytes.ensures.later other, is.later other);
    }

pub returns-in_err-bytes-clause-stopped : goal.returns-in_err-bytes-clause-stopped
returns-in_err-bytes-clause-stopped g c =
    let p = checked_plan c.args.checked.now in
    let formed : IsWellFormed p = subst IsWellFormed c.plan-plan.ensures.same c.plan-plan.ensures.well_formed in
    let script = printed c.args.checked.now in
    let holds = g.F.Store.holds c.args.files.now in
    let names = map string_bytes c.args.names.now in
    let before = g.F.Store.faults c.args.files.now in
    let during = g.F.Store.faults c.files.files in
    let after = g.F.Store.faults c.read_file.new.files in
    let k = c.files.file in
    let name = c.as_str.result.now in
    let at = name_at string_bytes c.args.names.now k c.index-names-file.result name c.files-test.true c.index-names-file.is c.as_str.ensures.value in
    let why = c.in_err-bytes.field-0.0 in
    let unread = unread_as c.args.options.max_bytes k (g.F.Store.holds c.files.files) holds name (during name) (after name) why c.files.invariant.same c.in_err-bytes.ensures.unread in
    let bound : c.args.options.max_bytes < 2 ^ 64 = let size = c.requires.size in omega (arith, size) in
    let P : Result Saved ReduceErr → Type 0 = λ r. IfErr r (StopsJoin script p c.args.options.max_bytes holds names before after) in
    fails_as c.from_residual.result why P c.from_residual.ensures.1
    (unread_stops script p c.args.options.max_bytes c.args.options.limit formed bound holds names before during after k c.files.joined name why c.files.invariant.joining at (c.files.invariant.later name) unread)

pub returns-in_err-more-clause-stopped : goal.returns-in_err-more-clause-stopped
returns-in_err-more-clause-stopped g c =
    let p = checked_plan c.args.checked.now in
    let formed : IsWellFormed p = subst IsWellFormed c.plan-plan.ensures.same c.plan-plan.ensures.well_formed in
    let script = printed c.args.checked.now in
    let holds = g.F.Store.holds c.args.files.now in
    let names = map string_bytes c.args.names.now in
    let before = g.F.Store.faults c.args.files.now in
    let after = g.F.Store.faults c.read_file.new.files in
    let k = c.files.file in
    let name = c.as_str.result.now in
    let bytes = c.as_slice.result.now in
    let is = c.files.invariant in
    let why = c.in_err-more.field-0.0 in
    let at = name_at string_bytes c.args.names.now k c.index-names-file.result name c.files-test.true c.index-names-file.is c.as_str.ensures.value in
    let may = may_as (g.F.Store.holds c.files.files) holds name c.in_ok-bytes.bytes.items bytes is.same c.as_slice.ensures.value c.in_ok-bytes.ensures.read in
    let size : length bytes ≤ c.args.options.max_bytes = rw c.as_slice.ensures.value c.in_ok-bytes.ensures.fits in
    let bound : c.args.options.max_bytes < 2 ^ 64 = let size = c.requires.size in omega (arith, size) in
    let P : Result Saved ReduceErr → Type 0 = λ r. IfErr r (StopsJoin script p c.args.options.max_bytes holds names before after) in
    fails_as c.from_residual-in_err-more.result why P c.from_residual-in_err-more.ensures.1
    (unjoined_stops script p c.args.options.max_bytes c.args.options.limit formed bound holds names before after k c.files.joined name bytes why is.joining at may size c.in_err-more.ensures.joins)

pub returns-in-Some-clause-joined : goal.returns-in-Some-clause-joined
returns-in-Some-clause-joined g c =
    let p = checked_plan c.args.checked.now in
    let few : length (map string_bytes c.args.names.now) ≤ c.files.file = simp length-map (omega arith) in
    all_joined (printed c.args.checked.now) p c.args.options.max_bytes c.args.options.limit (g.F.Store.holds c.args.files.now) (map string_bytes c.args.names.now) c.files.file c.in-Some.saved (rw c.in-Some.is at c.files.invariant.joining) few

pub returns-in-None-clause-joined : goal.returns-in-None-clause-joined
returns-in-None-clause-joined g c =
    let p = checked_plan c.args.checked.now in
    let few : length (map string_bytes c.args.names.now) ≤ c.files.file = simp length-map (omega arith) in
    none_at_end (printed c.args.checked.now) p c.args.options.max_bytes c.args.options.limit (g.F.Store.holds c.args.files.now) (map string_bytes c.args.names.now) c.files.file _ (rw c.in-None.is at c.files.invariant.joining) few
    refl refl c.new.ensures
