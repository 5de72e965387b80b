use Rattle.std.proofs.Common.{◌≤◌, ◌<◌, ◌^◌, ℕ, Vec, Global, List, Result, arith, length, map, subst, sym, take, vec_len}
use Rattle.std.proofs.lemmas.List.Elements.{All-map}
use Rattle.std.specs.List.{All}
use Rattle.std.specs.Result.{IfErr}
use Rattle.std.specs.String.{string_bytes}
use Rattle.sym_check.specs.Checking.CheckedScripts.{checked_plan}
use Rattle.sym_check.specs.Plan.WellFormed.{IsWellFormed}
use Rattle.sym_file.specs.SavedTexts.{printed}
use Rattle.sym_files.specs.Passing.{Holds, MayAll}
use Rattle.sym_run.specs.declared.saved.Saved.{Saved}
use Rattle.sym_reduce.specs.declared.error.ReduceErr.{ReduceErr}
use Rattle.sym_reduce.specs.Joining.{IsJoining, StopsJoin}
use Rattle.sym_reduce.proofs.Files.{fails_as}
use Rattle.sym_reduce.proofs.JoiningFiles.{files_stop, joined_far, next_stops}
use Rattle.sym_reduce.proofs.joins.join_files.Goals as goal

pub returns-in_err-joined-clause-stopped : goal.returns-in_err-joined-clause-stopped
returns-in_err-joined-clause-stopped g c =
    let p = checked_plan c.args.checked.now in
    let formed : IsWellFormed p = subst IsWellFormed c.plan-plan.ensures.same c.plan-plan.ensures.well_formed in
    let script = printed c.args.checked.now in
    let max = c.args.max_bytes in
    let holds = g.F.Store.holds c.args.files.now in
    let names = map string_bytes c.args.names.now in
    let before = g.F.Store.faults c.args.files.now in
    let after = g.F.Store.faults c.read_first-texts.new.files in
    let texts = c.read_first-texts.result.texts in
    let given = c.as_slice.result.now in
    let may = subst (λ (ts : List (Vec ℕ Global)). MayAll holds (take (vec_len texts) names) (map (λ (text : Vec ℕ Global). text.items) ts)) (sym c.as_slice.ensures.value) c.read_first-texts.ensures.may in
    let fit = subst (All (λ (text : Vec ℕ Global). length text.items ≤ max)) (sym c.as_slice.ensures.value) c.read_first-texts.ensures.fit in
    let each = All-map (λ (bytes : List ℕ). length bytes ≤ max) (λ (text : Vec ℕ Global). text.items) given fit in
    let bound : max < 2 ^ 64 = let size = c.requires.size in omega (arith, size) in
    let why = c.in_err-joined.field-0.0 in
    let P : Result Saved ReduceErr → Type 0 = λ r. IfErr r (StopsJoin script p max holds names before after) in
    fails_as c.from_residual.result why P c.from_residual.ensures.1
    (files_stop script p max c.args.limit formed bound holds names before after (vec_len texts) (map (λ (text : Vec ℕ Global). text.items) given) why may each (c.in_err-joined.ensures.stopped max fit))

pub returns-in-Some-clause-stopped : goal.returns-in-Some-clause-stopped
returns-in-Some-clause-stopped g c =
    let p = checked_plan c.args.checked.now in
    let formed : IsWellFormed p = subst IsWellFormed c.plan-plan.ensures.same c.plan-plan.ensures.well_formed in
    let script = printed c.args.checked.now in
    let max = c.args.max_bytes in
    let holds = g.F.Store.holds c.args.files.now in
    let names = map string_bytes c.args.names.now in
    let before = g.F.Store.faults c.args.files.now in
    let after = g.F.Store.faults c.read_first-texts.new.files in
    let texts = c.read_first-texts.result.texts in
    let given = c.as_slice.result.now in
    let may = subst (λ (ts : List (Vec ℕ Global)). MayAll holds (take (vec_len texts) names) (map (λ (text : Vec ℕ Global). text.items) ts)) (sym c.as_slice.ensures.value) c.read_first-texts.ensures.may in
    let fit = subst (All (λ (text : Vec ℕ Global). length text.items ≤ max)) (sym c.as_slice.ensures.value) c.read_first-texts.ensures.fit in
    let bound : max < 2 ^ 64 = let size = c.requires.size in omega (arith, size) in
    let joined = c.in_ok-joined.joined in
    let far = joined_far script p max c.args.limit holds names (map (λ (text : Vec ℕ Global). text.items) given) (vec_len texts) joined may (c.in_ok-joined.ensures.joined max fit) in
    next_stops script p max c.args.limit formed bound holds names before after (vec_len texts) joined c.in-Some.why far (rw c.in-Some.is at c.read_first-texts.ensures.stop)

pub join_rest-requires-clause-joining : goal.join_rest-requires-clause-joining
join_rest-requires-clause-joining g c =
    let p = checked_plan c.args.checked.now in
    let script = printed c.args.checked.now in
    let max = c.args.max_bytes in
    let limit = c.args.limit in
    let holds = g.F.Store.holds c.args.files.now in
    let names = map string_bytes c.args.names.now in
    let texts = c.read_first-texts.result.texts in
    let given = c.as_slice.result.now in
    let may = subst (λ (ts : List (Vec ℕ Global)). MayAll holds (take (vec_len texts) names) (map (λ (text : Vec ℕ Global). text.items) ts)) (sym c.as_slice.ensures.value) c.read_first-texts.ensures.may in
    let fit = subst (All (λ (text : Vec ℕ Global). length text.items ≤ max)) (sym c.as_slice.ensures.value) c.read_first-texts.ensures.fit in
    let joined = c.in_ok-joined.joined in
    let far = joined_far script p max limit holds names (map (λ (text : Vec ℕ Global). text.items) given) (vec_len texts) joined may (c.in_ok-joined.ensures.joined max fit) in
    subst (λ (n : ℕ). IsJoining script p max limit (g.F.Store.holds c.read_first-texts.new.files) names n joined) (sym c.len.ensures)
    (subst (λ (h : Holds). IsJoining script p max limit h names (vec_len texts) joined) (sym c.read_first-texts.ensures.same) far)
